-- A walk taken can begin.
use Rattle.std.proofs.Common.{[], ◌∷◌}
use Rattle.graphs.specs.Refusals.{lent}
use Rattle.walks.proofs.Numbers.{own-test}
use Rattle.breadth_queue.proofs.Queueing.{can_begin}
use Rattle.breadth_queue.proofs.bfs_queue.Goals as goal

pub search-requires : goal.search-requires
search-requires c = let a = c.args in can_begin _ _ _ _ _ _ (c.in_ok-check_walk.ensures (lent a.g.now.n a.queue.now ∷ []) (own-test a.g.now.n a.queue.now))
