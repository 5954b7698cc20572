-- A walk taken can begin.
use Rattle.std.proofs.Common.{[], refl}
use Rattle.breadth_folded.proofs.Threads.{can_begin}
use Rattle.breadth_folded.proofs.bfs_folded.Goals as goal

pub search-requires : goal.search-requires
search-requires c = can_begin _ _ _ _ _ (c.in_ok-check_walk.ensures [] refl)
