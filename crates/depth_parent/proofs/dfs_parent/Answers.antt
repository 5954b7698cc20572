-- The number is asked first, on areas that are only read; where it is 0 the search can begin.
use Rattle.std.proofs.Common.{[], ◌∷◌, sym}
use Rattle.graphs.specs.Refusals.{lent}
use Rattle.images.specs.Checking.{image_of}
use Rattle.walks.proofs.Numbers.{own-test}
use Rattle.depth_parent.proofs.Parents.{walk_begins}
use Rattle.depth_parent.proofs.dfs_parent.Goals as goal

pub search-requires : goal.search-requires
search-requires c =
    let a = c.args in
    let taken = sym (c.in_ok-check_walk.ensures (lent a.g.now.n a.parents.now ∷ []) (own-test a.g.now.n a.parents.now)) in
    walk_begins (image_of a.g.now) a.before.now a.start.0 a.marks.now a.parents.now a.events.now taken
