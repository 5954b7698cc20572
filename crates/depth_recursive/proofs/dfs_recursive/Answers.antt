-- The recursive walk is the search of the start, with nothing labelled.
use Rattle.std.proofs.Common.{[], refl, sym}
use Rattle.images.specs.Checking.{image_of}
use Rattle.depth_recursive.proofs.Recursion.{walk_begins, walk_ends}
use Rattle.depth_recursive.proofs.dfs_recursive.Goals as goal

pub search_vertex-requires : goal.search_vertex-requires
search_vertex-requires c =
    let a = c.args in
    let S = walk_begins (image_of a.g.now) a.before.now a.start.0 a.marks.now a.events.now (sym (c.in_ok-check_walk.ensures [] refl)) (rw c.nodes.ensures.count at c.mark_blanks.ensures) in
    record { before = a.before.now; h = []; marks₀ = a.marks.now; events₀ = a.events.now; searching = S }

pub returns : goal.returns
returns c =
    let a = c.args in
    let g = image_of a.g.now in
    let taken = sym (c.in_ok-check_walk.ensures [] refl) in
    let S = walk_begins g a.before.now a.start.0 a.marks.now a.events.now taken (rw c.nodes.ensures.count at c.mark_blanks.ensures) in
    walk_ends g a.before.now a.start.0 a.marks.now a.events.now taken (c.search_vertex.ensures a.before.now [] a.marks.now a.events.now S)
