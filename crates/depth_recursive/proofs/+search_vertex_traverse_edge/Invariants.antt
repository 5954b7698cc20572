-- What falls is the number of vertices not yet labelled, twice; an edge is one more than the vertex that it may lead to. Along a list it is
-- the number of edges left.
use Rattle.std.proofs.Common.{◌+◌, ◌-◌, ◌*◌, get_or}
use Rattle.graphs.proofs.Sound.{edges_left}
use Rattle.images.specs.Checking.{image_of}
use Rattle.depth_recursive.proofs.Recursion.{Loop}
use Rattle.depth_recursive.proofs.+search_vertex_traverse_edge.Given as goal

abbrev pub decreases-search_vertex : goal.decreases-search_vertex
decreases-search_vertex l = 2 * (l.g.now.n - get_or l.tally 0 0)

abbrev pub decreases-traverse_edge : goal.decreases-traverse_edge
decreases-traverse_edge l = 2 * (l.g.now.n - get_or l.tally 0 0) + 1

abbrev pub invariant-search_vertex-loop-r : goal.invariant-search_vertex-loop-r
invariant-search_vertex-loop-r l = Loop (image_of l.g) l.u.0 l.initial.marks l.initial.events l.initial.t l.initial.r l.marks l.events l.t l.r

abbrev pub decreases-search_vertex-loop-r : goal.decreases-search_vertex-loop-r
decreases-search_vertex-loop-r l = edges_left l.g.m l.g.after.now l.r
