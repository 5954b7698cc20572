-- Searching a vertex and traversing an edge call each other. Between two edges, what is still ahead makes up the search of the vertex.
use Rattle.std.proofs.Common.{arith}
use Rattle.depth_recursive.proofs.Recursion.{edge-reads, pass-held, tree-search, tree-can, tree_falls, tree-held, search-begins, search-falls, way_at, way-ends, way-edge, way-can, way-turns, way-falls}
use Rattle.depth_recursive.proofs.+search_vertex_traverse_edge.Goals as goal

pub search_vertex-traverse_edge-s-requires : goal.search_vertex-traverse_edge-s-requires
search_vertex-traverse_edge-s-requires t c =
    let U = way_at c.requires (c.label-t.ensures.tally, (c.label-t.ensures.marks, c.label-t.ensures.events)) c.loop-r.invariant in
    (omega (arith, c.decreases, search-falls c.requires.searching U), way-can U c.loop-r-test.true)

pub search_vertex-bounds-g-r : goal.search_vertex-bounds-g-r
search_vertex-bounds-g-r t c =
    let U = way_at c.requires (c.label-t.ensures.tally, (c.label-t.ensures.marks, c.label-t.ensures.events)) c.loop-r.invariant in
    let f = edge-reads (way-edge U c.loop-r-test.true) in omega arith

pub search_vertex-loop-r-smaller : goal.search_vertex-loop-r-smaller
search_vertex-loop-r-smaller t c =
    let U = way_at c.requires (c.label-t.ensures.tally, (c.label-t.ensures.marks, c.label-t.ensures.events)) c.loop-r.invariant in
    way-falls U c.loop-r-test.true

pub search_vertex-loop-r-preserved : goal.search_vertex-loop-r-preserved
search_vertex-loop-r-preserved t c = λ before h marks₀ events₀ B.
    let U = c.loop-r.invariant before h marks₀ events₀ B in
    way-turns U c.loop-r-test.true (c.traverse_edge-s.ensures before U.so_far marks₀ events₀ (way-edge U c.loop-r-test.true))

pub search_vertex-returns : goal.search_vertex-returns
search_vertex-returns t c = λ before h marks₀ events₀ S.
    way-ends (c.loop-r.invariant before h marks₀ events₀ (search-begins S (c.label-t.ensures.tally, (c.label-t.ensures.marks, c.label-t.ensures.events)))) c.loop-r-test.false (c.emit.ensures.tally, c.emit.ensures.events)

pub traverse_edge-overflow_sub-x-3 : goal.traverse_edge-overflow_sub-x-3
traverse_edge-overflow_sub-x-3 t c = let f = edge-reads c.requires.traversing in omega arith

pub traverse_edge-bounds-marks-x : goal.traverse_edge-bounds-marks-x
traverse_edge-bounds-marks-x t c = let f = edge-reads c.requires.traversing in omega arith

pub traverse_edge-search_vertex-b-requires : goal.traverse_edge-search_vertex-b-requires
traverse_edge-search_vertex-b-requires t c =
    let P = c.requires in
    let e = c.emit-a.ensures in
    (omega (arith, c.decreases, tree_falls P.traversing c.if-marks-x-eq0.true (e.tally, e.events)), tree-can P.traversing c.if-marks-x-eq0.true (e.tally, e.events))

pub traverse_edge-returns-then-marks-x-eq0 : goal.traverse_edge-returns-then-marks-x-eq0
traverse_edge-returns-then-marks-x-eq0 t c = λ before h marks₀ events₀ T.
    let e = c.emit-a.ensures in
    tree-held T c.if-marks-x-eq0.true (e.tally, e.events) (c.search_vertex-b.ensures before _ marks₀ events₀ (tree-search T c.if-marks-x-eq0.true (e.tally, e.events))) (c.emit.ensures.tally, c.emit.ensures.events)

pub traverse_edge-returns-else-marks-x-eq0 : goal.traverse_edge-returns-else-marks-x-eq0
traverse_edge-returns-else-marks-x-eq0 t c = λ before h marks₀ events₀ T.
    pass-held T c.if-marks-x-eq0.false (c.emit-a-else-marks-x-eq0.ensures.tally, c.emit-a-else-marks-x-eq0.ensures.events) (c.emit-else-marks-x-eq0.ensures.tally, c.emit-else-marks-x-eq0.ensures.events)
