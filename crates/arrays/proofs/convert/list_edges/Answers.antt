-- The list of u is written from position p on, each edge with the vertex that it leads to.
-- What was written and what is still to follow are the list; a turn moves one edge over.
use Rattle.std.proofs.Common.{arith}
use Rattle.arrays.proofs.Grouping.{list-first, list-start, list-turn, list-more, list-end}
use Rattle.arrays.proofs.convert.list_edges.Goals as goal

pub bounds-g-u : goal.bounds-g-u
bounds-g-u c = omega (arith, list-first c.requires)

pub loop-r-init : goal.loop-r-init
loop-r-init c = let l = list-start c.requires in record { listed = l; turn = list-turn c.requires l }

pub loop-r-preserved : goal.loop-r-preserved
loop-r-preserved c = let l = list-more c.requires c.loop-r.invariant.listed (omega arith) in record { listed = l; turn = list-turn c.requires l }

pub returns : goal.returns
returns c = let all = list-end c.requires c.loop-r.invariant.listed c.loop-r-test.false in
    record { next = all.0; tails = all.1.0; numbers = all.1.1 }
