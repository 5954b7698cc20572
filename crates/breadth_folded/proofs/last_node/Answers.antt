-- The list of x is followed to its end.
-- The loop keeps that the list from the node reached has the same last node; what is left of the list falls with each turn.
use Rattle.std.proofs.Common.{arith}
use Rattle.breadth_folded.proofs.Threads.{follow-start, follow-step, follow-end}
use Rattle.breadth_folded.proofs.last_node.Goals as goal

pub loop-a-init : goal.loop-a-init
loop-a-init c = follow-start c.requires

pub overflow_cast-a-in-loop-a : goal.overflow_cast-a-in-loop-a
overflow_cast-a-in-loop-a c = let s = follow-step c.requires c.loop-a.invariant c.loop-a-test.true in omega arith

pub offset_bounds-g-f-in-loop-a : goal.offset_bounds-g-f-in-loop-a
offset_bounds-g-f-in-loop-a c = let s = follow-step c.requires c.loop-a.invariant c.loop-a-test.true in omega arith

pub bounds-g-f-in-loop-a : goal.bounds-g-f-in-loop-a
bounds-g-f-in-loop-a c = let s = follow-step c.requires c.loop-a.invariant c.loop-a-test.true in omega arith

pub loop-a-smaller : goal.loop-a-smaller
loop-a-smaller c = (follow-step c.requires c.loop-a.invariant c.loop-a-test.true).less

pub loop-a-preserved : goal.loop-a-preserved
loop-a-preserved c = (follow-step c.requires c.loop-a.invariant c.loop-a-test.true).following

pub returns : goal.returns
returns c = follow-end c.requires c.loop-a.invariant c.loop-a-test.false
