-- The loop keeps that the run is the steps made so far, in front of the run from there.
use Rattle.std.proofs.Common.{sym, ◌∙◌, rules}
use Rattle.folded.proofs.Driving.{done-ended, done-spent, done_stuck, going_on}
use Rattle.folded.proofs.calls.drive.Goals as goal

pub returns-then-is_over-clause-done : goal.returns-then-is_over-clause-done
returns-then-is_over-clause-done c = let l = c.loop-areas in done-ended l.invariant.0 (sym (c.is_over.ensures l.areas.after.now l.areas.tail.now l.areas.marks.now) ∙ c.if-is_over.true)

pub returns-then-steps-budget-clause-done : goal.returns-then-steps-budget-clause-done
returns-then-steps-budget-clause-done c = let l = c.loop-areas in done-spent l.invariant.0 (sym (c.is_over.ensures l.areas.after.now l.areas.tail.now l.areas.marks.now) ∙ c.if-is_over.false) c.if-steps-budget.true

pub returns-in_default-clause-done : goal.returns-in_default-clause-done
returns-in_default-clause-done c = let l = c.loop-areas in done_stuck l.invariant.0 (sym (c.is_over.ensures l.areas.after.now l.areas.tail.now l.areas.marks.now) ∙ c.if-is_over.false) c.if-steps-budget.false c.in_default.ensures.left

pub loop-areas-preserved : goal.loop-areas-preserved
loop-areas-preserved c =
    let l = c.loop-areas in
    (going_on l.invariant.0 (sym (c.is_over.ensures l.areas.after.now l.areas.tail.now l.areas.marks.now) ∙ c.if-is_over.false) c.if-steps-budget.false c.in-Some.next c.in-Some.ensures.left, search rules)
