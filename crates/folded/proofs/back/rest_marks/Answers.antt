-- The loop keeps that the marks before its place are done, and the others as they were.
use Rattle.std.proofs.Common.{refl, arith}
use Rattle.folded.proofs.Backs.{rest_more, rest_all}
use Rattle.folded.proofs.back.rest_marks.Goals as goal

pub loop-mark-init : goal.loop-mark-init
loop-mark-init c = record { so_far = refl; within = omega arith }

pub loop-mark-preserved : goal.loop-mark-preserved
loop-mark-preserved c = rest_more c.loop-mark.invariant c.loop-mark-test.true c.rested.ensures

pub returns : goal.returns
returns c = rest_all c.args.n c.args.marks.now c.loop-mark.invariant c.requires c.loop-mark-test.false
