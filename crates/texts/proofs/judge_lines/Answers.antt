-- `judge_lines` says whether a value line is out, where there are just m lines in form.
-- Invariant: the lines not yet passed, with `out` for those passed, decide as all of them do.
use Rattle.texts.proofs.Reading.{judging-start, judging-none, judging-next, judging-over, judging-end}
use Rattle.texts.proofs.judge_lines.Goals as goal

pub loop-init : goal.loop-init
loop-init c = judging-start _ _ _ _

pub returns-in_err-line : goal.returns-in_err-line
returns-in_err-line c = rw c.from_residual.ensures (judging-none c.loop.invariant c.loop-test.true c.in_err-line.ensures)

pub loop-preserved : goal.loop-preserved
loop-preserved c = judging-next c.loop.invariant c.loop-test.true c.in_ok-line.ensures c.line_out-out.ensures

pub returns-then-next-text : goal.returns-then-next-text
returns-then-next-text c = judging-over c.loop.invariant c.loop-test.false c.if-next-text.true

pub returns : goal.returns
returns c = judging-end c.loop.invariant c.loop-test.false c.if-next-text.false
