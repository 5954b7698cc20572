-- Writing the value lines: the first k are written, and the others stand in the text from place next on.
-- Each turn reads a line and pastes its from and its to behind those written.
use Rattle.std.proofs.Common.{refl, length-set}
use Rattle.texts.proofs.Linking.{written_none, written_out, written_next, written_all}
use Rattle.texts.proofs.write_lines.Goals as goal

pub loop-k-init : goal.loop-k-init
loop-k-init c = (refl, refl, λ ls e. written_none c.args.at e)

pub returns-in_default : goal.returns-in_default
returns-in_default c = λ ls e. absurd (written_out (c.loop-k.invariant.2 ls e) c.loop-k-test.true c.in_default.ensures)

pub loop-k-preserved : goal.loop-k-preserved
loop-k-preserved c =
    (simp length-set c.loop-k.invariant.0, simp length-set c.loop-k.invariant.1, λ ls e. written_next (c.loop-k.invariant.2 ls e) c.loop-k-test.true c.requires.0 c.requires.1 c.in-Some.ensures)

pub returns : goal.returns
returns c = λ ls e. written_all (c.loop-k.invariant.2 ls e) c.loop-k-test.false
