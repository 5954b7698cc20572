-- `read_field` finds the number at a place and the byte behind it.
-- By what `read_number` finds; past the end of the text there is no byte, and `stop` is not 0.
use Rattle.std.proofs.Common.{arith, ◌∙◌, sym}
use Rattle.texts.proofs.Reading.{field-none, field-over, field-other, field-stop}
use Rattle.texts.proofs.read_field.Goals as goal

pub returns-in_err-value : goal.returns-in_err-value
returns-in_err-value c = rw c.from_residual.ensures (field-none _ _ _ c.in_err-value.ensures)

pub returns-in_err-byte : goal.returns-in_err-byte
returns-in_err-byte c = rw c.from_residual-in_err-byte.ensures (field-over _ _ _ c.in_ok-value.ensures (omega (arith, c.in_err-byte.ensures.lookup)) c.requires)

pub returns-then-byte-stop : goal.returns-then-byte-stop
returns-then-byte-stop c = field-other _ _ _ c.in_ok-value.ensures (λ e. c.if-byte-stop.true (c.in_ok-byte.ensures.lookup.3.1 0 ∙ e))

pub returns : goal.returns
returns c = field-stop _ _ _ c.in_ok-value.ensures (sym (c.in_ok-byte.ensures.lookup.3.1 0) ∙ c.if-byte-stop.false)
