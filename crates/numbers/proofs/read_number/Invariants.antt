use Rattle.numbers.proofs.NumberLoops.{Value}
use Rattle.numbers.proofs.read_number.Given as goal

abbrev pub invariant-loop-digit : goal.invariant-loop-digit
invariant-loop-digit l = Value l.digits l.digit-index l.value
