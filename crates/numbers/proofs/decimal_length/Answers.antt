-- The number of digits by the formula.
-- The loop keeps: the part left is shorter than x by the divisions made, which are k - 1; and k is no more than x + 1, so that it fits. The
-- measure is that part.
use Rattle.std.proofs.Common.{arith}
use Rattle.numbers.proofs.Numbers.{length-claim}
use Rattle.numbers.proofs.decimal_length.Goals as goal

pub loop-part-preserved : goal.loop-part-preserved
loop-part-preserved c = let l = c.loop-part in (omega (arith, l.invariant.0, length-claim.divided l.part (omega arith)), omega arith)

pub returns : goal.returns
returns c = let l = c.loop-part in omega (arith, l.invariant.0, length-claim.below_ten l.part (omega arith))
