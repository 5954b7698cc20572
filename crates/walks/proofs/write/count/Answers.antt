-- The seven counts add up to the number of events; as 32-bit words they cannot overflow.
use Rattle.std.proofs.Common.{rules, arith}
use Rattle.walks.proofs.Storing.{seven-sum}
use Rattle.walks.proofs.write.count.Goals as goal

pub returns : goal.returns
returns c = omega (arith, seven-sum c.args.tally (search rules))
