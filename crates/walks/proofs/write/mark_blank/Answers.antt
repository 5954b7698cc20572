-- The mark stored is that of a node that has one.
use Rattle.std.proofs.Common.{arith}
use Rattle.walks.proofs.Blanks.{blank-stored}
use Rattle.walks.proofs.write.mark_blank.Goals as goal

pub returns : goal.returns
returns c = blank-stored _ _ _ c.if-node-eq0.false (omega arith)
