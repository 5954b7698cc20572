use Rattle.folded.specs.Steps.{held}
use Rattle.folded.proofs.Backs.{upward-is, undo-tree-out, undo-tree-made}
use Rattle.folded.proofs.back.undo_tree.Goals as goal

pub returns-in_err-r-clause-left : goal.returns-in_err-r-clause-left
returns-in_err-r-clause-left c = let z = c.args in rw c.from_residual.ensures (undo-tree-out (held z.s z.areas.now) z.made z.areas.now.events.now c.in_err-r.ensures.read)

pub returns-clause-left : goal.returns-clause-left
returns-clause-left c = let z = c.args in let w = held z.s z.areas.now in undo-tree-made w z.made z.areas.now.events.now (upward-is w c.in_ok-r.ensures.read)
