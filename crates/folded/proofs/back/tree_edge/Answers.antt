use Rattle.std.proofs.Common.{sym, ◌∙◌}
use Rattle.folded.specs.Steps.{held}
use Rattle.folded.proofs.Backs.{no-trailer, edge-upward}
use Rattle.folded.proofs.back.tree_edge.Goals as goal

pub returns-then-areas-j-clause-read : goal.returns-then-areas-j-clause-read
returns-then-areas-j-clause-read c = let z = c.args in no-trailer (held z.s z.areas.now) c.read_after-r.ensures c.if-areas-j.true

pub returns-clause-read : goal.returns-clause-read
returns-clause-read c = let z = c.args in edge-upward (held z.s z.areas.now) c.read_after-r.ensures (sym c.is_edge.ensures ∙ c.if-not-is_edge.false) c.if-areas-j.false
