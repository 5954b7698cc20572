use Rattle.std.proofs.Common.{sym, ◌∙◌}
use Rattle.folded.specs.Steps.{held}
use Rattle.folded.proofs.Forwards.{tree-full, tree-no-link, tree-made}
use Rattle.folded.proofs.forward.tree.Goals as goal

pub returns-then-label-n-clause-left : goal.returns-then-label-n-clause-left
returns-then-label-n-clause-left c = let a = c.args in let p = c.requires in sym (tree-full (held a.s a.areas.now) a.made a.areas.now.events.now a.x p.2 p.3 p.4 c.if-label-n.true)

pub returns-then-not-is_link-clause-left : goal.returns-then-not-is_link-clause-left
returns-then-not-is_link-clause-left c = let a = c.args in let p = c.requires in sym (tree-no-link (held a.s a.areas.now) a.made a.areas.now.events.now a.x p.2 p.3 p.4 c.if-label-n.false c.read_after.result c.read_after.ensures (sym c.is_link.ensures ∙ c.if-not-is_link.true))

pub returns-clause-left : goal.returns-clause-left
returns-clause-left c = let a = c.args in let p = c.requires in tree-made (held a.s a.areas.now) a.made a.areas.now.events.now a.x p.2 p.3 p.4 c.if-label-n.false c.read_after.result c.read_after.ensures (sym c.is_link.ensures ∙ c.if-not-is_link.false) c.write.ensures
