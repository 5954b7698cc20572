use Rattle.std.proofs.Common.{ℕ, sym, ap, ◌∙◌, cond}
use Rattle.folding.specs.Machine.{unscanned}
use Rattle.folded.specs.Steps.{held}
use Rattle.folded.proofs.Forwards.{nontree-no-link, nontree-made}
use Rattle.folded.proofs.forward.nontree.Goals as goal

pub returns-then-not-is_link-clause-left : goal.returns-then-not-is_link-clause-left
returns-then-not-is_link-clause-left c = let a = c.args in sym (nontree-no-link (held a.s a.areas.now) a.made a.areas.now.events.now c.requires.2 (sym c.is_link.ensures ∙ c.if-not-is_link.true))

pub returns-clause-left : goal.returns-clause-left
returns-clause-left c = let a = c.args in nontree-made (held a.s a.areas.now) a.made a.areas.now.events.now c.requires.2 (sym c.is_link.ensures ∙ c.if-not-is_link.false) (c.circled-circular.ensures ∙ ap (λ (k : ℕ). cond (unscanned k) 1 a.s.circular) c.requires.3) c.write.ensures
