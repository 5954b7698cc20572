use Rattle.std.proofs.Common.{sym, ◌∙◌}
use Rattle.folded.specs.Steps.{held}
use Rattle.folded.proofs.Backs.{upward-is, retreat-out, retreat-barred, retreat-made}
use Rattle.folded.proofs.back.retreat.Goals as goal

pub returns-in_err-r-clause-left : goal.returns-in_err-r-clause-left
returns-in_err-r-clause-left c = let z = c.args in rw c.from_residual.ensures (retreat-out (held z.s z.areas.now) z.made z.areas.now.events.now c.in_err-r.ensures.read)

pub returns-then-not-is_link-clause-left : goal.returns-then-not-is_link-clause-left
returns-then-not-is_link-clause-left c = let z = c.args in let U = upward-is (held z.s z.areas.now) c.in_ok-r.ensures.read in let R = c.requires.0 in retreat-barred (held z.s z.areas.now) z.made z.areas.now.events.now U R.v_low R.v_high (sym c.is_link.ensures ∙ c.if-not-is_link.true)

pub returns-clause-left : goal.returns-clause-left
returns-clause-left c = let z = c.args in let U = upward-is (held z.s z.areas.now) c.in_ok-r.ensures.read in let R = c.requires.0 in retreat-made (held z.s z.areas.now) z.made z.areas.now.events.now U R.v_low R.v_high (sym c.is_link.ensures ∙ c.if-not-is_link.false) c.unmark.ensures c.write.ensures
