-- The refusal of a text where an area is short: what the reader answers for no words.
use Rattle.report.proofs.Judged.{short-told, never-told}
use Rattle.report.proofs.text.short_refusal.Goals as goal

pub returns-in-Err-clause-number : goal.returns-in-Err-clause-number
returns-in-Err-clause-number c = short-told c.args.text.now _ c.in-Err.ensures.answer

pub returns-in-Ok-clause-number : goal.returns-in-Ok-clause-number
returns-in-Ok-clause-number c = never-told c.args.text.now _ _ _ c.in-Ok.ensures.answer
