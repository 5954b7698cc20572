-- Fewer than nine words for the state are one short area more; nine words or more add nothing to the number.
-- What is left, and the state stored, is what is seen of the opening by its number.
use Rattle.std.proofs.Common.{refl, sym, ap, ◌∙◌}
use Rattle.lists.specs.Words.{overlay}
use Rattle.graphs.proofs.Refusals.{refused}
use Rattle.folding.specs.Machine.{Config}
use Rattle.images.specs.Checking.{image}
use Rattle.refusals.proofs.Numbers.{refused-not-taken}
use Rattle.state_words.specs.Handed.{config_words}
use Rattle.state_words.proofs.Opening.{taken-number, opened, open-short}
use Rattle.state_words.proofs.steps.open_in_words.Goals as goal

pub returns-then-state-lt9 : goal.returns-then-state-lt9
returns-then-state-lt9 c =
    let a = c.args in
    let k = open-short (image a.n a.m a.after.now a.tail.now) a.before.now a.start a.marks.now a.events.now a.state.now (λ areas e. c.number.ensures ∙ c.check_search.ensures areas e) c.if-state-lt9.true in
    record { number = k.0; state = refused _ _ a.state.now k.1; marks = refused _ _ a.marks.now k.1; events = refused _ _ a.events.now k.1 }

pub returns-in-Ok : goal.returns-in-Ok
returns-in-Ok c =
    let a = c.args in
    let o = opened (image a.n a.m a.after.now a.tail.now) a.before.now a.start a.marks.now a.events.now a.state.now {k = 0} (rw c.in-Ok.is at c.open-r.ensures) (taken-number c.in-Ok.reply.why) c.if-state-lt9.false in
    record { number = o.0; state = c.write_state.ensures ∙ ap (λ (w : Config). overlay (config_words w) a.state.now) (o.1.state-left refl); marks = o.1.marks_left; events = o.1.events-left }

pub returns-in-Err : goal.returns-in-Err
returns-in-Err c =
    let a = c.args in
    let o = opened (image a.n a.m a.after.now a.tail.now) a.before.now a.start a.marks.now a.events.now a.state.now (rw c.in-Err.is at c.open-r.ensures) c.number-in-Err.ensures c.if-state-lt9.false in
    record { number = o.0; state = refused _ _ a.state.now (λ z. refused-not-taken c.in-Err.refusal (sym c.number-in-Err.ensures ∙ z)); marks = o.1.marks_left; events = o.1.events-left }
