-- Fewer than nine words are refused with number 3; else the state read out of them is counted.
-- A refusal leaves figure and words; of a card taken both are stored as counted.
use Rattle.std.proofs.Common.{refl, sym, ap, ◌∙◌}
use Rattle.lists.specs.Words.{overlay}
use Rattle.graphs.proofs.Refusals.{refused}
use Rattle.refusals.proofs.Numbers.{refused-not-taken}
use Rattle.panel.specs.Panel.{Counted}
use Rattle.state_words.specs.Handed.{state_words}
use Rattle.state_words.proofs.Handing.{accepted-short, counted-in}
use Rattle.state_words.proofs.cards.accept_in_words.Goals as goal

pub returns-then-state-lt9 : goal.returns-then-state-lt9
returns-then-state-lt9 c =
    let z = c.args in
    let e = sym (accepted-short z.figure.now z.state.now c.if-state-lt9.true) in
    record { number = ap (λ (r : Counted). r.answer.number) e; figure = ap (λ (r : Counted). r.panel.figure) e; state = refl }

pub returns-in-Err : goal.returns-in-Err
returns-in-Err c =
    let z = c.args in
    let e = counted-in z.figure.now z.state.now c.if-state-lt9.false c.read_state-s.ensures (rw c.in-Err.is at c.count_card.ensures) in
    let n = c.number.ensures in
    record { number = n ∙ ap (λ (r : Counted). r.answer.number) e; figure = ap (λ (r : Counted). r.panel.figure) e; state = refused _ _ z.state.now (λ q. refused-not-taken c.in-Err.refusal (sym n ∙ q)) }

pub returns-in-Ok : goal.returns-in-Ok
returns-in-Ok c =
    let z = c.args in
    let e = counted-in z.figure.now z.state.now c.if-state-lt9.false c.read_state-s.ensures (rw c.in-Ok.is at c.count_card.ensures) in
    record { number = ap (λ (r : Counted). r.answer.number) e; figure = ap (λ (r : Counted). r.panel.figure) e; state = c.write_state.ensures ∙ ap (λ (r : Counted). overlay (state_words r.answer.state) z.state.now) e }
