-- A card is refused by the first condition that is true of it.
use Rattle.std.proofs.Common.{[], refl}
use Rattle.std.proofs.lemmas.Result.{err_from_is_err_and}
use Rattle.refusals.proofs.Numbers.{refused-not-taken}
use Rattle.states.specs.Answers.{config_of}
use Rattle.panel.proofs.Judged.{refused-first, refused-rolled-back, refused-accepted, refused-unfinished, refused_full, refused-never}
use Rattle.panel.proofs.check_card.Goals as goal

pub returns-in_err-check_state : goal.returns-in_err-check_state
returns-in_err-check_state c =
    let a = c.args in
    let p = err_from_is_err_and c.from_residual.result c.from_residual.ensures.1 in
    rw (p.1, p.2) (refused-first (config_of a.s [] [] []) a.figure (c.in_err-check_state.ensures [] [] [] [] refl) (refused-not-taken c.in_err-check_state.field-0.0))

pub returns-then-p : goal.returns-then-p
returns-then-p c = let a = c.args in refused-rolled-back (config_of a.s [] [] []) a.figure (c.in_ok-check_state.ensures [] [] [] [] refl) refl c.if-p.true

pub returns-then-p-2 : goal.returns-then-p-2
returns-then-p-2 c = let a = c.args in refused-accepted (config_of a.s [] [] []) a.figure (c.in_ok-check_state.ensures [] [] [] [] refl) refl c.if-p.false c.if-p-2.true

pub returns-then-p-3 : goal.returns-then-p-3
returns-then-p-3 c = let a = c.args in refused-unfinished (config_of a.s [] [] []) a.figure (c.in_ok-check_state.ensures [] [] [] [] refl) refl c.if-p.false c.if-p-2.false c.if-p-3.true

pub returns-then-figure-ge999999 : goal.returns-then-figure-ge999999
returns-then-figure-ge999999 c = let a = c.args in refused_full (config_of a.s [] [] []) a.figure (c.in_ok-check_state.ensures [] [] [] [] refl) refl c.if-p-3.false c.if-figure-ge999999.true

pub returns : goal.returns
returns c = let a = c.args in refused-never (config_of a.s [] [] []) a.figure (c.in_ok-check_state.ensures [] [] [] [] refl) refl c.if-p-3.false c.if-figure-ge999999.false
