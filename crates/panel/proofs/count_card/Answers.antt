-- A state is counted by its number: refused it leaves all as it was, taken the figure is one more.
use Rattle.std.proofs.Common.{[], refl, sym, arith}
use Rattle.std.proofs.lemmas.Result.{err_from_is_err_and}
use Rattle.refusals.proofs.Numbers.{refused-not-taken}
use Rattle.states.specs.Answers.{config_of}
use Rattle.panel.proofs.Judged.{figure-below, left-refused, left-taken}
use Rattle.panel.proofs.count_card.Goals as goal

pub returns-in_err-check_card : goal.returns-in_err-check_card
returns-in_err-check_card c =
    let a = c.args in
    let p = err_from_is_err_and c.from_residual.result c.from_residual.ensures.1 in
    rw (p.1, p.2) (sym (left-refused a.p a.s c.in_err-check_card.ensures (refused-not-taken c.in_err-check_card.field-0.0)))

pub overflow_add-result : goal.overflow_add-result
overflow_add-result c =
    let a = c.args in
    let h = figure-below (config_of a.s [] [] []) a.p.figure (sym c.in_ok-check_card.ensures) in
    record { fits = omega (arith, h) }

pub returns : goal.returns
returns c = let a = c.args in sym (left-taken a.p a.s c.in_ok-check_card.ensures refl)
