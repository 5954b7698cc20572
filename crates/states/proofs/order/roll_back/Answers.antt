-- A roll-back order is refused by the first condition that is true of it.
use Rattle.std.proofs.Common.{[], refl, sym, ap, ◌∙◌}
use Rattle.std.proofs.lemmas.Result.{err_from_is_err_and}
use Rattle.refusals.proofs.Numbers.{refused-not-taken}
use Rattle.states.specs.Answers.{config_of, seen_of}
use Rattle.states.proofs.Numbers.{order-refused, order-over, order-taken}
use Rattle.states.proofs.order.roll_back.Goals as goal

pub returns-in_err-check_state : goal.returns-in_err-check_state
returns-in_err-check_state c = λ after tail marks.
    let p = err_from_is_err_and c.from_residual.result c.from_residual.ensures.1 in
    rw (p.1, p.2) (ap seen_of (sym (order-refused (config_of c.args.s after tail marks) (c.in_err-check_state.ensures after tail marks [] refl) (refused-not-taken c.in_err-check_state.field-0.0))))

pub returns-then-is_over : goal.returns-then-is_over
returns-then-is_over c = λ after tail marks.
    ap seen_of (sym (order-over (config_of c.args.s after tail marks) (c.in_ok-check_state.ensures after tail marks [] refl) refl (sym (c.is_over.ensures after tail marks) ∙ c.if-is_over.true)))

pub returns : goal.returns
returns c = λ after tail marks.
    ap seen_of (sym (order-taken (config_of c.args.s after tail marks) (c.in_ok-check_state.ensures after tail marks [] refl) refl (sym (c.is_over.ensures after tail marks) ∙ c.if-is_over.false)))
