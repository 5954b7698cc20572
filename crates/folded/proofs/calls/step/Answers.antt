use Rattle.std.proofs.Common.{refl, sym, ap, ◌∙◌, rules}
use Rattle.std.proofs.lemmas.Result.{err_from_is_err_and}
use Rattle.refusals.proofs.Numbers.{refused-not-taken}
use Rattle.states.specs.Answers.{seen_of}
use Rattle.folded.proofs.Driving.{work-number, not-refused, step-refused, step-over, step-stuck, step-taken}
use Rattle.folded.proofs.calls.step.Goals as goal

pub returns-in_err-check_state : goal.returns-in_err-check_state
returns-in_err-check_state c =
    let z = c.args in
    let p = err_from_is_err_and c.from_residual.result c.from_residual.ensures.1 in
    let e = work-number z.s z.after.now z.tail.now z.marks.now 6 z.events.now c.are_long-all.ensures c.in_err-check_state.ensures in
    rw (p.1, p.2) (ap seen_of (sym (step-refused z.s z.after.now z.tail.now z.marks.now z.events.now e (refused-not-taken c.in_err-check_state.field-0.0))))

pub returns-then-is_over : goal.returns-then-is_over
returns-then-is_over c =
    let z = c.args in
    let e = work-number z.s z.after.now z.tail.now z.marks.now 6 z.events.now c.are_long-all.ensures c.in_ok-check_state.ensures in
    ap seen_of (sym (step-over z.s z.after.now z.tail.now z.marks.now z.events.now e refl (sym (c.is_over.ensures z.after.now z.tail.now z.marks.now) ∙ c.if-is_over.true)))

pub make-requires : goal.make-requires
make-requires c =
    let z = c.args in
    let T = not-refused z.s z.after.now z.tail.now z.marks.now 6 z.events.now (work-number z.s z.after.now z.tail.now z.marks.now 6 z.events.now c.are_long-all.ensures c.in_ok-check_state.ensures) in
    (T.ready, T.room)

pub returns-in_default : goal.returns-in_default
returns-in_default c =
    let z = c.args in
    let e = work-number z.s z.after.now z.tail.now z.marks.now 6 z.events.now c.are_long-all.ensures c.in_ok-check_state.ensures in
    let p = step-stuck z.s z.after.now z.tail.now z.marks.now z.events.now e (sym (c.is_over.ensures z.after.now z.tail.now z.marks.now) ∙ c.if-is_over.false) c.in_default.ensures.left in
    search (rules, p)

pub returns : goal.returns
returns c =
    let z = c.args in
    let e = work-number z.s z.after.now z.tail.now z.marks.now 6 z.events.now c.are_long-all.ensures c.in_ok-check_state.ensures in
    let p = step-taken z.s z.after.now z.tail.now z.marks.now z.events.now e (sym (c.is_over.ensures z.after.now z.tail.now z.marks.now) ∙ c.if-is_over.false) c.in-Some.next c.in-Some.ensures.left in
    search (rules, p)
