use Rattle.std.proofs.Common.{◌*◌, refl, sym, ap, ◌∙◌, rules}
use Rattle.std.proofs.lemmas.Result.{err_from_is_err_and}
use Rattle.refusals.proofs.Numbers.{refused-not-taken}
use Rattle.states.specs.Answers.{seen_of, config_of}
use Rattle.folded.proofs.Driving.{work-number, not-refused, run-refused, run-taken}
use Rattle.folded.proofs.calls.run.Goals as goal

pub returns-in_err-check_state : goal.returns-in_err-check_state
returns-in_err-check_state c =
    let z = c.args in
    let p = err_from_is_err_and c.from_residual.result c.from_residual.ensures.1 in
    let e = work-number z.s z.after.now z.tail.now z.marks.now (6 * z.budget) z.events.now c.are_long-all.ensures c.in_err-check_state.ensures in
    rw (p.1, p.2) (ap seen_of (sym (run-refused (config_of z.s z.after.now z.tail.now z.marks.now) z.budget z.events.now e (refused-not-taken c.in_err-check_state.field-0.0))))

pub drive-requires : goal.drive-requires
drive-requires c =
    let z = c.args in
    let T = not-refused z.s z.after.now z.tail.now z.marks.now (6 * z.budget) z.events.now (work-number z.s z.after.now z.tail.now z.marks.now (6 * z.budget) z.events.now c.are_long-all.ensures c.in_ok-check_state.ensures) in
    (T.ready, T.fields, T.room)

pub returns : goal.returns
returns c =
    let z = c.args in
    let e = work-number z.s z.after.now z.tail.now z.marks.now (6 * z.budget) z.events.now c.are_long-all.ensures c.in_ok-check_state.ensures in
    let p = c.drive.ensures.done ∙ ap seen_of (sym (run-taken (config_of z.s z.after.now z.tail.now z.marks.now) z.budget z.events.now e refl)) in
    search (rules, p)
