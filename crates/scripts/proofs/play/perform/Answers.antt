-- A call is lent the part of the event area behind the events so far, as many words as it asks for, or what is left.
use Rattle.std.proofs.Common.{◌≡◌, ◌+◌, ◌-◌, ◌*◌, Some, ap, ◌∙◌, arith}
use Rattle.scripts.specs.declared.order.Order.TheVariants.{Run, Step, RollBack}
use Rattle.scripts.proofs.Played.{few, run_more, step-more, order-more, none_more}
use Rattle.scripts.proofs.play.perform.Goals as goal

pub noted-requires : goal.noted-requires
noted-requires c = few c.requires.playing c.run-answer.result _ _ _ _ _ c.run-answer.ensures

pub returns-in-Some-Run : goal.returns-in-Some-Run
returns-in-Some-Run c = λ area l e.
    let z = c.args in
    let named : z.order ≡ Some c.in-Some-Run.field-0 = c.in-Some-Run.is in
    let is : c.in-Some-Run.field-0 ≡ Run = rw named at c.in-Some-Run.field-0-is in
    let from = 3 * z.p.events in
    run_more z.p z.after.now z.tail.now z.marks.now z.events.now area l e z.budget z.room (from + c.min-lent.result - from) c.run-answer.result _ _ _ _ (named ∙ ap Some is) (omega (arith, c.min-lent.ensures)) c.noted.ensures c.run-answer.ensures

pub noted-requires-in-Some-Step : goal.noted-requires-in-Some-Step
noted-requires-in-Some-Step c = few c.requires.playing c.step-answer.result _ _ _ _ _ c.step-answer.ensures

pub returns-in-Some-Step : goal.returns-in-Some-Step
returns-in-Some-Step c = λ area l e.
    let z = c.args in
    let named : z.order ≡ Some c.in-Some-Step.field-0 = c.in-Some-Step.is in
    let is : c.in-Some-Step.field-0 ≡ Step = rw named at c.in-Some-Step.field-0-is in
    let from = 3 * z.p.events in
    step-more z.p z.after.now z.tail.now z.marks.now z.events.now area l e z.budget z.room (from + c.min-lent.result - from) c.step-answer.result _ _ _ _ (named ∙ ap Some is) (omega (arith, c.min-lent.ensures)) c.noted-in-Some-Step.ensures c.step-answer.ensures

pub noted-requires-in-Some-RollBack : goal.noted-requires-in-Some-RollBack
noted-requires-in-Some-RollBack c = let z = c.args in few c.requires.playing c.roll_back.result _ _ _ _ _ (c.roll_back.ensures z.after.now z.tail.now z.marks.now)

pub returns-in-Some-RollBack : goal.returns-in-Some-RollBack
returns-in-Some-RollBack c = λ area l e.
    let z = c.args in
    let named : z.order ≡ Some c.in-Some-RollBack.field-0 = c.in-Some-RollBack.is in
    let is : c.in-Some-RollBack.field-0 ≡ RollBack = rw named at c.in-Some-RollBack.field-0-is in
    order-more z.p z.after.now z.tail.now z.marks.now z.events.now area l e z.budget z.room c.roll_back.result (named ∙ ap Some is) c.noted-in-Some-RollBack.ensures (c.roll_back.ensures z.after.now z.tail.now z.marks.now)

pub returns-in-None : goal.returns-in-None
returns-in-None c = λ area l e. let z = c.args in none_more z.p z.after.now z.tail.now z.marks.now z.events.now area l e z.budget z.room c.in-None.is
