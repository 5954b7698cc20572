-- What is handed back is what is seen of the reply: a refusal leaves everything, any other answer is stored.
use Rattle.std.proofs.Common.{◌∙◌}
use Rattle.states.specs.Answers.{told_taken}
use Rattle.state_words.proofs.Handing.{seen-handed, seen-taken}
use Rattle.state_words.proofs.steps.hand_back.Goals as goal

pub returns-in-Err : goal.returns-in-Err
returns-in-Err c = λ q kept area e.
    let a = c.args in
    rw c.number.ensures (seen-handed a.steps.now a.made.now a.reason.now a.state.now q (rw c.in-Err.is at e))

pub returns-in-Ok : goal.returns-in-Ok
returns-in-Ok c = λ q kept area e.
    let a = c.args in
    rw (c.reason_in.ensures, c.write_state.ensures) (seen-taken a.steps.now a.made.now a.reason.now a.state.now c.in-Ok.r.why (told_taken c.in-Ok.r kept.after kept.tail kept.marks area) ∙ seen-handed a.steps.now a.made.now a.reason.now a.state.now q (rw c.in-Ok.is at e))
