-- Fewer than nine words are refused with number 3; else the run is served on the state read out of them, and its reply handed back.
use Rattle.std.proofs.Common.{◌∙◌}
use Rattle.folding.specs.Calls.{run_for}
use Rattle.states.specs.Answers.{config_of}
use Rattle.state_words.specs.Handed.{served_in}
use Rattle.state_words.proofs.Handing.{handed-short, seen-served}
use Rattle.state_words.proofs.steps.run_in_words.Goals as goal

pub returns-then-state-lt9 : goal.returns-then-state-lt9
returns-then-state-lt9 c =
    let z = c.args in
    handed-short z.state.now z.after.now z.tail.now z.marks.now (run_for z.budget z.events.now) z.steps.now z.made.now z.reason.now c.if-state-lt9.true

pub returns : goal.returns
returns c =
    let z = c.args in
    let s = c.run-r in
    c.hand_back.ensures (served_in z.state.now z.after.now z.tail.now z.marks.now (run_for z.budget z.events.now)) (config_of c.read_state-s.result s.new.after s.new.tail s.new.marks) s.new.events
    (s.ensures ∙ seen-served z.state.now z.after.now z.tail.now z.marks.now (run_for z.budget z.events.now) c.if-state-lt9.false c.read_state-s.ensures)
