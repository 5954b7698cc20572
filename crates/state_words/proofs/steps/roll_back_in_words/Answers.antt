-- Fewer than nine words are refused with number 3; else the order is served on the state read out of them, and its reply handed back,
-- whatever links and marks there are.
use Rattle.std.proofs.Common.{◌≡◌, ap, ◌∙◌, List, [], ℕ}
use Rattle.folding.specs.Calls.{roll_back}
use Rattle.states.specs.Answers.{config_of}
use Rattle.state_words.specs.Handed.{Handed, served_in, handing, handed}
use Rattle.state_words.proofs.Handing.{handed-short, seen-served}
use Rattle.state_words.proofs.steps.roll_back_in_words.Goals as goal

pub returns-then-state-lt9 : goal.returns-then-state-lt9
returns-then-state-lt9 c =
    let w = c.args.state.now in
    record { number = λ after tail marks. ap (λ (h : Handed). h.number) (handed-short w after tail marks roll_back 0 0 0 c.if-state-lt9.true); state = λ after tail marks. ap (λ (h : Handed). h.state) (handed-short w after tail marks roll_back 0 0 0 c.if-state-lt9.true) }

pub returns : goal.returns
returns c =
    let w = c.args.state.now in
    let is : (after tail marks : List ℕ) → handing _ _ _ _ _ after tail marks [] ≡ handed (served_in w after tail marks roll_back) 0 0 0 w =
    λ after tail marks. c.hand_back.ensures (served_in w after tail marks roll_back) (config_of c.read_state-s.result after tail marks) [] (c.roll_back-r.ensures after tail marks ∙ seen-served w after tail marks roll_back c.if-state-lt9.false c.read_state-s.ensures) in
    record { number = λ after tail marks. ap (λ (h : Handed). h.number) (is after tail marks); state = λ after tail marks. ap (λ (h : Handed). h.state) (is after tail marks) }
