-- The marks are cleared but for the list, and the start is labelled.
use Rattle.std.proofs.Common.{◌≡◌, ap, ◌∙◌, List, ℕ, min, arith, length}
use Rattle.lists.proofs.Words.{length-filled}
use Rattle.graphs.specs.Results.{unless_blank}
use Rattle.walks.specs.Writing.{no_events, label_tally, label_marks, label_events}
use Rattle.walks.proofs.write.begin.Goals as goal

pub returns : goal.returns
returns c =
    let a = c.args in
    let m = c.mark_blanks in
    let w = c.label.ensures in
    let k : ℕ = min a.nodes (length a.marks.now) in
    let n : length m.new.marks ≡ length a.marks.now = ap length m.ensures ∙ length-filled (unless_blank a.before.now (λ x. 0)) k a.marks.now (omega arith) in record { tally = w.tally ∙ ap (λ (i : ℕ). label_tally a.start.0 no_events i (length a.events.now)) n; marks = w.marks ∙ ap (λ (l : List ℕ). label_marks a.start.0 no_events l (length a.events.now)) m.ensures; events = w.events ∙ ap (λ (i : ℕ). label_events a.start.0 no_events i a.events.now) n }
