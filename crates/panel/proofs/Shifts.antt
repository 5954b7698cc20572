-- The last card of a shift, where accepting it is refused: the record is as it was.
use Rattle.std.proofs.Common.{◌≡◌, sym, ap, ◌∙◌, ℕ, zero, suc, ◌≢◌, refl}
use Rattle.states.specs.declared.values.State.{State}
use Rattle.panel.specs.declared.Panel.{Panel}
use Rattle.panel.specs.Panel.{Accepted, ShiftEnded}
use Rattle.panel.specs.Panel.{accepted_of, fresh_after, shift_ended, shift_closed}
use Rattle.panel.proofs.Counts.{refused-keeps}

-- A figure that is kept.
as_it_was : (figure k : ℕ) → k ≢ 0 → figure ≡ fresh_after k figure
as_it_was figure zero ne = absurd (ne refl)
as_it_was figure (suc k) ne = refl

pub ended-refused : (figure : ℕ) (s : State) (t : ShiftEnded) → t ≡ shift_closed figure s → (x : Accepted) → t.answer ≡ x → x.number ≢ 0
    → record { answer = x; figure = figure; fresh = figure } ≡ shift_ended figure s
ended-refused figure s t e x q ne =
    let answer : x ≡ (accepted_of (record { figure = figure }) s).answer = sym q ∙ ap (λ (y : ShiftEnded). y.answer) e in
    let ne' : (accepted_of (record { figure = figure }) s).answer.number ≢ 0 = λ z. ne (ap (λ (y : Accepted). y.number) answer ∙ z) in
    let kept = ap (λ (q : Panel). q.figure) (sym (refused-keeps (record { figure = figure }) s ne').0) in
    let fresh = as_it_was figure (accepted_of (record { figure = figure }) s).answer.number ne' in
    λ i. record { answer = answer i; figure = kept i; fresh = fresh i }
