-- The figure is the number of cards accepted since the last shift start.
-- By induction on the log: without a shift start each card adds 1 to the figure; a shift start forgets the figure before it.
use Rattle.std.proofs.Common.{◌≡◌, refl, sym, ap, ◌∙◌, ◌≢◌, inl, inr, Bool, true, false, ◌||◌, List, [], ◌∷◌, ℕ, zero, suc, ◌+◌, arith, eqb}
use Rattle.lists.specs.Counts.{bump}
use Rattle.lists.proofs.Tests.{clash, neither, or-none, Compared, equal, other, compare}
use Rattle.folding.specs.Machine.{accepted}
use Rattle.folding.specs.Calls.{accept_number}
use Rattle.states.specs.declared.values.State.{State}
use Rattle.states.specs.Answers.{config_of}
use Rattle.panel.specs.declared.Panel.{Panel}
use Rattle.panel.specs.Panel.{Accepted}
use Rattle.panel.specs.Panel.{Counted}
use Rattle.panel.specs.Panel.{counted_by, accepted_of}
use Rattle.panel.specs.Claims.{Entry, accepting, shifting, left, EntryKept, Kept, left_by, is_shift, is_card, has_shift, since_shift, cards, CountClaim}
use Rattle.panel.proofs.Judged.{left-refused, left-taken}

-- ---- one call
-- The number that accepting answers.
pub answer-is : (p : Panel) (s : State) → (accepted_of p s).answer.number ≡ accept_number (config_of s [] [] []) p.figure
unfolding accepted_of
answer-is p s = go (accept_number (config_of s [] [] []) p.figure)
  where
    go : (k : ℕ) → (counted_by k p s).answer.number ≡ k
    go zero = refl
    go (suc k) = refl

-- Accepting that is refused changes neither record nor state.
pub refused-keeps : (p : Panel) (s : State) → (accepted_of p s).answer.number ≢ 0 → ((accepted_of p s).panel ≡ p) × ((accepted_of p s).answer.state ≡ s)
refused-keeps p s ne = let h = left-refused p s (answer-is p s) ne in (ap (λ (c : Counted). c.panel) h, ap (λ (c : Counted). c.answer.state) h)

-- Accepting that is taken adds 1 to the figure and leaves phase 6.
pub taken-counts : (p : Panel) (s : State) → (accepted_of p s).answer.number ≡ 0
    → ((accepted_of p s).panel.figure ≡ p.figure + 1) × ((accepted_of p s).answer.state.phase ≡ accepted)
taken-counts p s z = let h = left-taken p s (answer-is p s) z in (ap (λ (c : Counted). c.panel.figure) h, ap (λ (c : Counted). c.answer.state.phase) h)

-- A call that is no shift start adds the card that it is.
adds : (p : Panel) (x : Entry) → EntryKept p x → is_shift x ≡ false → (left x).figure ≡ bump (is_card x) p.figure
adds p (shifting q) k h = clash h
adds p (accepting s x q) k h = ap (λ (r : Panel). r.figure) k.0 ∙ go (compare (accepted_of p s).answer.number 0) ∙ ap (λ (y : Accepted). bump (eqb y.number 0) p.figure) (sym k.1)
  where
    go : Compared (accepted_of p s).answer.number 0 → (accepted_of p s).panel.figure ≡ bump (eqb (accepted_of p s).answer.number 0) p.figure
    go (equal z e) = let t = (taken-counts p s z).0 in let one : (accepted_of p s).panel.figure ≡ suc p.figure = omega (arith, t) in one ∙ sym (ap (λ (b : Bool). bump b p.figure) e)
    go (other n e) = ap (λ (q : Panel). q.figure) (refused-keeps p s n).0 ∙ sym (ap (λ (b : Bool). bump b p.figure) e)

-- A shift start leaves 0.
clears : (p : Panel) (x : Entry) → EntryKept p x → is_shift x ≡ true → (left x).figure ≡ 0
clears p (shifting q) k h = ap (λ (r : Panel). r.figure) k
clears p (accepting s x q) k h = clash (sym h)

-- ---- a log
-- A card may be counted on either side.
bump-plus : (b : Bool) (k l : ℕ) → bump b k + l ≡ k + bump b l
bump-plus true k l = omega arith
bump-plus false k l = refl

-- Without a shift start the figure grows by the cards.
pub grows : (p : Panel) (log : List Entry) → Kept p log → has_shift log ≡ false → (left_by p log).figure ≡ p.figure + cards log
grows p [] k h = omega arith
grows p (x ∷ xs) k h =
    let n = neither (is_shift x) (has_shift xs) h in
    grows (left x) xs k.1 n.1 ∙ (ap (λ (j : ℕ). j + cards xs) (adds p x k.0 n.0) ∙ bump-plus (is_card x) p.figure (cards xs))

-- Then every call is behind the last shift start.
all-since : (log : List Entry) → has_shift log ≡ false → since_shift log ≡ log
all-since [] h = refl
all-since (x ∷ xs) h = let n = neither (is_shift x) (has_shift xs) h in simp (n.0, n.1)

-- With one the figure does not depend on the record at first.
pub forgets : (p : Panel) (log : List Entry) → Kept p log → has_shift log ≡ true → (left_by p log).figure ≡ cards (since_shift log)
forgets p [] k h = clash (sym h)
forgets p (x ∷ xs) k h = go (has_shift xs) refl (forgets (left x) xs k.1)
  where
    go : (b : Bool) → has_shift xs ≡ b → (has_shift xs ≡ true → (left_by (left x) xs).figure ≡ cards (since_shift xs)) → (left_by (left x) xs).figure ≡ cards (since_shift (x ∷ xs))
    go true e rest = simp e (rest e)
    go false e rest =
        let last : is_shift x ≡ true = sym (or-none (is_shift x)) ∙ (ap (λ (b : Bool). is_shift x || b) (sym e) ∙ h) in
        let z = clears p x k.0 last in
        let f : (left x).figure + cards xs ≡ cards xs = omega (arith, z) in
        simp (e, last) (grows (left x) xs k.1 e ∙ f)

-- On a new record, and on any record once a shift was started.
pub counts : CountClaim
counts p log k (inl e) = go (has_shift log) refl
  where
    go : (b : Bool) → has_shift log ≡ b → (left_by p log).figure ≡ cards (since_shift log)
    go true h = forgets p log k h
    go false h = let z : p.figure ≡ 0 = ap (λ (q : Panel). q.figure) e in let f : p.figure + cards log ≡ cards log = omega (arith, z) in grows p log k h ∙ (f ∙ ap cards (sym (all-since log h)))
counts p log k (inr h) = forgets p log k h
