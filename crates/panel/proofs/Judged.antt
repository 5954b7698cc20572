-- The number of accepting a state, from that of its first five conditions; and what is left by it.
-- Once those five are false the phase is 1 to 6, and the three of accepting decide.
use Rattle.std.proofs.Common.{◌≡◌, refl, sym, ap, ◌∙◌, ◌≢◌, true, ◌||◌, List, [], ◌∷◌, ℕ, zero, suc, ◌+◌, ◌≤◌, ◌<◌, arith, eqb, ltb, leb, eq-eqb, ne_eqb, le-leb, ltb-true, leb-true, leb-false}
use borrow.Author.Tests.{lt-leb}
use Rattle.lists.proofs.Tests.{both}
use Rattle.graphs.specs.Refusals.{Refusal, refuse, first_of, figure_out}
use Rattle.graphs.proofs.Refusals.{all-false}
use Rattle.folding.specs.Machine.{Config}
use Rattle.folding.specs.Calls.{state_number, accept_number}
use Rattle.folding.proofs.Passed.{passed}
use Rattle.states.specs.declared.values.State.{State}
use Rattle.states.specs.Answers.{config_of}
use Rattle.states.proofs.Numbers.{number-first, number-own}
use Rattle.panel.specs.declared.Panel.{Panel}
use Rattle.panel.specs.Panel.{counted_by, accepted_of, as_accepted}

-- The three conditions of accepting, by phase and figure.
abbrev conditions : ℕ → ℕ → List Refusal
conditions p figure = refuse 9 (eqb p 5 || eqb p 6) ∷ refuse 10 (eqb p 1 || (eqb p 2 || eqb p 4)) ∷ refuse 11 (figure_out figure) ∷ []

-- ---- the three, one by one
-- 9 in phase 5, and in phase 6.
over-five : (p figure : ℕ) → p ≡ 5 → 9 ≡ first_of (conditions p figure)
over-five p figure h = simp (eq-eqb p 5 h)

over-six : (p figure : ℕ) → p ≢ 5 → p ≡ 6 → 9 ≡ first_of (conditions p figure)
over-six p figure a h = simp (ne_eqb p 5 a, eq-eqb p 6 h)

-- Of 1 to 6, one that is not 3, 5 or 6 is 1, 2 or 4.
under-way : (p : ℕ) → 0 < p → p ≤ 6 → p ≢ 5 → p ≢ 6 → p ≢ 3 → (eqb p 1 || (eqb p 2 || eqb p 4)) ≡ true
under-way zero low high a b c = absurd (omega (arith, low))
under-way (suc zero) low high a b c = refl
under-way (suc (suc zero)) low high a b c = refl
under-way (suc (suc (suc zero))) low high a b c = absurd (c refl)
under-way (suc (suc (suc (suc zero)))) low high a b c = refl
under-way (suc (suc (suc (suc (suc p))))) low high a b c = absurd (omega (arith, high, a, b))

-- 10 in phase 1, 2 or 4.
unfinished : (p figure : ℕ) → 0 < p → p ≤ 6 → p ≢ 5 → p ≢ 6 → p ≢ 3 → 10 ≡ first_of (conditions p figure)
unfinished p figure low high a b c = simp (ne_eqb p 5 a, ne_eqb p 6 b, under-way p low high a b c)

-- 11 in phase 3 at 999,999 or more.
full : (p figure : ℕ) → p ≡ 3 → 999999 ≤ figure → 11 ≡ first_of (conditions p figure)
full p figure h k = simp (h, le-leb 999999 figure k)

-- None in phase 3 below it.
free : (p figure : ℕ) → p ≡ 3 → figure < 999999 → 0 ≡ first_of (conditions p figure)
free p figure h k = simp (h, lt-leb 999999 figure k)

-- ---- the number
module _ (w : Config) (figure : ℕ) {k : ℕ} (e : k ≡ state_number w [] []) where
  -- One of the first five is true.
  pub refused-first : k ≢ 0 → k ≡ accept_number w figure
  unfolding accept_number
  refused-first ne = sym (number-first w [] (conditions w.phase figure) e ne)

  -- None of them is true: the three decide.
  decided : k ≡ 0 → {r : ℕ} → r ≡ first_of (conditions w.phase figure) → r ≡ accept_number w figure
  unfolding accept_number
  decided z h = h ∙ sym (number-own w [] (conditions w.phase figure) e z)

  -- The phase is 1 to 6.
  phase-in : k ≡ 0 → (0 < w.phase) × (w.phase ≤ 6)
  phase-in z =
      let b = both (ltb 0 w.phase) (leb w.phase 6) (passed w [] [] (sym e ∙ z)).fields.phase-in in
      (ltb-true 0 w.phase b.0, leb-true w.phase 6 b.1)

  -- Phase 5; phase 6.
  pub refused-rolled-back : k ≡ 0 → w.phase ≡ 5 → 9 ≡ accept_number w figure
  refused-rolled-back z h = decided z (over-five w.phase figure h)

  pub refused-accepted : k ≡ 0 → w.phase ≢ 5 → w.phase ≡ 6 → 9 ≡ accept_number w figure
  refused-accepted z a h = decided z (over-six w.phase figure a h)

  -- Phase 1, 2 or 4.
  pub refused-unfinished : k ≡ 0 → w.phase ≢ 5 → w.phase ≢ 6 → w.phase ≢ 3 → 10 ≡ accept_number w figure
  refused-unfinished z a b c = let p = phase-in z in decided z (unfinished w.phase figure p.0 p.1 a b c)

  -- Phase 3, with the figure at its limit or below.
  pub refused_full : k ≡ 0 → w.phase ≡ 3 → 999999 ≤ figure → 11 ≡ accept_number w figure
  refused_full z h l = decided z (full w.phase figure h l)

  pub refused-never : k ≡ 0 → w.phase ≡ 3 → figure < 999999 → 0 ≡ accept_number w figure
  refused-never z h l = decided z (free w.phase figure h l)

-- A card is taken only below the limit.
pub figure-below : (w : Config) (figure : ℕ) → accept_number w figure ≡ 0 → figure < 999999
unfolding accept_number
figure-below w figure h =
    let a = all-false (conditions w.phase figure) [] (omega arith) (passed w [] (conditions w.phase figure) h).own-false in
    leb-false 999999 figure a.0.1.1.0

-- ---- what is left
-- Refused: neither record nor state changes.
pub left-refused : (p : Panel) (s : State) {k : ℕ} → k ≡ accept_number (config_of s [] [] []) p.figure → k ≢ 0 → accepted_of p s ≡ record { panel = p; answer = record { number = k; state = s } }
unfolding accepted_of
left-refused p s {k} e ne = ap (λ (j : ℕ). counted_by j p s) (sym e) ∙ go k ne
  where
    go : (j : ℕ) → j ≢ 0 → counted_by j p s ≡ record { panel = p; answer = record { number = j; state = s } }
    go zero ne = absurd (ne refl)
    go (suc j) ne = refl

-- Taken: the figure is one more, and the phase is 6.
pub left-taken : (p : Panel) (s : State) {k : ℕ} → k ≡ accept_number (config_of s [] [] []) p.figure → k ≡ 0 → accepted_of p s ≡ record { panel = record { figure = p.figure + 1 }; answer = record { number = 0; state = as_accepted s } }
unfolding accepted_of
left-taken p s e z = let one : suc p.figure ≡ p.figure + 1 = omega arith in ap (λ (j : ℕ). counted_by j p s) (sym e ∙ z) ∙ (λ i. record { panel = record { figure = one i }; answer = record { number = 0; state = as_accepted s } })
