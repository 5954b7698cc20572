-- Which step comes, by the tests that the code makes.
-- The tests are those of the definition, in another order.
use Rattle.std.proofs.Common.{◌≡◌, refl, sym, ap, ◌∙◌, ◌≢◌, Bool, true, false, cond, List, ℕ, ◌+◌, ◌≤◌, ◌<◌, arith, eqb, ltb, lt-ltb, le-ltb, eq-eqb, ne_eqb}
use Rattle.folding.specs.Machine.{Config, walking, rolling_back, Step, tree, nontree, relink, retreat, finish, undo_tree, undo_open, forward, fresh, pick_step, step_of}
use Rattle.states.specs.declared.values.State.{State}
use Rattle.folded.specs.Steps.{Attempt, trying, onward, Ready}

-- Ready without the marks: any n + m words stand for them.
pub but-marks : (s : State) {a t k : ℕ} → Ready s a t k → Ready s a t (s.n + s.m)
but-marks s R = record {
  few_vertices = R.few_vertices;
  few_edges = R.few_edges;
  v_low = R.v_low;
  v_high = R.v_high;
  e_low = R.e_low;
  e_high = R.e_high;
  f_high = R.f_high;
  next_high = R.next_high;
  long_after = R.long_after;
  long_tail = R.long_tail;
  long_marks = omega arith;
}

-- A step tried, which is the step that comes.
pub coming : {x : Attempt} (w : Config) {p : Step} (k : ℕ) (area : List ℕ) → step_of w ≡ p → x ≡ trying w p k area → x ≡ trying w (step_of w) k area
coming w k area e h = h ∙ ap (λ (q : Step). trying w q k area) (sym e)

module _ (w : Config) where
  pub goes-forward : w.phase ≡ walking → w.e ≢ 0 → forward w ≡ true
  goes-forward p e = simp (eq-eqb w.phase walking p, ne_eqb w.e 0 e)

  pub not-walking : w.phase ≢ walking → forward w ≡ false
  not-walking p = simp (ne_eqb w.phase walking p)

  pub none-next : w.phase ≡ walking → w.e ≡ 0 → forward w ≡ false
  none-next p e = simp (eq-eqb w.phase walking p, eq-eqb w.e 0 e)

  picked : {a c d b : Bool} → forward w ≡ a → ltb w.n w.f ≡ c → eqb w.f 0 ≡ d → eqb w.phase rolling_back ≡ b → step_of w ≡ pick_step a (fresh w) c d b
  unfolding step_of
  picked p q r s = λ i. pick_step (p i) (fresh w) (q i) (r i) (s i)

  pub picks-onward : forward w ≡ true → step_of w ≡ onward w
  picks-onward h = picked h refl refl refl ∙ go (fresh w) (ltb w.n w.f) (eqb w.f 0) (eqb w.phase rolling_back)
    where
      go : (a c d b : Bool) → pick_step true a c d b ≡ cond a tree nontree
      go true c d b = refl
      go false c d b = refl

  module _ (h : forward w ≡ false) where
    pub picks-relink : w.n < w.f → step_of w ≡ relink
    picks-relink q = picked h (lt-ltb w.n w.f q) refl refl

    pub picks-undo-open : w.f ≤ w.n → w.phase ≡ rolling_back → w.f ≡ 0 → step_of w ≡ undo_open
    picks-undo-open q p z = picked h (le-ltb w.n w.f q) (eq-eqb w.f 0 z) (eq-eqb w.phase rolling_back p)

    pub picks-undo-tree : w.f ≤ w.n → w.phase ≡ rolling_back → w.f ≢ 0 → step_of w ≡ undo_tree
    picks-undo-tree q p z = picked h (le-ltb w.n w.f q) (ne_eqb w.f 0 z) (eq-eqb w.phase rolling_back p)

    pub picks-finish : w.f ≤ w.n → w.phase ≢ rolling_back → w.f ≡ 0 → step_of w ≡ finish
    picks-finish q p z = picked h (le-ltb w.n w.f q) (eq-eqb w.f 0 z) (ne_eqb w.phase rolling_back p)

    pub picks-retreat : w.f ≤ w.n → w.phase ≢ rolling_back → w.f ≢ 0 → step_of w ≡ retreat
    picks-retreat q p z = picked h (le-ltb w.n w.f q) (ne_eqb w.f 0 z) (ne_eqb w.phase rolling_back p)
