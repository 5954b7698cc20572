-- A run under the invariant keeps it, and is never stuck.
-- By recursion on the budget.
use Rattle.std.proofs.Common.{◌≡◌, refl, sym, ap, ◌∙◌, subst, Bool, true, false, cond, List, ℕ, zero, suc, ◌+◌, arith, add-zero}
use mathlib.Core.List.{reverse_aux, reverse_aux-append}
use Rattle.graphs.specs.Image.{Image}
use Rattle.graphs.proofs.Sound.{Sound}
use Rattle.folding.specs.Machine.{Stepped, can_step}
use Rattle.folding.specs.Calls.{Reason, ended, spent, stuck, over, Run, stop, onward, proceed, run}
use Rattle.folding.specs.Lines.{add_if}
use Rattle.folding.proofs.Invariant.{Trace, tick, Holds, Moves, move}

-- The trace after a run.
abbrev pub advance : Trace → Run → Trace
advance t r = record { config = r.config; history = reverse_aux r.events t.history; steps = t.steps + r.steps; rolling = t.rolling; since = add_if t.rolling t.since r.steps }

-- Steps are counted only since a roll-back order.
abbrev pub Calm : Trace → Type 0
Calm t = t.rolling ≡ false → t.since ≡ 0

pub since_none : (b : Bool) (a : ℕ) → (b ≡ false → a ≡ 0) → add_if b a 0 ≡ a
since_none true a h = add-zero a
since_none false a h = sym (h refl)

since-more : (b : Bool) (a k : ℕ) → add_if b (add_if b a 1) k ≡ add_if b a (suc k)
since-more true a k = omega arith
since-more false a k = refl

pub calm_more : (t : Trace) (k : ℕ) → t.rolling ≡ false → add_if t.rolling t.since k ≡ 0
calm_more t k e = ap (λ (b : Bool). add_if b t.since k) e

advance-none : (t : Trace) (why : Reason) → Calm t → advance t (stop why t.config) ≡ t
advance-none t why c = λ i. record { config = t.config; history = t.history; steps = add-zero t.steps i; rolling = t.rolling; since = since_none t.rolling t.since c i }

advance-onward : (t : Trace) (s : Stepped) (r : Run) → advance (tick t s) r ≡ advance t (onward s.events r)
advance-onward t s r = λ i. record { config = r.config; history = sym (reverse_aux-append s.events r.events t.history) i; steps = more i; rolling = t.rolling; since = since-more t.rolling t.since r.steps i }
  where
    more : suc t.steps + r.steps ≡ t.steps + suc r.steps
    more = omega arith

-- Not stuck.
abbrev pub Free : Reason → Type 0
Free ended = Unit {0}
Free spent = Unit {0}
Free stuck = ⊥

free-cond : (b : Bool) → Free (cond b ended spent)
free-cond true = tt
free-cond false = tt

module _ (g : Image) (S : Sound g) (before : List ℕ) (start : ℕ) (area : List ℕ) where
  pub record Ran (t : Trace) (r : Run) : Type 0 where
    pub holds : Holds g before start area (advance t r)
    pub free : Free r.reason

  pub run_holds : (k : ℕ) (t : Trace) → Holds g before start area t → Calm t → Ran t (run k t.config)
  unfolding run
  run_holds zero t H c = record { holds = subst (Holds g before start area) (sym (advance-none t (cond (over t.config) ended spent) c)) H; free = free-cond (over t.config) }
  run_holds (suc k) t H c = go (over t.config) refl (λ M. run_holds k (tick t M.next) M.holds (calm_more t 1))
    where
      go : (b : Bool) → over t.config ≡ b → ((M : Moves g before start area t) → Ran (tick t M.next) (run k M.next.config)) → Ran t (proceed (run k) b (can_step t.config) t.config)
      go true e ih = record { holds = subst (Holds g before start area) (sym (advance-none t ended c)) H; free = tt }
      go false e ih =
          let M : Moves g before start area t = move g before start area S t H e in
          let N = ih M in
          let p : proceed (run k) false (can_step t.config) t.config ≡ onward M.next.events (run k M.next.config) =
          ap (λ (b : Bool). proceed (run k) false b t.config) M.goes.can ∙ ap (λ (s : Stepped). onward s.events (run k s.config)) M.goes.is in
          subst (Ran t) (sym p) (record { holds = subst (Holds g before start area) (advance-onward t M.next (run k M.next.config)) N.holds; free = N.free })
