-- Runs on any configuration: why they stop, and how they compose.
-- By recursion on the budget.
use Rattle.std.proofs.Common.{◌≡◌, refl, sym, ap, ◌∙◌, Bool, true, false, cond, List, ◌++◌, append_assoc, ℕ, zero, suc, ◌+◌, ◌<◌, arith, ne_eqb}
use lib.Dec.{eqb-suc-suc}
use Rattle.graphs.specs.Events.{Event}
use Rattle.folding.specs.Machine.{Config, Stepped, can_step, step}
use Rattle.folding.specs.Calls.{Reason, ended, spent, stuck, over, Run, stop, onward, proceed, run}
use Rattle.folding.specs.Claims.{stop_reason, steps_from, Tested, joined, ComposeClaim}

-- ---- why a run stops
-- No step is made.
stops-now : (w : Config) (k : ℕ) (why : Reason) → why ≡ stop_reason k 0 w → (why ≡ stuck → can_step w ≡ false) → Tested w k (stop why w)
stops-now w k why e j = record { made = refl; each = λ i h. absurd (omega arith); budget = omega arith; reason = e; jammed = j }

-- One step is made, and then a run.
stops-later : (w : Config) (k : ℕ) (r : Run) → over w ≡ false → can_step w ≡ true → Tested (step w).config k r → Tested w (suc k) (onward (step w).events r)
stops-later w k r o c S = record {
  made = ap (λ (s : Stepped). record { config = s.config; events = (step w).events ++ s.events }) S.made;
  each = each;
  budget = omega (arith, S.budget);
  reason = S.reason ∙ ap (λ (b : Bool). cond (over r.config) ended (cond b spent stuck)) (sym (eqb-suc-suc r.steps k));
  jammed = S.jammed;
}
  where
    each : (j : ℕ) → j < suc r.steps → (over (steps_from j w).config ≡ false) × (can_step (steps_from j w).config ≡ true)
    each zero h = (o, c)
    each (suc j) h = S.each j (omega arith)

pub run-stops : (k : ℕ) (w : Config) → Tested w k (run k w)
unfolding run
run-stops zero w = go (over w) refl
  where
    go : (b : Bool) → over w ≡ b → Tested w zero (stop (cond (over w) ended spent) w)
    go true e = stops-now w zero (cond (over w) ended spent) (rw e) (rw e (λ q. absurd (let z : ◌≡◌ {A = ℕ} 0 1 = cc in omega arith)))
    go false e = stops-now w zero (cond (over w) ended spent) (rw e) (rw e (λ q. absurd (let z : ◌≡◌ {A = ℕ} 0 1 = cc in omega arith)))
run-stops (suc k) w = go (over w) (can_step w) refl refl (run-stops k (step w).config)
  where
    go : (a b : Bool) → over w ≡ a → can_step w ≡ b → Tested (step w).config k (run k (step w).config) → Tested w (suc k) (proceed (run k) a b w)
    go true b e f ih = stops-now w (suc k) ended (rw e) (λ q. absurd (let z : ◌≡◌ {A = ℕ} 0 1 = cc in omega arith))
    go false false e f ih = stops-now w (suc k) stuck (rw (e, ne_eqb 0 (suc k) (omega arith))) (λ q. f)
    go false true e f ih = stops-later w k (run k (step w).config) e f ih

-- ---- runs compose
join-none : (w : Config) (why : Reason) (s : Run) → joined (stop why w) s ≡ s
join-none w why s = let z : 0 + s.steps ≡ s.steps = omega arith in λ i. record { reason = s.reason; steps = z i; events = s.events; config = s.config }

join-onward : (es : List Event) (r s : Run) → joined (onward es r) s ≡ onward es (joined r s)
join-onward es r s = let z : suc r.steps + s.steps ≡ suc (r.steps + s.steps) = omega arith in λ i. record { reason = s.reason; steps = z i; events = append_assoc es r.events s.events i; config = s.config }

-- A run by its tests.
run_at : (k : ℕ) (w : Config) {x y : Bool} → over w ≡ x → can_step w ≡ y → run (suc k) w ≡ proceed (run k) x y w
unfolding run
run_at k w e f = λ i. proceed (run k) (e i) (f i) w

pub run-compose : ComposeClaim
unfolding run
run-compose zero b w = let z : suc b ≡ 0 + suc b = omega arith in join-none w (cond (over w) ended spent) (run (suc b) w) ∙ ap (λ (k : ℕ). run k w) z
run-compose (suc a) b w = go (over w) (can_step w) refl refl (run-compose a b (step w).config) ∙ ap (λ (k : ℕ). run k w) more
  where
    more : suc (a + suc b) ≡ suc a + suc b
    more = omega arith

    go : (x y : Bool) → over w ≡ x → can_step w ≡ y → joined (run a (step w).config) (run (suc b) (run a (step w).config).config) ≡ run (a + suc b) (step w).config → joined (proceed (run a) x y w) (run (suc b) (proceed (run a) x y w).config) ≡ proceed (run (a + suc b)) x y w
    go true y e f ih = join-none w ended (run (suc b) w) ∙ run_at b w e f
    go false false e f ih = join-none w stuck (run (suc b) w) ∙ run_at b w e f
    go false true e f ih = join-onward (step w).events (run a (step w).config) (run (suc b) (run a (step w).config).config) ∙ ap (onward (step w).events) ih
