-- Demand 1 of the folded search, on any input; the claims on single steps and on the run's tests.
-- A call that is not refused stays within its areas.
use Rattle.std.proofs.Common.{◌≡◌, refl, sym, ap, ◌∙◌, subst, ◌≢◌, Bool, true, not, ◌&&◌, List, [], ◌∷◌, ℕ, zero, suc, ◌+◌, ◌*◌, ◌≤◌, arith, length, drop}
use borrow.Author.Tests.{not-false}
use Rattle.lists.specs.Words.{overlay}
use Rattle.lists.proofs.Words.{length-put, length-filled, put-past, filled-past}
use Rattle.graphs.specs.Events.{Event, event, label, words}
use Rattle.graphs.specs.Results.{unless_blank, marks_first}
use Rattle.graphs.specs.Image.{Image}
use Rattle.graphs.specs.Refusals.{first_of, lent}
use Rattle.graphs.proofs.Refusals.{all-false, long}
use Rattle.graphs.proofs.Sound.{profile_sound}
use Rattle.graphs.proofs.Room.{words-length}
use Rattle.folding.specs.Machine.{Config, rolling_back, label_mark, can_step, step}
use Rattle.folding.specs.Calls.{Reason, Answer, ran, taken, refused, Reply, refusing, unless, work_areas, run_number, step_refusals, step_number, in_phase, run, Call, run_for, single, roll_back, area_of, number_of, perform, serve, unopened, open_number, opened_at, open_reply, opening}
use Rattle.folding.specs.Lines.{folded}
use Rattle.folding.specs.Claims.{Judged, Within, Confined, Demand1, StepClaim, Tested, told_run, RunClaim}
use Rattle.folding.proofs.Passed.{passed, lengths}
use Rattle.folding.proofs.Confined.{within-refl, Kept, step_kept, RunKept, run-kept}
use Rattle.folding.proofs.Runs.{run-stops}

-- ---- refused, or not
not-refused : {A : Type 0} (why : Reason) (k : ℕ) → ran why ≡ refused k → A
not-refused why k e = absurd (let z : ◌≡◌ {A = ℕ} 0 1 = cc in omega arith)

taken_not : {A : Type 0} (k : ℕ) → taken ≡ refused k → A
taken_not k e = absurd (let z : ◌≡◌ {A = ℕ} 0 1 = cc in omega arith)

judged : (k : ℕ) (w : Config) (area : List ℕ) (r : Reply) → ((j : ℕ) → r.answer ≢ refused j) → Judged k w area (unless k w area r)
judged zero w area r h = h
judged (suc k) w area r h = refl

performed : (w : Config) (c : Call) (k : ℕ) → (perform w c).answer ≢ refused k
performed w (run_for j area) k e = not-refused (run j w).reason k e
performed w (single area) k e = taken_not k e
performed w roll_back k e = taken_not k e

-- ---- confined
-- A reply whose configuration is within, and whose events fit the area.
confined : (w : Config) (area : List ℕ) (a : Answer) (made : ℕ) (es : List Event) (x : Config) → Within w x → length (words es) ≤ length area → Confined w area (record { answer = a; steps = made; events = es; config = x; area = overlay (words es) area })
confined w area a made es x W h = record { links = W; fits = h; told = refl }

-- Nothing changed.
still : (w : Config) (area : List ℕ) (k : ℕ) → Confined w area (refusing k w area)
still w area k = confined w area (refused k) 0 [] w (within-refl w) (omega arith)

run-confined : (w : Config) (k : ℕ) (area : List ℕ) → run_number w k area ≡ 0 → Confined w area (perform w (run_for k area))
unfolding run_number
run-confined w k area h =
    let P = passed w (work_areas w (6 * k) area) [] h in
    let Z = lengths w (6 * k) area P.areas-long in
    let R : RunKept w (run k w) = run-kept k w P.fields (omega (arith, Z.marks-long)) in
    confined w area (ran (run k w).reason) (run k w).steps (run k w).events (run k w).config R.within (omega (arith, words-length (run k w).events, R.few, (run-stops k w).budget, Z.area-long))

-- A step that is not refused fits: there is one to come, and its words are in kind.
pub fits-of : (w : Config) → first_of (step_refusals w) ≡ 0 → can_step w ≡ true
fits-of w h =
    let a = all-false (step_refusals w) [] (omega arith) h in
    not-false (can_step w) (sym (ap (λ (x : Bool). not x && not (can_step w)) a.0.1.0) ∙ a.0.0)

single-confined : (w : Config) (area : List ℕ) → step_number w area ≡ 0 → Confined w area (perform w (single area))
unfolding step_number
single-confined w area h =
    let P = passed w (work_areas w 6 area) (step_refusals w) h in
    let Z = lengths w 6 area P.areas-long in
    let K : Kept w (step w) = step_kept w P.fields (omega (arith, Z.marks-long)) (fits-of w P.own-false) in
    confined w area taken 1 (step w).events (step w).config K.within (omega (arith, words-length (step w).events, K.few, Z.area-long))

perform-confined : (w : Config) (c : Call) → number_of w c ≡ 0 → Confined w (area_of c) (perform w c)
perform-confined w (run_for k area) h = run-confined w k area h
perform-confined w (single area) h = single-confined w area h
perform-confined w roll_back h = confined w [] taken 0 [] (in_phase rolling_back w) (record { same_n = refl; same_m = refl; same_start = refl; after_length = refl; tail_length = refl; marks_length = refl; after_past = refl; tail_past = refl; marks_past = refl }) (omega arith)

unless-confined : (k : ℕ) (w : Config) (area : List ℕ) (r : Reply) → (k ≡ 0 → Confined w area r) → Confined w area (unless k w area r)
unless-confined zero w area r h = h refl
unless-confined (suc k) w area r h = still w area (suc k)

open-confined : (g : Image) (before : List ℕ) (start : ℕ) (marks area : List ℕ) → open_number g before start marks area ≡ 0 → Confined (unopened g start marks) area (open_reply g before start marks area)
unfolding open_number
open-confined g before start marks area h =
    let P = profile_sound g before start (lent (g.n + g.m) marks ∷ lent 3 area ∷ []) h in
    let a = long (g.n + g.m) marks (lent 3 area ∷ []) P.areas-long in
    let b = long 3 area [] a.1 in
    let s = P.start_vertex in
    let z : g.n + g.m + 0 ≡ g.n + g.m = omega arith in
    confined (unopened g start marks) area taken 0 (event label 0 start ∷ []) (opened_at g before start marks)
    (record {
      same_n = refl;
      same_m = refl;
      same_start = refl;
      after_length = refl;
      tail_length = refl;
      marks_length = length-put 0 (marks_first (g.n + g.m) before marks) start (label_mark 1) ∙ length-filled (unless_blank before (λ x. 0)) (g.n + g.m) marks a.0;
      after_past = refl;
      tail_past = refl;
      marks_past = put-past 0 (g.n + g.m) (marks_first (g.n + g.m) before marks) start (label_mark 1) s.0 (omega arith) ∙ subst (λ (k : ℕ). drop k (marks_first (g.n + g.m) before marks) ≡ drop k marks) z (filled-past (unless_blank before (λ x. 0)) (g.n + g.m) 0 marks);
    })
    b.0

-- ---- the claims
pub demand1 : Demand1 folded
unfolding opening serve
demand1 = record {
  opening = λ g before start marks area. judged (open_number g before start marks area) (unopened g start marks) area (open_reply g before start marks area) (λ k e. taken_not k e);
  call = λ w c. judged (number_of w c) w (area_of c) (perform w c) (performed w c);
  opening_confined = λ g before start marks area. unless-confined (open_number g before start marks area) (unopened g start marks) area (open_reply g before start marks area) (open-confined g before start marks area);
  call_confined = λ w c. unless-confined (number_of w c) w (area_of c) (perform w c) (perform-confined w c);
}

pub steps-as-defined : StepClaim folded
unfolding opening serve
steps-as-defined = record {
  opened = λ g before start marks area h. ap (λ (k : ℕ). unless k (unopened g start marks) area (open_reply g before start marks area)) h;
  stepped = λ w area h. ap (λ (k : ℕ). unless k w area (perform w (single area))) h;
  ordered = λ w h. ap (λ (k : ℕ). unless k w [] (perform w roll_back)) h;
}

pub run-tests : RunClaim folded
unfolding serve
run-tests w k area h = ((run k w).reason, subst (λ (x : ℕ). (unless x w area (perform w (run_for k area))).answer ≡ ran (run k w).reason) (sym h) refl, subst (λ (x : ℕ). Tested w k (told_run (run k w).reason (unless x w area (perform w (run_for k area))))) (sym h) (run-stops k w))
