-- A counted card is a good card; roll-back orders by phase.
-- On line B no number comes before a call's own, so the phase decides; on any state, what is taken has passed each condition.
use Rattle.std.proofs.Common.{◌≡◌, refl, sym, ap, ◌∙◌, ◌≢◌, ◌⊎◌, inl, inr, Bool, true, false, ◌||◌, not, List, [], ◌∷◌, ◌++◌, ℕ, zero, suc, ◌*◌, ◌≤◌, ◌<◌, arith, eqb, ltb, leb, le-leb, ltb-true, leb-true, leb-false}
use borrow.Author.Tests.{eqb-false, lt-leb}
use Rattle.lists.proofs.Tests.{clash, both}
use Rattle.graphs.specs.Events.{labelled}
use Rattle.graphs.specs.Refusals.{Refusal, refuse, first_of, Lent, size_refusals, vertex_out}
use Rattle.graphs.specs.Image.{Image, SameLinks, graph_of}
use Rattle.graphs.proofs.Refusals.{all-false, first_rest}
use Rattle.graphs.proofs.Depth.{depth-first}
use Rattle.graphs.proofs.Room.{profile-ready}
use Rattle.folding.specs.Machine.{Config, finished, rolling_back, accepted, can_step}
use Rattle.folding.specs.Calls.{taken, refused, unless, over, state_number, accept_number, roll_back_number, number_of, perform, area_of, Call, run_for, single, roll_back, serve, proceed, run, in_phase, open_number, unopened, fields_in, work_areas, step_refusals, accept_refusals, run_number, step_number}
use Rattle.folding.specs.Lines.{Line, noted, calls, line_a, line_b, folded}
use Rattle.folding.specs.Claims.{Agrees, UnderWay, OrderClaim}
use Rattle.folding.specs.Accepting.{GoodCard, CardClaim, OnceClaim}
use Rattle.folding.proofs.Future.{all_of}
use Rattle.folding.proofs.Passed.{passed}
use Rattle.folding.proofs.Calls.{own-number}
use Rattle.folding.proofs.Agreement.{held, profile, marks-long, agreement, ended-calm}

-- ---- accepting's own conditions
own-ended : (p figure : ℕ) → p ≡ 3 → figure < 999999 → first_of (accept_refusals p figure) ≡ 0
own-ended p figure h k = ap (λ (x : ℕ). first_of (accept_refusals x figure)) h ∙ ap (λ (b : Bool). first_of (refuse 11 b ∷ [])) (lt-leb 999999 figure k)

own-full : (p figure : ℕ) → p ≡ 3 → 999999 ≤ figure → first_of (accept_refusals p figure) ≡ 11
own-full p figure h k = ap (λ (x : ℕ). first_of (accept_refusals x figure)) h ∙ ap (λ (b : Bool). first_of (refuse 11 b ∷ [])) (le-leb 999999 figure k)

own-unfinished : (p figure : ℕ) → (p ≡ 1) ⊎ ((p ≡ 2) ⊎ (p ≡ 4)) → first_of (accept_refusals p figure) ≡ 10
own-unfinished p figure (inl h) = ap (λ (x : ℕ). first_of (accept_refusals x figure)) h
own-unfinished p figure (inr (inl h)) = ap (λ (x : ℕ). first_of (accept_refusals x figure)) h
own-unfinished p figure (inr (inr h)) = ap (λ (x : ℕ). first_of (accept_refusals x figure)) h

own-over : (p figure : ℕ) → (p ≡ 5) ⊎ (p ≡ 6) → first_of (accept_refusals p figure) ≡ 9
own-over p figure (inl h) = ap (λ (x : ℕ). first_of (accept_refusals x figure)) h
own-over p figure (inr h) = ap (λ (x : ℕ). first_of (accept_refusals x figure)) h

-- ---- on any state
-- Of 1 to 6 only phase 3 is not refused.
only-ended : (p figure : ℕ) → 0 < p → p ≤ 6 → first_of (accept_refusals p figure) ≡ 0 → p ≡ finished
only-ended zero figure low high z = absurd (omega (arith, low))
only-ended (suc zero) figure low high z = absurd (eqb-false 10 0 refl z)
only-ended (suc (suc zero)) figure low high z = absurd (eqb-false 10 0 refl z)
only-ended (suc (suc (suc zero))) figure low high z = refl
only-ended (suc (suc (suc (suc zero)))) figure low high z = absurd (eqb-false 10 0 refl z)
only-ended (suc (suc (suc (suc (suc zero))))) figure low high z = absurd (eqb-false 9 0 refl z)
only-ended (suc (suc (suc (suc (suc (suc zero)))))) figure low high z = absurd (eqb-false 9 0 refl z)
only-ended (suc (suc (suc (suc (suc (suc (suc p))))))) figure low high z = absurd (omega (arith, high))

had_ended : (w : Config) (figure : ℕ) → accept_number w figure ≡ 0 → (w.phase ≡ finished) × (figure < 999999)
unfolding accept_number
had_ended w figure h =
    let P = passed w [] (accept_refusals w.phase figure) h in
    let a = (all-false (accept_refusals w.phase figure) [] (omega arith) P.own-false).0 in
    let b = both (ltb 0 w.phase) (leb w.phase 6) P.fields.phase-in in
    (only-ended w.phase figure (ltb-true 0 w.phase b.0) (leb-true w.phase 6 b.1) P.own-false, leb-false 999999 figure a.1.1.0)

never_again : (w : Config) (figure : ℕ) → w.phase ≡ accepted → accept_number w figure ≢ 0
never_again w figure e h = let t : w.phase ≡ 3 = (had_ended w figure h).0 in let s : w.phase ≡ 6 = e in omega arith

-- ---- line B
module _ (g : Image) (before : List ℕ) (start : ℕ) (marks area : List ℕ) (h : open_number g before start marks area ≡ 0) (cs : List Call) (figure : ℕ) where
  abbrev l : Line
  l = line_b folded g before start marks area cs

  decided : accept_number l.config figure ≡ first_of (accept_refusals l.config.phase figure)
  unfolding accept_number
  decided =
      let P = profile g before start marks area h in
      own-number g P.sound before start P.start_vertex P.listed marks (marks-long g before start marks area h) l (accept_refusals l.config.phase figure) (held g before start marks area h cs)

  agrees : (a : Image) → SameLinks a g → Agrees g (labelled (all_of g before start)) (line_a a before start) l
  agrees a L =
      let P = profile g before start marks area h in
      agreement a g L before start marks area h (labelled (all_of g before start)) (depth-first (graph_of g) before start (profile-ready g P.sound before start P.start_vertex P.listed)).complete.labels cs

  good : (a : Image) → SameLinks a g → GoodCard g (line_a a before start) figure l
  good a L = record {
    counted = λ k. (λ z. (had_ended l.config figure z).0, λ e. decided ∙ own-ended l.config.phase figure e k);
    restored = λ z. (agrees a L).restored (inl (had_ended l.config figure z).0);
    all = λ z. let e = (had_ended l.config figure z).0 in (agrees a L).all (ended-calm g before start marks area h cs e) e;
    unfinished = λ q. decided ∙ own-unfinished l.config.phase figure q;
    withdrawn = λ q. decided ∙ own-over l.config.phase figure (inl q);
    full = λ q k. decided ∙ own-full l.config.phase figure q k;
  }

pub good-card : CardClaim folded
good-card a g L before start marks area h cs figure = good g before start marks area h cs figure a L

-- ---- no call leads out of phase 6
-- A state in phase 6 is over.
accepted-over : (w : Config) → w.phase ≡ accepted → over w ≡ true
accepted-over w e = ap (λ (p : ℕ). eqb p 3 || (eqb p 5 || eqb p 6)) e

-- A run of it makes no step.
run-stays : (k : ℕ) (w : Config) → over w ≡ true → (run k w).config ≡ w
unfolding run
run-stays zero w o = refl
run-stays (suc k) w o = ap (λ (b : Bool). (proceed (run k) b (can_step w) w).config) o

-- A refused call keeps the state, a call taken leaves what it performs.
serve-by : (w : Config) (c : Call) (x : Config) → ((k : ℕ) → number_of w c ≡ k → (unless k w (area_of c) (perform w c)).config ≡ x) → (serve w c).config ≡ x
unfolding serve
serve-by w c x f = f (number_of w c) refl

call_stays : (w : Config) (c : Call) → w.phase ≡ accepted → (serve w c).config ≡ w
unfolding step_number roll_back_number
call_stays w (run_for k area) e = serve-by w (run_for k area) w go
  where
    go : (j : ℕ) → number_of w (run_for k area) ≡ j → (unless j w area (perform w (run_for k area))).config ≡ w
    go zero q = run-stays k w (accepted-over w e)
    go (suc j) q = refl
call_stays w (single area) e = serve-by w (single area) w go
  where
    go : (j : ℕ) → number_of w (single area) ≡ j → (unless j w area (perform w (single area))).config ≡ w
    go zero q =
        let a = (all-false (step_refusals w) [] (omega arith) (passed w (work_areas w 6 area) (step_refusals w) q).own-false).0 in
        clash (sym (accepted-over w e) ∙ a.1.0)
    go (suc j) q = refl
call_stays w roll_back e = serve-by w roll_back w go
  where
    go : (j : ℕ) → number_of w roll_back ≡ j → (unless j w [] (perform w roll_back)).config ≡ w
    go zero q =
        let a = (all-false (refuse 9 (over w) ∷ []) [] (omega arith) (passed w [] (refuse 9 (over w) ∷ []) q).own-false).0 in
        clash (sym (accepted-over w e) ∙ a.0)
    go (suc j) q = refl

calls-stay : (l : Line) (cs : List Call) → l.config.phase ≡ accepted → (calls folded l cs).config ≡ l.config
unfolding calls
calls-stay l [] e = refl
calls-stay l (c ∷ cs) e =
    let s = call_stays l.config c e in
    calls-stay (noted l c (serve l.config c)) cs (ap (λ (w : Config). w.phase) s ∙ e) ∙ s

pub once : OnceClaim folded
once = record { had_ended = had_ended; never_again = never_again; stays = calls-stay }

-- ---- orders
order_is : (w : Config) (b : Bool) → state_number w [] [] ≡ 0 → over w ≡ b → roll_back_number w ≡ first_of (refuse 9 b ∷ [])
unfolding roll_back_number
order_is w b z o =
    first_rest (size_refusals w.n w.m [] ++ refuse 4 (vertex_out w.n w.start) ∷ refuse 8 (not (fields_in w)) ∷ []) (refuse 9 (over w) ∷ []) (omega arith) z
    ∙ ap (λ (x : Bool). first_of (refuse 9 x ∷ [])) o

-- A phase with a step to come is none of the others, and the other way round.
under-way : (p : ℕ) → UnderWay p → (eqb p 3 || (eqb p 5 || eqb p 6)) ≡ false
under-way p (inl h) = ap (λ (x : ℕ). eqb x 3 || (eqb x 5 || eqb x 6)) h
under-way p (inr (inl h)) = ap (λ (x : ℕ). eqb x 3 || (eqb x 5 || eqb x 6)) h
under-way p (inr (inr h)) = ap (λ (x : ℕ). eqb x 3 || (eqb x 5 || eqb x 6)) h

which : (p : ℕ) → 0 < p → p ≤ 6 → UnderWay p ⊎ ((UnderWay p → ⊥) × ((eqb p 3 || (eqb p 5 || eqb p 6)) ≡ true))
which zero low high = absurd (omega (arith, low))
which (suc zero) low high = inl (inl refl)
which (suc (suc zero)) low high = inl (inr (inl refl))
which (suc (suc (suc zero))) low high = inr (λ u. clash (under-way 3 u), refl)
which (suc (suc (suc (suc zero)))) low high = inl (inr (inr refl))
which (suc (suc (suc (suc (suc zero))))) low high = inr (λ u. clash (under-way 5 u), refl)
which (suc (suc (suc (suc (suc (suc zero)))))) low high = inr (λ u. clash (under-way 6 u), refl)
which (suc (suc (suc (suc (suc (suc (suc p))))))) low high = absurd (omega (arith, high))

order-again : (w : Config) → w.phase ≡ rolling_back → (serve w roll_back).config ≡ w
order-again w e = serve-by w roll_back w go
  where
    go : (j : ℕ) → number_of w roll_back ≡ j → (unless j w [] (perform w roll_back)).config ≡ w
    go zero q = ap (λ (p : ℕ). in_phase p w) (sym e)
    go (suc j) q = refl

-- No call with a state is taken where v is 0.
not_taken : (w : Config) (areas : List Lent) (own : List Refusal) → w.v ≡ 0 → state_number w areas own ≢ 0
not_taken w areas own e z =
    let b = both (ltb 0 w.v) (leb w.v w.n) (passed w areas own z).fields.v-in in
    let p = ltb-true 0 w.v b.0 in
    omega (arith, p, e)

no_call : (g : Image) (start : ℕ) (marks : List ℕ) (c : Call) → number_of (unopened g start marks) c ≢ 0
unfolding run_number step_number roll_back_number
no_call g start marks (run_for k area) = not_taken (unopened g start marks) (work_areas (unopened g start marks) (6 * k) area) [] refl
no_call g start marks (single area) = not_taken (unopened g start marks) (work_areas (unopened g start marks) 6 area) (step_refusals (unopened g start marks)) refl
no_call g start marks roll_back = not_taken (unopened g start marks) [] (refuse 9 (over (unopened g start marks)) ∷ []) refl

no_card : (g : Image) (start : ℕ) (marks : List ℕ) (figure : ℕ) → accept_number (unopened g start marks) figure ≢ 0
unfolding accept_number
no_card g start marks figure = not_taken (unopened g start marks) [] (accept_refusals 0 figure) refl

-- An order on a state in kind, by its phase.
order-taken : (w : Config) → state_number w [] [] ≡ 0 → UnderWay w.phase → (serve w roll_back).answer ≡ taken
unfolding serve
order-taken w z u = ap (λ (k : ℕ). (unless k w [] (perform w roll_back)).answer) (order_is w false z (under-way w.phase u))

order-refused : (w : Config) → state_number w [] [] ≡ 0 → over w ≡ true → (serve w roll_back).answer ≡ refused 9
unfolding serve
order-refused w z o = ap (λ (k : ℕ). (unless k w [] (perform w roll_back)).answer) (order_is w true z o)

phase-of : (w : Config) → state_number w [] [] ≡ 0 → UnderWay w.phase ⊎ ((UnderWay w.phase → ⊥) × (over w ≡ true))
phase-of w z =
    let b = both (ltb 0 w.phase) (leb w.phase 6) (passed w [] [] z).fields.phase-in in
    which w.phase (ltb-true 0 w.phase b.0) (leb-true w.phase 6 b.1)

only-under-way : (w : Config) → state_number w [] [] ≡ 0 → (serve w roll_back).answer ≡ taken → UnderWay w.phase
only-under-way w z t = go (phase-of w z)
  where
    go : UnderWay w.phase ⊎ ((UnderWay w.phase → ⊥) × (over w ≡ true)) → UnderWay w.phase
    go (inl u) = u
    go (inr (ne, o)) = absurd (let e : refused 9 ≡ taken = sym (order-refused w z o) ∙ t in let q : ◌≡◌ {A = ℕ} 0 1 = cc in omega arith)

else_nine : (w : Config) → state_number w [] [] ≡ 0 → (UnderWay w.phase → ⊥) → (serve w roll_back).answer ≡ refused 9
else_nine w z ne = go (phase-of w z)
  where
    go : UnderWay w.phase ⊎ ((UnderWay w.phase → ⊥) × (over w ≡ true)) → (serve w roll_back).answer ≡ refused 9
    go (inl u) = absurd (ne u)
    go (inr (not_so, o)) = order-refused w z o

pub orders : OrderClaim folded
orders = record { ordered = λ w z. (only-under-way w z, order-taken w z); else_nine = else_nine; again = order-again; no_call = no_call; no_card = no_card }
