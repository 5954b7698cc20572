-- Each wrong walker of specs/Wrong fails the claim that is named beside it there.
-- On one small profile each, or two, the claim computes to something false.
use Rattle.std.proofs.Common.{◌≡◌, refl, sym, ap, ◌∙◌, subst, List, [], ◌∷◌, ◌++◌, reverse, ℕ, arith, length, replicate}
use Rattle.lists.specs.Counts.{sum_of}
use Rattle.lists.specs.Words.{at, put}
use Rattle.lists.proofs.Tests.{clash}
use Rattle.graphs.specs.Graph.{Graph, Reached}
use Rattle.graphs.specs.Events.{Event, History, labelled}
use Rattle.graphs.specs.Depth.{DepthFirst, Searches}
use Rattle.graphs.specs.Search.{walk_edges, search, depth_first}
use Rattle.graphs.specs.Image.{Image, edges_of, graph_of}
use Rattle.graphs.specs.Claims.{Ready}
use Rattle.graphs.proofs.Sound.{profile_sound}
use Rattle.graphs.proofs.Depth.{depth-first}
use Rattle.graphs.proofs.Room.{profile-ready}
use Rattle.graphs.specs.Refusals.{after_out, tail_out, list_out, search_number}
use Rattle.folding.specs.Machine.{finished, step_of, fits, enact}
use Rattle.folding.specs.Calls.{Reason, spent, stuck, ran, Reply, run_for, single, roll_back, run, serve, opened_at, opening, open_number, fields_in, run_number, step_number, roll_back_number}
use Rattle.folding.specs.Lines.{Walker, line_a, line_b, calls}
use Rattle.folding.specs.Claims.{Demand1, StepClaim, RunClaim, Demand2, Agreement}
use Rattle.folding.specs.Cards.{lone, loop, near_circle}
use Rattle.folding.specs.Wrong.{EmitsNothing, eager, hasty, jammed, inventor, SameListFor, constant, RefusesCalls, RefusesOpenings, WrongClaim}

abbrev three : List ℕ
three = replicate 3 0

abbrev six : List ℕ
six = replicate 6 0

-- Two elements, no reference.
abbrev pair : Image
pair = record { n = 2; m = 0; after = 0 ∷ 0 ∷ []; tail = [] }

abbrev twelve : List ℕ
twelve = replicate 12 0

-- ---- demand 2
-- Every walker that meets demand 2 ends on these two profiles, with the events of their searches.
module _ (W : Walker) (d : Demand2 W) where
  lone-ends : (line_b W lone [] 1 (0 ∷ []) three (run_for 1 six ∷ [])).config.phase ≡ finished
  unfolding at put edges_of after_out tail_out list_out search_number open_number calls
  lone-ends = (d.ending lone [] 1 (0 ∷ []) three refl [] 1 six (omega arith) (omega arith)).finished_calm refl

  lone-searched : DepthFirst (graph_of lone) [] 1 (reverse (line_b W lone [] 1 (0 ∷ []) three (run_for 1 six ∷ [])).events)
  unfolding at put edges_of after_out tail_out list_out search_number open_number
  lone-searched = (d.labelling lone [] 1 (0 ∷ []) three refl (run_for 1 six ∷ [])).events lone-ends

  pair_ends : (line_b W pair [] 2 (0 ∷ 0 ∷ []) three (run_for 2 twelve ∷ [])).config.phase ≡ finished
  unfolding at put edges_of after_out tail_out list_out search_number open_number calls
  pair_ends = (d.ending pair [] 2 (0 ∷ 0 ∷ []) three refl [] 2 twelve (omega arith) (omega arith)).finished_calm refl

  pair-searched : DepthFirst (graph_of pair) [] 2 (reverse (line_b W pair [] 2 (0 ∷ 0 ∷ []) three (run_for 2 twelve ∷ [])).events)
  unfolding at put edges_of after_out tail_out list_out search_number open_number
  pair-searched = (d.labelling pair [] 2 (0 ∷ 0 ∷ []) three refl (run_for 2 twelve ∷ [])).events pair_ends

-- A search emits a scan at least.
some-event : {G : Graph} {before : List ℕ} {u : ℕ} {h : History} → Searches G before u h [] → ⊥
some-event s = elim s [ ]

silent_fails : (W : Walker) → EmitsNothing W → Demand2 W → ⊥
unfolding calls
silent_fails W E d =
    let none : (line_b W lone [] 1 (0 ∷ []) three (run_for 1 six ∷ [])).events ≡ [] =
    λ i. E.opening_silent lone [] 1 (0 ∷ []) three i ++ E.calls_silent (W.opens lone [] 1 (0 ∷ []) three).config (run_for 1 six) i in
    some-event (subst (λ (es : List Event). DepthFirst (graph_of lone) [] 1 (reverse es)) none (lone-searched W d))

-- The one search of the lone element labels 1, that of two elements from 2 labels 2.
lone-one : (h : History) → DepthFirst (graph_of lone) [] 1 h → sum_of (λ x. x) (labelled h) ≡ 1
unfolding at put edges_of after_out tail_out list_out search_number walk_edges search depth_first
lone-one h s =
    let P = profile_sound lone [] 1 [] refl in
    let R : Ready (graph_of lone) [] 1 = profile-ready lone P.sound [] 1 P.start_vertex P.listed in
    ap (λ (i : History). sum_of (λ x. x) (labelled i)) (((depth-first (graph_of lone) [] 1 R).one h).0 s)

pair-two : (h : History) → DepthFirst (graph_of pair) [] 2 h → sum_of (λ x. x) (labelled h) ≡ 2
unfolding at put edges_of after_out tail_out list_out search_number walk_edges search depth_first
pair-two h s =
    let P = profile_sound pair [] 2 [] refl in
    let R : Ready (graph_of pair) [] 2 = profile-ready pair P.sound [] 2 P.start_vertex P.listed in
    ap (λ (i : History). sum_of (λ x. x) (labelled i)) (((depth-first (graph_of pair) [] 2 R).one h).0 s)

same_list_fails : (es : List Event) (W : Walker) → SameListFor es W → Demand2 W → ⊥
unfolding at put edges_of after_out tail_out list_out search_number open_number
same_list_fails es W S d =
    let a = S lone [] 1 (0 ∷ []) three refl (run_for 1 six ∷ []) (lone-ends W d) in
    let b = S pair [] 2 (0 ∷ 0 ∷ []) three refl (run_for 2 twelve ∷ []) (pair_ends W d) in
    let one = lone-one (reverse es) (subst (λ (x : List Event). DepthFirst (graph_of lone) [] 1 (reverse x)) a (lone-searched W d)) in
    let two = pair-two (reverse es) (subst (λ (x : List Event). DepthFirst (graph_of pair) [] 2 (reverse x)) b (pair-searched W d)) in
    omega (arith, one, two)

constant_fails : Demand2 constant → ⊥
unfolding at put edges_of after_out tail_out list_out search_number open_number calls opening
constant_fails d = let z : ◌≡◌ {A = ℕ} 1 2 = pair-two _ ((d.labelling pair [] 2 (0 ∷ 0 ∷ []) three refl (single six ∷ [])).events refl) in omega arith

-- ---- the moves
eager_fails : StepClaim eager → ⊥
unfolding at put edges_of walk_edges search depth_first step_of fits enact fields_in step_number
eager_fails d = let z : ◌≡◌ {A = ℕ} 3 2 = ap (λ (r : Reply). length r.events) (d.stepped (opened_at loop [] 1 (0 ∷ 0 ∷ [])) six refl) in omega arith

eager_tells : (line_b eager loop [] 1 (replicate 2 9) three (single six ∷ [])).events ≡ line_a loop [] 1
unfolding at put edges_of after_out tail_out list_out search_number open_number walk_edges search depth_first calls opening
eager_tells = refl

eager_tells_off : (line_b eager near_circle (3 ∷ []) 1 (replicate 6 9) three (single six ∷ [])).events ≡ line_a near_circle (3 ∷ []) 1
unfolding at put edges_of after_out tail_out list_out search_number open_number walk_edges search depth_first calls opening
eager_tells_off = refl

-- ---- the run's tests
hasty_fails : RunClaim hasty → ⊥
unfolding at put step_of fits enact run fields_in run_number
hasty_fails d =
    let (why, says-why, t) = d (opened_at loop [] 1 (0 ∷ 0 ∷ [])) 1 six refl in
    let e : ran spent ≡ ran stuck = says-why ∙ ap ran t.reason in
    (let z : ◌≡◌ {A = ℕ} 0 1 = cc in omega arith)

reason-of : {x y : Reason} → ran x ≡ ran y → x ≡ y
reason-of e = cc

jammed_fails : RunClaim jammed → ⊥
unfolding at put step_of fits fields_in run_number
jammed_fails d =
    let (why, says-why, t) = d (opened_at loop [] 1 (0 ∷ 0 ∷ [])) 1 six refl in
    clash (t.jammed (reason-of (sym says-why)))

-- ---- demand 3's total
inventor_fails : Agreement inventor → ⊥
unfolding at put edges_of after_out tail_out list_out search_number open_number walk_edges search depth_first step_of fits enact fields_in step_number run serve calls opening
inventor_fails d =
    let P = profile_sound lone [] 1 [] refl in
    let R : Ready (graph_of lone) [] 1 = profile-ready lone P.sound [] 1 P.start_vertex P.listed in
    let E : Reached (graph_of lone) [] 1 (labelled (depth_first (graph_of lone) [] 1)) = (depth-first (graph_of lone) [] 1 R).complete.labels in
    let z : ◌≡◌ {A = ℕ} 2 1 = ((d lone lone refl [] 1 (0 ∷ []) three refl (1 ∷ []) E (single six ∷ [])).ends refl).0 refl in
    omega arith

-- ---- the table's conditions
refusing_calls_fails : (W : Walker) → RefusesCalls W → Demand1 W → ⊥
unfolding at put fields_in roll_back_number
refusing_calls_fails W r d = let (k, e) = r (opened_at lone [] 1 (0 ∷ [])) roll_back in d.call (opened_at lone [] 1 (0 ∷ [])) roll_back k e

refusing_openings_fails : (W : Walker) → RefusesOpenings W → Demand1 W → ⊥
unfolding at put edges_of after_out tail_out list_out search_number open_number
refusing_openings_fails W r d = let (k, e) = r lone [] 1 (0 ∷ []) three in d.opening lone [] 1 (0 ∷ []) three k e

pub wrong : WrongClaim
wrong = record {
  silent_fails = silent_fails;
  idle_silent = record { opening_silent = λ g before start marks area. refl; calls_silent = λ w c. refl };
  eager_fails = eager_fails;
  eager_tells = eager_tells;
  eager_tells_off = eager_tells_off;
  eager_idles = λ w c d. refl;
  hasty_fails = hasty_fails;
  jammed_fails = jammed_fails;
  inventor_fails = inventor_fails;
  same_list_fails = same_list_fails;
  constant_fails = constant_fails;
  refusing_calls_fails = refusing_calls_fails;
  refusing_openings_fails = refusing_openings_fails;
  refuser_refuses = (λ w c. (9, refl), λ g before start marks area. (9, refl));
}
