-- What the conditions of an array form come to, as other proofs use it, and that the tests give it.
-- First positions that never fall from each vertex to the next never fall at all, and lie between the first and the last.
use Rattle.std.proofs.Common.{◌≡◌, ap, subst, true, false, ◌&&◌, List, [], ◌∷◌, ◌++◌, ℕ, zero, suc, ◌+◌, ◌-◌, ◌≤◌, ◌<◌, arith, length, eqb, ltb, leb, eqb-true, leb-true, ltb-false}
use borrow.Author.Tests.{not-false}
use Rattle.lists.specs.Counts.{all_to}
use Rattle.lists.specs.Words.{at}
use Rattle.lists.proofs.Tests.{both, neither}
use Rattle.lists.proofs.Counts.{all-at}
use Rattle.graphs.specs.Nodes.{Vertex, Edge, is_vertex}
use Rattle.graphs.specs.ArrayForm.{ArrayForm, is_ordered, array_graph}
use Rattle.graphs.specs.Refusals.{Refusal, refuse, first_of, Lent, lent, short, vertex_out, first_out, tail_out, size_refusals, array_areas, blank_refusals, array_number, array_search_number}
use Rattle.graphs.proofs.Nodes.{vertex-is}
use Rattle.graphs.proofs.Refusals.{AllFalse, all-false, none_first, long}
use Rattle.graphs.proofs.Blanks.{Listed, listed_of}
use Rattle.graphs.proofs.Sound.{same_place}

pub record ArraySound (a : ArrayForm) : Type 0 where
  pub few_vertices : a.n ≤ 1000
  pub few_edges : a.m ≤ 4000
  pub long_firsts : a.n + 1 ≤ length a.firsts
  pub long_tails : a.m ≤ length a.tails
  pub from_one : (u : ℕ) → 0 < u → u ≤ suc a.n → (1 ≤ at 0 a.firsts u) × (at 0 a.firsts u ≤ suc a.m)
  pub rising : (u v : ℕ) → 0 < u → u ≤ v → v ≤ suc a.n → at 0 a.firsts u ≤ at 0 a.firsts v
  pub target : (r : ℕ) → Edge a.n a.m r → Vertex a.n ((array_graph a).to r)

-- A search of an array form that is not refused: a sound array form, a start in it, areas long enough.
pub record ArrayProfile (a : ArrayForm) (start : ℕ) (areas : List Lent) : Type 0 where
  pub sound : ArraySound a
  pub start_vertex : Vertex a.n start
  pub areas-long : short areas ≡ false

-- What never falls in one step never falls.
rises : (f : ℕ → ℕ) (n : ℕ) → ((u : ℕ) → 0 < u → u ≤ n → f u ≤ f (suc u)) → (k u : ℕ) → 0 < u → u + k ≤ suc n → f u ≤ f (u + k)
rises f n h zero u p q = let e : u ≡ u + zero = omega arith in omega (arith, ap f e)
rises f n h (suc k) u p q = let e : suc (u + k) ≡ u + suc k = omega arith in omega (arith, rises f n h k u p (omega arith), h (u + k) (omega arith) (omega arith), ap f e)

module _ (a : ArrayForm) where
  -- The word of a vertex in the area of first positions.
  abbrev first : ℕ → ℕ
  first u = at 0 a.firsts u

  record Ordered : Type 0 where
    lowest : first 1 ≡ 1
    highest : first (suc a.n) ≡ suc a.m
    step : (u : ℕ) → 0 < u → u ≤ a.n → first u ≤ first (suc u)

  ordered : is_ordered a ≡ true → Ordered
  ordered h =
      let x = both (eqb (first 1) 1) (eqb (first (suc a.n)) (suc a.m) && all_to (λ u. leb (first u) (first (suc u))) a.n) h in
      let y = both (eqb (first (suc a.n)) (suc a.m)) (all_to (λ u. leb (first u) (first (suc u))) a.n) x.1 in
      record {
        lowest = eqb-true (first 1) 1 x.0;
        highest = eqb-true (first (suc a.n)) (suc a.m) y.0;
        step = λ u p q. leb-true (first u) (first (suc u)) (all-at (λ v. leb (first v) (first (suc v))) a.n y.1 u p q);
      }

  never-falls : Ordered → (u v : ℕ) → 0 < u → u ≤ v → v ≤ suc a.n → first u ≤ first v
  never-falls O u v p q w = let e : u + (v - u) ≡ v = omega arith in omega (arith, rises first a.n O.step (v - u) u p (omega arith), ap first e)

  -- Where 6 is false, every tail is a vertex.
  tails-in : tail_out a.n a.m a.tails ≡ false → (r : ℕ) → Edge a.n a.m r → Vertex a.n ((array_graph a).to r)
  unfolding tail_out
  tails-in h r e =
      vertex-is a.n ((array_graph a).to r)
      (subst (λ (x : ℕ). is_vertex a.n x ≡ true) (same_place a.n r a.tails e.0) (all-at (λ k. is_vertex a.n (at 0 a.tails k)) a.m (not-false _ h) (r - a.n) (let z = e in omega arith) (let z = e in omega arith)))

pub array-sound : (a : ArrayForm) (start : ℕ) (areas : List Lent) → array_number a start areas ≡ 0 → ArrayProfile a start areas
unfolding array_number
array-sound a start areas h =
    record {
      sound = record {
        few_vertices = ltb-false 1000 a.n (neither (eqb a.n 0) (ltb 1000 a.n) sizes.0.0).1;
        few_edges = ltb-false 4000 a.m sizes.0.1.0;
        long_firsts = firsts.0;
        long_tails = tails.0;
        from_one = λ u p q. (omega (arith, order.lowest, never-falls a order 1 u (omega arith) (omega arith) q), omega (arith, order.highest, never-falls a order u (suc a.n) p q (omega arith)));
        rising = never-falls a order;
        target = tails-in a tests.1.1.0;
      };
      start_vertex = vertex-is a.n start (not-false _ tests.0);
      areas-long = tails.1;
    }
  where
    own : List Refusal
    own = refuse 4 (vertex_out a.n start) ∷ refuse 5 (first_out a) ∷ refuse 6 (tail_out a.n a.m a.tails) ∷ []

    sizes : AllFalse (size_refusals a.n a.m (array_areas a ++ areas)) × (first_of own ≡ 0)
    sizes = all-false (size_refusals a.n a.m (array_areas a ++ areas)) own (omega arith) h

    tests : AllFalse own
    tests = (all-false own [] (omega arith) sizes.1).0

    firsts : (a.n + 1 ≤ length a.firsts) × (short (lent a.m a.tails ∷ areas) ≡ false)
    firsts = long (a.n + 1) a.firsts (lent a.m a.tails ∷ areas) sizes.0.1.1.0

    tails : (a.m ≤ length a.tails) × (short areas ≡ false)
    tails = long a.m a.tails areas firsts.1

    order : Ordered a
    order = ordered a (not-false _ tests.1.0)

-- A profile in array form that a search does not refuse.
pub record ArraySearched (a : ArrayForm) (before : List ℕ) (start : ℕ) (areas : List Lent) : Type 0 where
  pub sound : ArraySound a
  pub start_vertex : Vertex a.n start
  pub listed : Listed a.n before start
  pub areas-long : short areas ≡ false

-- A search not refused is a query not refused, with a list in order.
pub array-search-sound : (a : ArrayForm) (before : List ℕ) (start : ℕ) (areas : List Lent) → array_search_number a before start areas ≡ 0 → ArraySearched a before start areas
unfolding array_number array_search_number
array-search-sound a before start areas h =
    let asked = size_refusals a.n a.m (array_areas a ++ areas) ++ refuse 4 (vertex_out a.n start) ∷ refuse 5 (first_out a) ∷ refuse 6 (tail_out a.n a.m a.tails) ∷ [] in
    let z = all-false asked (blank_refusals a.n before start) (omega arith) h in
    let x = (all-false (blank_refusals a.n before start) [] (omega arith) z.1).0 in
    let P = array-sound a start areas (none_first asked z.0) in
    record { sound = P.sound; start_vertex = P.start_vertex; listed = listed_of a.n before start x.0 x.1.0; areas-long = P.areas-long }
