-- One lent area more: where it is long it adds nothing to a call's number, where it is short the number is 1, 2 or 3.
-- Only the third condition tests the areas, and a short one makes it true.
use Rattle.std.proofs.Common.{◌≡◌, refl, sym, ap, ◌∙◌, ◌≢◌, Bool, true, false, not, ◌||◌, List, [], ◌∷◌, ◌++◌, ℕ, ◌+◌, ◌≤◌, ◌<◌, arith, ltb, length, lt-ltb, le-ltb}
use borrow.Author.Tests.{eqb-false}
use Rattle.lists.proofs.Tests.{or-true}
use Rattle.graphs.specs.Image.{Image}
use Rattle.graphs.specs.ArrayForm.{ArrayForm}
use Rattle.graphs.specs.Refusals.{refuse, first_of, vertices_out, edges_out, Lent, lent, short, search_number, array_search_number}
use Rattle.arrays.specs.Arrays.{array_in}
use Rattle.walks.specs.Promises.{written_areas, walk_number, array_walk_number}
use Rattle.tally_words.specs.Tallied.{array_tallied_number}

-- ---- the areas
module _ (k : ℕ) (area : List ℕ) where
  last-long : k ≤ length area → (areas : List Lent) → short (areas ++ (lent k area ∷ [])) ≡ short areas
  last-long h [] = rw (le-ltb (length area) k h)
  last-long h (lent j a ∷ areas) = ap (λ (b : Bool). ltb (length a) j || b) (last-long h areas)

  last-short : length area < k → (areas : List Lent) → short (areas ++ (lent k area ∷ [])) ≡ true
  last-short h [] = rw (lt-ltb (length area) k h)
  last-short h (lent j a ∷ areas) = ap (λ (b : Bool). ltb (length a) j || b) (last-short h areas) ∙ or-true (ltb (length a) j)

  -- As a caller says that an area is short.
  pub says-short : length area < k → (areas : List Lent) → false ≡ not (short (areas ++ (lent k area ∷ [])))
  says-short h areas = sym (ap not (last-short h areas))

-- The number of a call by its sizes, with a short area.
abbrev short_number : ℕ → ℕ → ℕ
short_number n m = first_of (refuse 1 (vertices_out n) ∷ refuse 2 (edges_out m) ∷ refuse 3 true ∷ [])

-- It is never 0.
short-refused : (n m : ℕ) → short_number n m ≢ 0
short-refused n m = go (vertices_out n) (edges_out m)
  where
    go : (a b : Bool) → first_of (refuse 1 a ∷ refuse 2 b ∷ refuse 3 true ∷ []) ≢ 0
    go true b = eqb-false 1 0 refl
    go false true = eqb-false 2 0 refl
    go false false = eqb-false 3 0 refl

-- ---- a search of a linked image
module _ (g : Image) (before : List ℕ) (start : ℕ) (areas : List Lent) (k : ℕ) (area : List ℕ) where
  pub search-long : k ≤ length area → search_number g before start areas ≡ search_number g before start (areas ++ (lent k area ∷ []))
  unfolding search_number
  search-long h = rw (last-long k area h areas)

  short-is : length area < k → search_number g before start (areas ++ (lent k area ∷ [])) ≡ short_number g.n g.m
  unfolding search_number
  short-is h = simp (last-short k area h areas, or-true)

  pub search-short : length area < k → search_number g before start (areas ++ (lent k area ∷ [])) ≢ 0
  search-short h z = short-refused g.n g.m (sym (short-is h) ∙ z)

-- A walk, which is lent seven words for its tally behind the areas of its own.
module _ (g : Image) (before : List ℕ) (start : ℕ) (marks events : List ℕ) (own : List Lent) (counts : List ℕ) where
  pub walk-long : 7 ≤ length counts → walk_number g before start marks events own ≡ walk_number g before start marks events (own ++ (lent 7 counts ∷ []))
  walk-long h = search-long g before start (written_areas (g.n + g.m) marks events ++ own) 7 counts h

  -- k is the number that the call gets for short areas.
  pub walk-short : {k : ℕ} → ((areas : List Lent) → false ≡ not (short areas) → k ≡ walk_number g before start marks events areas) → length counts < 7 → (k ≡ walk_number g before start marks events (own ++ (lent 7 counts ∷ []))) × (k ≢ 0)
  walk-short e h =
      let is = e (own ++ (lent 7 counts ∷ [])) (says-short 7 counts h own) in
      (is, λ z. search-short g before start (written_areas (g.n + g.m) marks events ++ own) 7 counts h (sym is ∙ z))

-- ---- a walk of an array form
module _ (a : ArrayForm) (before : List ℕ) (start : ℕ) (marks increments events counts : List ℕ) where
  pub array_long : 7 ≤ length counts → array_walk_number a before start marks increments events ≡ array_tallied_number a before start marks increments events counts
  unfolding array_search_number
  array_long h = rw (le-ltb (length counts) 7 h)

  array-short-is : length counts < 7 → array_tallied_number a before start marks increments events counts ≡ short_number a.n a.m
  unfolding array_search_number
  array-short-is h = simp (lt-ltb (length counts) 7 h, or-true)

  no-firsts : array_walk_number (array_in a.n a.m [] a.tails) before start marks increments events ≡ short_number a.n a.m
  unfolding array_search_number
  no-firsts = rw (lt-ltb 0 (a.n + 1) (omega arith))

  -- k is the number that the call gets for no first positions.
  pub array-short : {k : ℕ} → k ≡ array_walk_number (array_in a.n a.m [] a.tails) before start marks increments events → length counts < 7 → (k ≡ array_tallied_number a before start marks increments events counts) × (k ≢ 0)
  array-short e h = (e ∙ no-firsts ∙ sym (array-short-is h), λ z. short-refused a.n a.m (sym (e ∙ no-firsts) ∙ z))
