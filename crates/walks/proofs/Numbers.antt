-- The number of a walk, once the areas that it is lent are long enough and the start is a vertex: that of the checker, else of the list.
-- The conditions left are the same, in the same order.
use Rattle.std.proofs.Common.{◌≡◌, refl, sym, ap, ◌∙◌, Bool, true, false, not, ◌&&◌, ◌||◌, ◌≢◌, List, [], ◌∷◌, ◌++◌, ℕ, ◌+◌, arith, eqb, ltb, leb, length, le-leb, ltb-true, ltb-false}
use borrow.Author.Tests.{lt-leb, not-true, not-false}
use Rattle.lists.proofs.Tests.{clash}
use Rattle.graphs.specs.Nodes.{is_vertex}
use Rattle.graphs.specs.Image.{Image}
use Rattle.graphs.specs.ArrayForm.{ArrayForm}
use Rattle.graphs.specs.Refusals.{Refusal, refuse, first_of, Lent, lent, short, sizes_out, vertex_out, first_out, tail_out, size_refusals, image_areas, image_refusals, blank_refusals, image_number, search_number, array_areas, array_refusals, array_number, array_search_number}
use Rattle.graphs.proofs.Refusals.{first-front, first_rest, first-true, first-false, sizes-numbered}
use Rattle.walks.specs.Promises.{written_areas, array_walk_number}

-- The conditions of the checker alone, and of a query.
abbrev image_checks : Image → List Refusal
image_checks g = size_refusals g.n g.m (image_areas g ++ []) ++ image_refusals g

abbrev array_checks : ArrayForm → ℕ → List Refusal
array_checks a start = size_refusals a.n a.m (array_areas a ++ []) ++ refuse 4 (vertex_out a.n start) ∷ refuse 5 (first_out a) ∷ refuse 6 (tail_out a.n a.m a.tails) ∷ []

-- What the sizes say: one of their conditions is true, and gives the number; or none is.
module _ (n m : ℕ) {k : ℕ} (e : k ≡ first_of (sizes_out n m)) where
  sizes-refuse : (others : List Refusal) → k ≢ 0 → k ≡ first_of (sizes_out n m ++ others)
  sizes-refuse others ne = e ∙ sym (first-front (sizes_out n m) others (λ z. ne (e ∙ z)))

  pub record InSizes : Type 0 where
    pub some-vertices : eqb n 0 ≡ false
    pub few_vertices : ltb 1000 n ≡ false
    pub few_edges : ltb 4000 m ≡ false

  pub in-sizes : k ≡ 0 → InSizes
  in-sizes z = go (eqb n 0) (ltb 1000 n) (ltb 4000 m) refl refl refl (sym e ∙ z)
    where
      go : (a b c : Bool) → eqb n 0 ≡ a → ltb 1000 n ≡ b → ltb 4000 m ≡ c → first_of (refuse 1 (a || b) ∷ refuse 2 c ∷ []) ≡ 0 → InSizes
      go true b c p q r h = absurd (let w : ◌≡◌ {A = ℕ} 1 0 = h in omega arith)
      go false true c p q r h = absurd (let w : ◌≡◌ {A = ℕ} 1 0 = h in omega arith)
      go false false true p q r h = absurd (let w : ◌≡◌ {A = ℕ} 2 0 = h in omega arith)
      go false false false p q r h = record { some-vertices = p; few_vertices = q; few_edges = r }

-- What a caller says of the areas of its own.
module _ (own : List Lent) {long : Bool} (e : long ≡ not (short own)) where
  pub own-short : not long ≡ true → short own ≡ true
  own-short h = not-false (short own) (sym e ∙ not-true long h)

  pub own-long : not long ≡ false → short own ≡ false
  own-long h = not-true (short own) (sym e ∙ not-false long h)

-- One area more, as the code tests it.
pub more-lent : (k : ℕ) (area : List ℕ) (others : List Lent) (b : Bool) → b ≡ not (short others) → (leb k (length area) && b) ≡ not (short (lent k area ∷ others))
more-lent k area others b e = go (ltb (length area) k) refl
  where
    go : (c : Bool) → ltb (length area) k ≡ c → (leb k (length area) && b) ≡ not (c || short others)
    go true q = ap (λ (x : Bool). x && b) (lt-leb k (length area) (ltb-true (length area) k q))
    go false q = ap (λ (x : Bool). x && b) (le-leb k (length area) (ltb-false (length area) k q)) ∙ e

-- An area alone.
pub own-test : (k : ℕ) (area : List ℕ) → leb k (length area) ≡ not (short (lent k area ∷ []))
own-test k area = sym (and_last (leb k (length area))) ∙ more-lent k area [] true refl
  where
    and_last : (b : Bool) → (b && true) ≡ b
    and_last true = refl
    and_last false = refl

-- The number by the sizes.
pub search-sized : (g : Image) (before : List ℕ) (start : ℕ) (areas : List Lent) {k : ℕ} → k ≡ first_of (sizes_out g.n g.m) → k ≢ 0 → k ≡ search_number g before start areas
unfolding search_number
search-sized g before start areas e ne =
    sizes-refuse g.n g.m e (refuse 3 (short (image_areas g ++ areas)) ∷ refuse 4 (vertex_out g.n start) ∷ (image_refusals g ++ blank_refusals g.n before start)) ne

pub array-sized : (a : ArrayForm) (before : List ℕ) (start : ℕ) (areas : List Lent) {k : ℕ} → k ≡ first_of (sizes_out a.n a.m) → k ≢ 0 → k ≡ array_search_number a before start areas
unfolding array_search_number
array-sized a before start areas e ne =
    sizes-refuse a.n a.m e (refuse 3 (short (array_areas a ++ areas)) ∷ refuse 4 (vertex_out a.n start) ∷ (array_refusals a ++ blank_refusals a.n before start)) ne

-- Areas of an image, and after them those of the search's own.
module _ (areas : List Lent) where
  areas-short : (ks : List Lent) → short ks ≡ true → short (ks ++ areas) ≡ true
  areas-short [] h = clash (sym h)
  areas-short (lent k a ∷ ks) h = go (ltb (length a) k) (areas-short ks) h
    where
      go : (b : Bool) → (short ks ≡ true → short (ks ++ areas) ≡ true) → (b || short ks) ≡ true → (b || short (ks ++ areas)) ≡ true
      go true ih q = refl
      go false ih q = ih q

  areas-long : (ks : List Lent) → short ks ≡ false → short areas ≡ short (ks ++ areas)
  areas-long [] h = refl
  areas-long (lent k a ∷ ks) h = go (ltb (length a) k) (areas-long ks) h
    where
      go : (b : Bool) → (short ks ≡ false → short areas ≡ short (ks ++ areas)) → (b || short ks) ≡ false → short areas ≡ (b || short (ks ++ areas))
      go true ih q = clash q
      go false ih q = ih q

-- Past the sizes: an area of the image, one of the search's own, or the start gives the number.
module _ (g : Image) (before : List ℕ) (start : ℕ) (areas : List Lent) (sized : 0 ≡ first_of (sizes_out g.n g.m)) where
  abbrev words : List Refusal
  words = image_refusals g ++ blank_refusals g.n before start

  abbrev rest : List Refusal
  rest = refuse 4 (vertex_out g.n start) ∷ words

  past-sizes : first_of (refuse 3 (short (image_areas g ++ areas)) ∷ rest) ≡ search_number g before start areas
  unfolding search_number
  past-sizes = sym (first_rest (sizes_out g.n g.m) (refuse 3 (short (image_areas g ++ areas)) ∷ rest) (sizes-numbered g.n g.m) (sym sized))

  pub search-short : short (image_areas g) ≡ true → 3 ≡ search_number g before start areas
  search-short h = first-true rest (areas-short areas (image_areas g) h) ∙ past-sizes

  module _ (long : short (image_areas g) ≡ false) where
    pub search-own : short areas ≡ true → 3 ≡ search_number g before start areas
    search-own h = first-true rest (sym (areas-long areas (image_areas g) long) ∙ h) ∙ past-sizes

    pub search-start : short areas ≡ false → vertex_out g.n start ≡ true → 4 ≡ search_number g before start areas
    search-start h v = first-true words v ∙ first-false 3 rest (sym (areas-long areas (image_areas g) long) ∙ h) ∙ past-sizes

-- The checker's number, and past it that of the list.
module _ (g : Image) (before : List ℕ) (start : ℕ) (areas : List Lent) (c : short areas ≡ false) (d : is_vertex g.n start ≡ true) where
  checked : search_number g before start areas ≡ first_of (image_checks g ++ blank_refusals g.n before start)
  unfolding search_number
  checked = rw (c, d)

  pub search-first : {k : ℕ} → k ≡ image_number g [] → k ≢ 0 → k ≡ search_number g before start areas
  unfolding image_number
  search-first e ne = e ∙ sym (checked ∙ first-front (image_checks g) (blank_refusals g.n before start) (λ z. ne (e ∙ z)))

  pub search-list : {k : ℕ} → k ≡ image_number g [] → k ≡ 0 → first_of (blank_refusals g.n before start) ≡ search_number g before start areas
  unfolding image_number
  search-list e z = sym (checked ∙ first_rest (image_checks g) (blank_refusals g.n before start) (omega arith) (sym e ∙ z))

-- Past the sizes: an area of the array form, or one of the walk's own, gives the number.
module _ (a : ArrayForm) (before : List ℕ) (start : ℕ) (areas : List Lent) (sized : 0 ≡ first_of (sizes_out a.n a.m)) where
  abbrev array-rest : List Refusal
  array-rest = refuse 4 (vertex_out a.n start) ∷ (array_refusals a ++ blank_refusals a.n before start)

  past-array-sizes : first_of (refuse 3 (short (array_areas a ++ areas)) ∷ array-rest) ≡ array_search_number a before start areas
  unfolding array_search_number
  past-array-sizes = sym (first_rest (sizes_out a.n a.m) (refuse 3 (short (array_areas a ++ areas)) ∷ array-rest) (sizes-numbered a.n a.m) (sym sized))

  pub array-short : short (array_areas a) ≡ true → 3 ≡ array_search_number a before start areas
  array-short h = first-true array-rest (areas-short areas (array_areas a) h) ∙ past-array-sizes

  pub array-own : short (array_areas a) ≡ false → short areas ≡ true → 3 ≡ array_search_number a before start areas
  array-own long h = first-true array-rest (sym (areas-long areas (array_areas a) long) ∙ h) ∙ past-array-sizes

-- The number of a query for the start, and past it that of the list.
module _ (a : ArrayForm) (before : List ℕ) (start : ℕ) (marks increments events : List ℕ) (c : short (written_areas (a.n + a.m) marks events ++ lent a.n increments ∷ []) ≡ false) where
  queried : array_walk_number a before start marks increments events ≡ first_of (array_checks a start ++ blank_refusals a.n before start)
  unfolding array_search_number
  queried = rw c

  pub array-first : {k : ℕ} → k ≡ array_number a start [] → k ≢ 0 → k ≡ array_walk_number a before start marks increments events
  unfolding array_number
  array-first e ne = e ∙ sym (queried ∙ first-front (array_checks a start) (blank_refusals a.n before start) (λ z. ne (e ∙ z)))

  pub array-list : {k : ℕ} → k ≡ array_number a start [] → k ≡ 0 → first_of (blank_refusals a.n before start) ≡ array_walk_number a before start marks increments events
  unfolding array_number
  array-list e z = sym (queried ∙ first_rest (array_checks a start) (blank_refusals a.n before start) (omega arith) (sym e ∙ z))
