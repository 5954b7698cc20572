-- The depth-first searches of two graphs whose edges correspond by a new number for each are the same, up to those numbers; so are those
-- of an image and of its array form.
-- Renaming changes no label, so both searches ask the same of each edge; by recursion on the fuel and, inside, on the edges.
use Rattle.std.proofs.Common.{◌≡◌, refl, sym, ap, ◌∙◌, subst, ◌⊎◌, inl, inr, Bool, true, false, cond, ◌&&◌, List, [], ◌∷◌, ◌++◌, map, reverse, ℕ, zero, suc, max, ◌+◌, ◌≤◌, ◌<◌, arith, eqb, drop, eq-eqb, ne_eqb}
use mathlib.Core.List.{reverse_aux}
use lib.ListN.{length-map}
use Rattle.lists.specs.Members.{Mem, here, there, memb, NoDup, cons_if}
use Rattle.lists.specs.Counts.{bump, rank}
use Rattle.lists.specs.Words.{at, filled}
use Rattle.lists.proofs.Tests.{zero_test, Compared, equal, other, compare}
use Rattle.lists.proofs.Members.{mem-nil, mem-cons, mem-reverse}
use Rattle.lists.proofs.Counts.{rank-none}
use Rattle.lists.proofs.Words.{values_same}
use Rattle.graphs.specs.Nodes.{Vertex}
use Rattle.graphs.specs.Graph.{Graph}
use Rattle.graphs.specs.Events.{Kind, event, label, advance_tree, advance_nontree, retreat_nontree, retreat_tree, scan, traverse, History, ◌▸◌, same, named, known, count, tally, rename, renamed}
use Rattle.graphs.specs.Search.{recorder, cross, walk_edges, search, depth_first}
use Rattle.graphs.specs.Results.{unless_blank, marks_left, last_tree, increment_word, increment_left}
use Rattle.graphs.specs.Image.{Image, graph_of}
use Rattle.graphs.specs.ArrayForm.{ArrayForm, array_graph, array_left, numbers_left}
use Rattle.graphs.specs.Refusals.{Lent, image_number}
use Rattle.graphs.specs.Claims.{SameGraph, SameSearch, RenamedClaim}
use Rattle.graphs.proofs.Sound.{Sound, image-sound}
use Rattle.graphs.proofs.ArraySound.{ArraySound, array-sound}
use Rattle.graphs.proofs.Owned.{array_owned}
use Rattle.graphs.proofs.Arrays.{array_same}

-- ---- what renaming keeps
module _ (f : ℕ → ℕ) where
  pub named-renamed : (k : Kind) (h : History) → named k (renamed f h) ≡ named k h
  named-renamed k [] = refl
  named-renamed k (event j r u ∷ h) = ap (cons_if (same k j) u) (named-renamed k h)

  pub count-renamed : (k : Kind) (h : History) → count k (renamed f h) ≡ count k h
  count-renamed k [] = refl
  count-renamed k (event j r u ∷ h) = ap (bump (same k j)) (count-renamed k h)

  pub marks-renamed : (k : ℕ) (before : List ℕ) (h : History) (area : List ℕ) → marks_left k before (renamed f h) area ≡ marks_left k before h area
  marks-renamed k before h area = ap (λ (l : List ℕ). filled (unless_blank before (λ x. rank x l)) k area) (named-renamed label h)

  pub tally-renamed : (h : History) → tally (renamed f h) ≡ tally h
  tally-renamed h = λ i. count-renamed label h i ∷ count-renamed advance_tree h i ∷ count-renamed advance_nontree h i ∷ count-renamed retreat_nontree h i ∷ count-renamed retreat_tree h i ∷ count-renamed scan h i ∷ count-renamed traverse h i ∷ []

  -- The last tree edge out of an element, renamed.
  last-renamed : (x : ℕ) (h : History) → (last_tree (λ r u. eqb u x) (renamed f h)).0 ≡ rename f (last_tree (λ r u. eqb u x) h).0
  last-renamed x [] = refl
  last-renamed x (event k r u ∷ h) = go (same k advance_tree && eqb u x) (last-renamed x h)
    where
      go : (b : Bool) → (last_tree (λ r u. eqb u x) (renamed f h)).0 ≡ rename f (last_tree (λ r u. eqb u x) h).0 → (cond b (rename f r, u) (last_tree (λ r u. eqb u x) (renamed f h))).0 ≡ rename f (cond b (r, u) (last_tree (λ r u. eqb u x) h)).0
      go true e = refl
      go false e = e

  pub rename-edge : (r : ℕ) → 0 < r → rename f r ≡ f r
  rename-edge r h = ap (λ (b : Bool). cond b 0 (f r)) (zero_test r h)

-- ---- corresponding graphs
-- The lists of G are those of A with f r for each r, and f r leads where r leads.
pub record Renaming (A G : Graph) (f : ℕ → ℕ) : Type 0 where
  pub size : A.size ≡ G.size
  pub lists : (u : ℕ) → Vertex A.size u → map f (A.out u) ≡ G.out u
  pub positive : (u r : ℕ) → Vertex A.size u → Mem r (A.out u) → 0 < r
  pub closed : (u r : ℕ) → Vertex A.size u → Mem r (A.out u) → Vertex A.size (A.to r)
  pub targets : (u r : ℕ) → Vertex A.size u → Mem r (A.out u) → A.to r ≡ G.to (f r)

module _ {A G : Graph} {f : ℕ → ℕ} (N : Renaming A G f) (before : List ℕ) where
  -- Searching any vertex commutes with renaming.
  abbrev Commutes : ℕ → Type 0
  Commutes k = (u : ℕ) (h : History) → Vertex A.size u → renamed f (search (recorder before) A k u h) ≡ search (recorder before) G k u (renamed f h)

  -- One edge, whose target is asked of the same labels.
  module _ (k : ℕ) (s : Commutes k) (u : ℕ) (hu : Vertex A.size u) where
    cross-renamed : (r : ℕ) → Mem r (A.out u) → (b : Bool) (h : History) → renamed f (cross (recorder before) A (search (recorder before) A k) u r b h) ≡ cross (recorder before) G (search (recorder before) G k) u (f r) b (renamed f h)
    cross-renamed r m true h = let e = rename-edge f r (N.positive u r hu m) in λ i. renamed f h ▸ event advance_nontree (e i) u ▸ event retreat_nontree (e i) u
    cross-renamed r m false h =
        let e = rename-edge f r (N.positive u r hu m) in
        let i = s (A.to r) (h ▸ event advance_tree r u) (N.closed u r hu m) in
        let j : search (recorder before) G k (A.to r) (renamed f h ▸ event advance_tree (rename f r) u) ≡ search (recorder before) G k (G.to (f r)) (renamed f h ▸ event advance_tree (f r) u) =
        λ z. search (recorder before) G k (N.targets u r hu m z) (renamed f h ▸ event advance_tree (e z) u) in
        let t = i ∙ j in
        λ z. t z ▸ event retreat_tree (e z) u

    seen-renamed : (r : ℕ) → Mem r (A.out u) → (h : History) → memb (A.to r) (known before h) ≡ memb (G.to (f r)) (known before (renamed f h))
    seen-renamed r m h = let e = sym (named-renamed f label h) in λ i. memb (N.targets u r hu m i) (e i ++ before)

    walk-renamed : (rs : List ℕ) → ((r : ℕ) → Mem r rs → Mem r (A.out u)) → (h : History) → renamed f (walk_edges (recorder before) A (search (recorder before) A k) u rs h) ≡ walk_edges (recorder before) G (search (recorder before) G k) u (map f rs) (renamed f h)
    unfolding walk_edges
    walk-renamed [] sub h = refl
    walk-renamed (r ∷ rs) sub h =
        let m = sub r (here refl) in
        walk-renamed rs (λ x q. sub x (there q)) (cross (recorder before) A (search (recorder before) A k) u r (memb (A.to r) (known before h)) h)
        ∙ ap (walk_edges (recorder before) G (search (recorder before) G k) u (map f rs))
        (cross-renamed r m (memb (A.to r) (known before h)) h
        ∙ ap (λ (b : Bool). cross (recorder before) G (search (recorder before) G k) u (f r) b (renamed f h)) (seen-renamed r m h))

  search-renamed : (k : ℕ) → Commutes k
  unfolding search
  search-renamed zero u h hu = refl
  search-renamed (suc k) u h hu =
      ap (λ (i : History). i ▸ event scan 0 u)
      (walk-renamed k (search-renamed k) u hu (A.out u) (λ r m. m) (h ▸ event label 0 u)
      ∙ ap (λ (rs : List ℕ). walk_edges (recorder before) G (search (recorder before) G k) u rs (renamed f h ▸ event label 0 u)) (N.lists u hu))

  pub depth-renamed : (start : ℕ) → Vertex A.size start → renamed f (depth_first A before start) ≡ depth_first G before start
  unfolding depth_first
  depth-renamed start hs = search-renamed A.size start [] hs ∙ ap (λ (k : ℕ). search (recorder before) G k start []) N.size

-- ---- increments
map-reverse : (f : ℕ → ℕ) (l t : List ℕ) → map f (reverse_aux l t) ≡ reverse_aux (map f l) (map f t)
map-reverse f [] t = refl
map-reverse f (y ∷ l) t = map-reverse f l (y ∷ t)

mem-map : (f : ℕ → ℕ) {x : ℕ} {l : List ℕ} → Mem x l → Mem (f x) (map f l)
mem-map f (here e) = here (ap f e)
mem-map f (there m) = there (mem-map f m)

-- Where nothing stands twice among the new numbers, two members with one new number are one.
one_number : (f : ℕ → ℕ) (l : List ℕ) → NoDup (map f l) → (x y : ℕ) → Mem x l → Mem y l → f x ≡ f y → x ≡ y
one_number f [] h x y p q e = absurd (mem-nil p)
one_number f (z ∷ l) h x y p q e = go (mem-cons p) (mem-cons q) (λ a b. one_number f l h.1 x y a b e)
  where
    go : (x ≡ z) ⊎ Mem x l → (y ≡ z) ⊎ Mem y l → (Mem x l → Mem y l → x ≡ y) → x ≡ y
    go (inl a) (inl b) ih = a ∙ sym b
    go (inl a) (inr b) ih = absurd (h.0 (subst (λ (w : ℕ). Mem w (map f l)) (sym e ∙ ap f a) (mem-map f b)))
    go (inr a) (inl b) ih = absurd (h.0 (subst (λ (w : ℕ). Mem w (map f l)) (e ∙ ap f b) (mem-map f a)))
    go (inr a) (inr b) ih = ih a b

rank-map : (f : ℕ → ℕ) (x : ℕ) (l : List ℕ) → ((y : ℕ) → Mem y l → f x ≡ f y → x ≡ y) → rank (f x) (map f l) ≡ rank x l
rank-map f x [] h = refl
rank-map f x (y ∷ l) h = go (compare x y) (rank-map f x l (λ z m. h z (there m)))
  where
    go : Compared x y → rank (f x) (map f l) ≡ rank x l → rank (f x) (map f (y ∷ l)) ≡ rank x (y ∷ l)
    go (equal e t) ih = rw (t, eq-eqb (f x) (f y) (ap f e)) (ap suc (length-map l f))
    go (other ne t) ih = rw (t, ne_eqb (f x) (f y) (λ e. ne (h y (here refl) e))) ih

-- The last tree edge out of an element stands on its list.
abbrev Listed : Graph → History → Type 0
Listed G h = (x : ℕ) → ((last_tree (λ r u. eqb u x) h).0 ≡ 0) ⊎ Mem (last_tree (λ r u. eqb u x) h).0 (G.out x)

module _ (G : Graph) (before : List ℕ) where
  advance-listed : (u r : ℕ) (h : History) → Mem r (G.out u) → Listed G h → Listed G (h ▸ event advance_tree r u)
  advance-listed u r h m L x = go (compare u x)
    where
      go : Compared u x → ((cond (eqb u x) (r, u) (last_tree (λ r u. eqb u x) h)).0 ≡ 0) ⊎ Mem (cond (eqb u x) (r, u) (last_tree (λ r u. eqb u x) h)).0 (G.out x)
      go (equal e t) = rw t (inr (subst (λ (y : ℕ). Mem r (G.out y)) e m))
      go (other ne t) = rw t (L x)

  abbrev Lists : (ℕ → History → History) → Type 0
  Lists rec = (u : ℕ) (h : History) → Listed G h → Listed G (rec u h)

  walk-listed : (rec : ℕ → History → History) → Lists rec → (u : ℕ) (rs : List ℕ) → ((r : ℕ) → Mem r rs → Mem r (G.out u)) → (h : History) → Listed G h → Listed G (walk_edges (recorder before) G rec u rs h)
  unfolding walk_edges
  walk-listed rec a u [] sub h L = L
  walk-listed rec a u (r ∷ rs) sub h L = walk-listed rec a u rs (λ x m. sub x (there m)) (crossed (memb (G.to r) (known before h))) (one (memb (G.to r) (known before h)))
    where
      crossed : Bool → History
      crossed b = cross (recorder before) G rec u r b h

      one : (b : Bool) → Listed G (crossed b)
      one true = L
      one false = a (G.to r) (h ▸ event advance_tree r u) (advance-listed u r h (sub r (here refl)) L)

  search-listed : (k : ℕ) → Lists (search (recorder before) G k)
  unfolding search
  search-listed zero u h L = L
  search-listed (suc k) u h L = walk-listed (search (recorder before) G k) (search-listed k) u (G.out u) (λ r m. m) (h ▸ event label 0 u) L

  pub depth-listed : (start : ℕ) → Listed G (depth_first G before start)
  unfolding depth_first
  depth-listed start = search-listed G.size start [] (λ x. inl refl)

module _ {A G : Graph} {f : ℕ → ℕ} (N : Renaming A G f) where
  -- The place of an edge of x in its list is that of its new number.
  place-renamed : (x : ℕ) → Vertex A.size x → NoDup (G.out x) → (Mem 0 (G.out x) → ⊥) → (r : ℕ) → (r ≡ 0) ⊎ Mem r (A.out x) → rank (rename f r) (reverse (G.out x)) ≡ rank r (reverse (A.out x))
  place-renamed x hx once none r (inl e) =
      ap (λ (y : ℕ). rank (rename f y) (reverse (G.out x))) e
      ∙ rank-none 0 (reverse (G.out x)) (λ m. none ((mem-reverse (G.out x) 0).0 m))
      ∙ sym (rank-none 0 (reverse (A.out x)) (λ m. (let p = N.positive x 0 hx ((mem-reverse (A.out x) 0).0 m) in omega arith)))
      ∙ ap (λ (y : ℕ). rank y (reverse (A.out x))) (sym e)
  place-renamed x hx once none r (inr m) =
      ap (λ (y : ℕ). rank y (reverse (G.out x))) (rename-edge f r (N.positive x r hx m))
      ∙ ap (λ (l : List ℕ). rank (f r) l) (ap reverse (sym (N.lists x hx)) ∙ sym (map-reverse f (A.out x) []))
      ∙ rank-map f r (reverse (A.out x)) (λ y q e. one_number f (A.out x) (subst NoDup (sym (N.lists x hx)) once) r y m ((mem-reverse (A.out x) y).0 q) e)

  pub increment-renamed : (x : ℕ) → Vertex A.size x → NoDup (G.out x) → (Mem 0 (G.out x) → ⊥) → (h : History) → Listed A h → increment_word A h x ≡ increment_word G (renamed f h) x
  increment-renamed x hx once none h L =
      let e : rank (last_tree (λ r u. eqb u x) (renamed f h)).0 (reverse (G.out x)) ≡ rank (last_tree (λ r u. eqb u x) h).0 (reverse (A.out x)) =
      ap (λ (y : ℕ). rank y (reverse (G.out x))) (last-renamed f x h) ∙ place-renamed x hx once none (last_tree (λ r u. eqb u x) h).0 (L x) in
      λ i. cond (memb x (sym (named-renamed f label h) i)) (max 1 (sym e i)) 0

-- ---- an image and its array form
module _ (g : Image) (S : Sound g) (a : ArrayForm) (numbers before : List ℕ) (start : ℕ) (same_graph : SameGraph g a numbers) (hs : Vertex g.n start) where
  abbrev f : ℕ → ℕ
  f = at g.n numbers

  abbrev A : Graph
  A = array_graph a

  sound : ArraySound a
  sound = (array-sound a start [] (same_graph.taken start hs)).sound

  vertex-in : (u : ℕ) → Vertex a.n u → Vertex g.n u
  vertex-in u hu = let e = same_graph.same_n in (hu.0, omega arith)

  renaming : Renaming A (graph_of g) f
  renaming =
      let O = array_owned a sound in
      let n = same_graph.same_n in
      let m = same_graph.same_m in
      record {
        size = same_graph.same_n;
        lists = λ u hu. same_graph.lists u (vertex-in u hu);
        positive = λ u r hu q. (let e = O.edge u r hu q in omega arith);
        closed = O.target;
        targets = λ u r hu q. same_graph.targets r (let e = O.edge u r hu q in (omega arith, omega arith));
      }

  same-events : renamed f (depth_first A before start) ≡ depth_first (graph_of g) before start
  same-events = depth-renamed renaming before start (let e = same_graph.same_n in (hs.0, omega arith))

  same-increments : (area : List ℕ) → increment_left A (depth_first A before start) area ≡ increment_left (graph_of g) (depth_first (graph_of g) before start) area
  same-increments area =
      ap (λ (l : List ℕ). l ++ drop a.n area) (values_same (increment_word A (depth_first A before start)) (increment_word (graph_of g) (renamed f (depth_first A before start))) 0 a.n word)
      ∙ (λ i. filled (increment_word (graph_of g) (same-events i)) (same_graph.same_n i) area)
    where
      word : (x : ℕ) → 0 < x → x ≤ 0 + a.n → increment_word A (depth_first A before start) x ≡ increment_word (graph_of g) (renamed f (depth_first A before start)) x
      word x p q =
          let hx : Vertex g.n x = vertex-in x (p, omega arith) in
          increment-renamed renaming x (p, omega arith) (S.once x hx) (λ m. (let e = S.edge x 0 hx m in omega arith)) (depth_first A before start) (depth-listed A before start)

pub same-search : RenamedClaim
same-search g areas a numbers before start h same_graph hs =
    let S = (image-sound g areas h).0 in
    let e = same-events g S a numbers before start same_graph hs in
    record {
      events = e;
      marks = λ k area. sym (marks-renamed (at g.n numbers) k before (depth_first (array_graph a) before start) area) ∙ ap (λ (i : History). marks_left k before i area) e;
      tallies = sym (tally-renamed (at g.n numbers) (depth_first (array_graph a) before start)) ∙ ap tally e;
      increments = same-increments g S a numbers before start same_graph hs;
    }

-- So it is with what a conversion leaves in any areas.
pub converted-search : (g : Image) (areas : List Lent) (firsts tails numbers before : List ℕ) (start : ℕ) → image_number g areas ≡ 0 → Vertex g.n start → SameSearch g (array_left g firsts tails) (numbers_left g numbers) before start
converted-search g areas firsts tails numbers before start h hs = same-search g areas (array_left g firsts tails) (numbers_left g numbers) before start h (array_same g areas firsts tails numbers h) hs
