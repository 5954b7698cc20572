-- What the conditions of a sound image come to, as other proofs use it, and that the tests give it.
-- Lists whose references are counted once each in all lists are chains that end, share nothing, and have an owner each.
use Rattle.std.proofs.Common.{◌≡◌, refl, sym, ap, ◌∙◌, subst, ◌⊎◌, inl, inr, Bool, true, false, cond, List, [], ◌∷◌, ◌++◌, ℕ, zero, suc, ◌+◌, ◌-◌, ◌≤◌, ◌<◌, arith, length, get_or, eqb, ltb, leb, ltb-false, le-leb}
use mathlib.Core.List.{reverse_aux}
use borrow.Author.Tests.{lt-leb, not-false}
use Rattle.lists.specs.Members.{Mem, here, there, NoDup, memb}
use Rattle.lists.specs.Counts.{count_in}
use Rattle.lists.specs.Words.{at}
use Rattle.lists.proofs.Tests.{neither, Compared, equal, other, compare}
use Rattle.lists.proofs.Members.{mem-nil, each-cons, mem-append, memb-true, memb-false, pigeonhole}
use Rattle.lists.proofs.Counts.{count-append, count-mem, mem-count, count-once, all-at, all-counted}
use Rattle.graphs.specs.Nodes.{Vertex, Edge, is_vertex, is_link}
use Rattle.graphs.specs.Graph.{Closed}
use Rattle.graphs.specs.Image.{Image, chain, looked_for, edges_of, to, graph_of, lists_to}
use Rattle.graphs.specs.Refusals.{Refusal, refuse, first_of, Lent, lent, short, vertices_out, edges_out, vertex_out, after_out, tail_out, list_out, size_refusals, image_areas, image_refusals, blank_refusals, image_number, search_number}
use Rattle.graphs.proofs.Nodes.{vertex-is, link-not-null}
use Rattle.graphs.proofs.Refusals.{AllFalse, all-false, none_first, long}
use Rattle.graphs.proofs.Blanks.{Listed, listed_of}

abbrev pub head0 : List ℕ → ℕ
head0 [] = 0
head0 (x ∷ l) = x

-- Each reference's after word is the next of the list, 0 at its end.
abbrev pub Linked : List ℕ → List ℕ → Type 0
Linked after [] = Unit {0}
Linked after (r ∷ rs) = (at 0 after r ≡ head0 rs) × Linked after rs

-- What is ahead on a linked list is linked.
pub linked-rest : (after done rest : List ℕ) → Linked after (reverse_aux done rest) → Linked after rest
linked-rest after [] rest h = h
linked-rest after (d ∷ ds) rest h = (linked-rest after ds (d ∷ rest) h).1

-- `owner` of a node: the vertex on whose list it stands; a vertex owns itself.
pub record Sound (g : Image) : Type 0 where
  pub few_vertices : g.n ≤ 1000
  pub few_edges : g.m ≤ 4000
  pub owner : ℕ → ℕ
  pub own-self : (u : ℕ) → Vertex g.n u → owner u ≡ u
  pub own-edge : (u r : ℕ) → Vertex g.n u → Mem r (edges_of g u) → owner r ≡ u
  pub listed : (r : ℕ) → Edge g.n g.m r → Vertex g.n (owner r) × Mem r (edges_of g (owner r))
  pub edge : (u r : ℕ) → Vertex g.n u → Mem r (edges_of g u) → Edge g.n g.m r
  pub target : (r : ℕ) → Edge g.n g.m r → Vertex g.n (to g r)
  pub once : (u : ℕ) → Vertex g.n u → NoDup (edges_of g u)
  pub first : (u : ℕ) → Vertex g.n u → at 0 g.after u ≡ head0 (edges_of g u)
  pub linked : (u : ℕ) → Vertex g.n u → Linked g.after (edges_of g u)
  pub long_after : g.n + g.m ≤ length g.after
  pub long_tail : g.m ≤ length g.tail

-- ---- chains
-- The k-th tail word is that of reference n + k.
pub same_place : (n r : ℕ) (tail : List ℕ) → n < r → at 0 tail (r - n) ≡ at n tail r
unfolding at
same_place n r tail h = let e : r - n - suc zero ≡ r - suc n = omega arith in ap (λ (i : ℕ). get_or tail i 0) e

chain-edges : (n m : ℕ) (after : List ℕ) → ((x : ℕ) → 0 < x → x ≤ n + m → is_link n m (at 0 after x) ≡ true) → (k x : ℕ) → is_link n m x ≡ true → (r : ℕ) → Mem r (chain k after x) → Edge n m r
chain-edges n m after h zero x hx r q = absurd (mem-nil q)
chain-edges n m after h (suc k) zero hx r q = absurd (mem-nil q)
chain-edges n m after h (suc k) (suc y) hx r q =
    let e : Edge n m (suc y) = link-not-null n m (suc y) hx (omega arith) in
    each-cons (Edge n m) (suc y) (chain k after (at 0 after (suc y))) e (λ z p. chain-edges n m after h k (at 0 after (suc y)) (h (suc y) (omega arith) e.1) z p) r q

-- A linked list is the chain from its first.
pub chain-of : (after : List ℕ) (k : ℕ) (l : List ℕ) → Linked after l → ((z : ℕ) → Mem z l → 0 < z) → length l < k → chain k after (head0 l) ≡ l
chain-of after zero l h p q = absurd (omega arith)
chain-of after (suc k) [] h p q = refl
chain-of after (suc k) (zero ∷ rs) h p q = absurd (let z = p 0 (here refl) in omega arith)
chain-of after (suc k) (suc y ∷ rs) h p q = ap (λ (l : List ℕ). suc y ∷ l) (ap (chain k after) h.0 ∙ chain-of after k rs h.1 (λ z m. p z (there m)) (omega arith))

-- How many edges are left on a list, from r on: behind r there is one less.
abbrev pub edges_left : ℕ → List ℕ → ℕ → ℕ
edges_left m after r = length (chain (suc m) after r)

pub left-falls : (m : ℕ) (after : List ℕ) (r : ℕ) (rs : List ℕ) → Linked after (r ∷ rs) → ((z : ℕ) → Mem z (r ∷ rs) → 0 < z) → length (r ∷ rs) ≤ m → edges_left m after (at 0 after r) < edges_left m after r
left-falls m after r rs l p s =
    let whole : chain (suc m) after r ≡ r ∷ rs = chain-of after (suc m) (r ∷ rs) l p (omega arith) in
    let rest : chain (suc m) after (at 0 after r) ≡ rs = ap (chain (suc m) after) l.0 ∙ chain-of after (suc m) rs l.1 (λ z q. p z (there q)) (omega arith) in
    omega (arith, ap length whole, ap length rest)

-- A chain shorter than its fuel has come to its end.
chain-linked : (after : List ℕ) (k x : ℕ) → length (chain k after x) < k → (x ≡ head0 (chain k after x)) × Linked after (chain k after x)
chain-linked after zero x h = absurd (omega arith)
chain-linked after (suc k) zero h = (refl, tt)
chain-linked after (suc k) (suc y) h = (refl, chain-linked after k (at 0 after (suc y)) (omega arith))

-- ---- counts over all lists
module _ (g : Image) where
  lists-one : (r k u : ℕ) → 0 < u → u ≤ k → count_in r (edges_of g u) ≤ count_in r (lists_to g k)
  lists-one r zero u p q = absurd (omega arith)
  lists-one r (suc k) u p q = go (compare u (suc k)) (λ z. lists-one r k u p z) (count-append r (lists_to g k) (edges_of g (suc k)))
    where
      go : Compared u (suc k) → (u ≤ k → count_in r (edges_of g u) ≤ count_in r (lists_to g k)) → count_in r (lists_to g (suc k)) ≡ count_in r (lists_to g k) + count_in r (edges_of g (suc k)) → count_in r (edges_of g u) ≤ count_in r (lists_to g (suc k))
      go (equal e t) ih sum = rw e (omega arith)
      go (other ne t) ih sum = let i = ih (omega arith) in omega arith

  lists-two : (r k u t : ℕ) → 0 < u → u < t → t ≤ k → count_in r (edges_of g u) + count_in r (edges_of g t) ≤ count_in r (lists_to g k)
  lists-two r zero u t p q w = absurd (omega arith)
  lists-two r (suc k) u t p q w = go (compare t (suc k)) (λ z. lists-two r k u t p q z) (count-append r (lists_to g k) (edges_of g (suc k)))
    where
      go : Compared t (suc k) → (t ≤ k → count_in r (edges_of g u) + count_in r (edges_of g t) ≤ count_in r (lists_to g k)) → count_in r (lists_to g (suc k)) ≡ count_in r (lists_to g k) + count_in r (edges_of g (suc k)) → count_in r (edges_of g u) + count_in r (edges_of g t) ≤ count_in r (lists_to g (suc k))
      go (equal e z) ih sum = let i : count_in r (edges_of g u) ≤ count_in r (lists_to g k) = lists-one r k u p (omega arith) in rw e (omega arith)
      go (other ne z) ih sum = let i = ih (omega arith) in omega arith

  -- r stands on the list of one of 1 to k.
  record On (r k : ℕ) : Type 0 where
    vertex : ℕ
    low : 0 < vertex
    high : vertex ≤ k
    on : Mem r (edges_of g vertex)

  lists-member : (r k : ℕ) → Mem r (lists_to g k) → On r k
  lists-member r zero m = absurd (mem-nil m)
  lists-member r (suc k) m = go (λ q. lists-member r k q) (mem-append (lists_to g k) (edges_of g (suc k)) m)
    where
      go : (Mem r (lists_to g k) → On r k) → Mem r (lists_to g k) ⊎ Mem r (edges_of g (suc k)) → On r (suc k)
      go ih (inl q) = let o = ih q in record { vertex = o.vertex; low = o.low; high = omega (arith, o.high); on = o.on }
      go ih (inr q) = record { vertex = suc k; low = omega arith; high = omega arith; on = q }

  -- ---- owners
  abbrev find : ℕ → ℕ → ℕ
  find r zero = 0
  find r (suc k) = cond (memb r (edges_of g (suc k))) (suc k) (find r k)

  abbrev owner_of : ℕ → ℕ
  owner_of x = cond (leb x g.n) x (find x g.n)

  find-is : (r u : ℕ) → ((t : ℕ) → Vertex g.n t → Mem r (edges_of g t) → t ≡ u) → Mem r (edges_of g u) → (k : ℕ) → k ≤ g.n → 0 < u → u ≤ k → find r k ≡ u
  find-is r u one m zero a p q = absurd (omega arith)
  find-is r u one m (suc k) a p q = go (memb r (edges_of g (suc k))) refl (λ z. find-is r u one m k (omega arith) p z)
    where
      go : (b : Bool) → memb r (edges_of g (suc k)) ≡ b → (u ≤ k → find r k ≡ u) → cond b (suc k) (find r k) ≡ u
      go true e ih = one (suc k) (omega arith) (memb-true r (edges_of g (suc k)) e)
      go false e ih = ih (let ne : u ≡ suc k → ⊥ = λ z. memb-false r (edges_of g (suc k)) e (subst (λ (y : ℕ). Mem r (edges_of g y)) z m) in omega arith)

  -- ---- lists
  -- Where 5 is false, every after word is a link, and a list holds edges.
  pub links-in : after_out g ≡ false → (x : ℕ) → 0 < x → x ≤ g.n + g.m → is_link g.n g.m (at 0 g.after x) ≡ true
  unfolding after_out
  links-in h = all-at (λ x. is_link g.n g.m (at 0 g.after x)) (g.n + g.m) (not-false _ h)

  edges-in : after_out g ≡ false → (u r : ℕ) → Vertex g.n u → Mem r (edges_of g u) → Edge g.n g.m r
  unfolding edges_of
  edges-in h u r hu m = chain-edges g.n g.m g.after (links-in h) (looked_for g) (at 0 g.after u) (links-in h u hu.0 (omega arith)) r m

  pub lists-edges : after_out g ≡ false → (k : ℕ) → k ≤ g.n → (r : ℕ) → Mem r (lists_to g k) → Edge g.n g.m r
  lists-edges h k q r m = let o = lists-member r k m in edges-in h o.vertex r (o.low, omega (arith, o.high)) o.on

  -- Where 7 is false, every edge is counted once.
  pub counted : list_out g ≡ false → (r : ℕ) → Edge g.n g.m r → count_in r (lists_to g g.n) ≡ 1
  unfolding list_out
  counted h r e = all-counted g.n g.m (lists_to g g.n) (not-false _ h) r e.0 e.1

  -- A list of at most m edges has come to its end.
  list-linked : (u : ℕ) → length (edges_of g u) ≤ g.m → (at 0 g.after u ≡ head0 (edges_of g u)) × Linked g.after (edges_of g u)
  unfolding edges_of
  list-linked u h = chain-linked g.after (looked_for g) (at 0 g.after u) (omega arith)

  -- ---- the tests give it
  sound-of : vertices_out g.n ≡ false → edges_out g.m ≡ false → g.n + g.m ≤ length g.after → g.m ≤ length g.tail → first_of (image_refusals g) ≡ 0 → Sound g
  unfolding tail_out
  sound-of hn hm la lt h =
      record {
        few_vertices = ltb-false 1000 g.n (neither (eqb g.n 0) (ltb 1000 g.n) hn).1;
        few_edges = ltb-false 4000 g.m hm;
        owner = owner_of;
        own-self = λ u hu. ap (λ (b : Bool). cond b u (find u g.n)) (le-leb u g.n hu.1);
        own-edge = owns;
        listed = λ r e. listed r (lists-member r g.n (mem-count r (lists_to g g.n) (let c = single r e in omega arith)));
        edge = edges;
        target = λ r e. vertex-is g.n (to g r) (subst (λ (x : ℕ). is_vertex g.n x ≡ true) (place r e) (all-at (λ k. is_vertex g.n (at 0 g.tail k)) g.m (not-false _ tests.1.0) (r - g.n) (let z = e in omega arith) (let z = e in omega arith)));
        once = nodup;
        first = λ u hu. (links u hu).0;
        linked = λ u hu. (links u hu).1;
        long_after = la;
        long_tail = lt;
      }
    where
      tests : AllFalse (image_refusals g)
      tests = (all-false (image_refusals g) [] (omega arith) h).0

      edges : (u r : ℕ) → Vertex g.n u → Mem r (edges_of g u) → Edge g.n g.m r
      edges = edges-in tests.0

      place : (r : ℕ) → Edge g.n g.m r → at 0 g.tail (r - g.n) ≡ to g r
      place r e = same_place g.n r g.tail e.0

      single : (r : ℕ) → Edge g.n g.m r → count_in r (lists_to g g.n) ≡ 1
      single = counted tests.1.1.0

      nodup : (u : ℕ) → Vertex g.n u → NoDup (edges_of g u)
      nodup u hu = count-once (edges_of g u) (λ r m. (let a = single r (edges u r hu m) in let b = lists-one r g.n u hu.0 hu.1 in omega arith))

      one : (r t u : ℕ) → Vertex g.n t → Vertex g.n u → Mem r (edges_of g t) → Mem r (edges_of g u) → t ≡ u
      one r t u ht hu mt mu =
          let a : count_in r (lists_to g g.n) ≡ 1 = single r (edges u r hu mu) in
          let b = count-mem mt in
          let c = count-mem mu in
          let less : t < u → ⊥ = λ z. (let q : count_in r (edges_of g t) + count_in r (edges_of g u) ≤ count_in r (lists_to g g.n) = lists-two r g.n t u ht.0 z hu.1 in omega arith) in
          let more : u < t → ⊥ = λ z. (let q : count_in r (edges_of g u) + count_in r (edges_of g t) ≤ count_in r (lists_to g g.n) = lists-two r g.n u t hu.0 z ht.1 in omega arith) in
          omega arith

      owns : (u r : ℕ) → Vertex g.n u → Mem r (edges_of g u) → owner_of r ≡ u
      owns u r hu m = ap (λ (b : Bool). cond b r (find r g.n)) (lt-leb r g.n (edges u r hu m).0) ∙ find-is r u (λ t ht k. one r t u ht hu k m) m g.n (omega arith) hu.0 hu.1

      listed : (r : ℕ) → On r g.n → Vertex g.n (owner_of r) × Mem r (edges_of g (owner_of r))
      listed r o = subst (λ (u : ℕ). Vertex g.n u × Mem r (edges_of g u)) (sym (owns o.vertex r (o.low, o.high) o.on)) ((o.low, o.high), o.on)

      links : (u : ℕ) → Vertex g.n u → (at 0 g.after u ≡ head0 (edges_of g u)) × Linked g.after (edges_of g u)
      links u hu = list-linked u (pigeonhole g.n g.m (edges_of g u) (nodup u hu) (λ r m. edges u r hu m))

-- An image that is not refused is sound, and what is lent besides is long enough.
module _ (g : Image) (areas : List Lent) (own : List Refusal) (h : first_of (size_refusals g.n g.m (image_areas g ++ areas) ++ own) ≡ 0) where
  sizes : AllFalse (size_refusals g.n g.m (image_areas g ++ areas)) × (first_of own ≡ 0)
  sizes = all-false (size_refusals g.n g.m (image_areas g ++ areas)) own (omega arith) h

  after-long : (g.n + g.m ≤ length g.after) × (short (lent g.m g.tail ∷ areas) ≡ false)
  after-long = long (g.n + g.m) g.after (lent g.m g.tail ∷ areas) sizes.0.1.1.0

  tail-long : (g.m ≤ length g.tail) × (short areas ≡ false)
  tail-long = long g.m g.tail areas after-long.1

  sized-sound : first_of (image_refusals g) ≡ 0 → Sound g
  sized-sound = sound-of g sizes.0.0 sizes.0.1.0 after-long.0 tail-long.0

pub image-sound : (g : Image) (areas : List Lent) → image_number g areas ≡ 0 → Sound g × (short areas ≡ false)
unfolding image_number
image-sound g areas h = (sized-sound g areas (image_refusals g) h (sizes g areas (image_refusals g) h).1, (tail-long g areas (image_refusals g) h).1)

-- A profile that is not refused: a sound image, a start in it, a list in order without the start, areas long enough.
pub record Profile (g : Image) (before : List ℕ) (start : ℕ) (areas : List Lent) : Type 0 where
  pub sound : Sound g
  pub start_vertex : Vertex g.n start
  pub listed : Listed g.n before start
  pub areas-long : short areas ≡ false

pub profile_sound : (g : Image) (before : List ℕ) (start : ℕ) (areas : List Lent) → search_number g before start areas ≡ 0 → Profile g before start areas
unfolding search_number
profile_sound g before start areas h =
    let own = refuse 4 (vertex_out g.n start) ∷ (image_refusals g ++ blank_refusals g.n before start) in
    let z = all-false (refuse 4 (vertex_out g.n start) ∷ []) (image_refusals g ++ blank_refusals g.n before start) (omega arith) (sizes g areas own h).1 in
    let y = all-false (image_refusals g) (blank_refusals g.n before start) (omega arith) z.1 in
    let x = (all-false (blank_refusals g.n before start) [] (omega arith) y.1).0 in
    record { sound = sized-sound g areas own h (none_first (image_refusals g) y.0); start_vertex = vertex-is g.n start (not-false _ z.0.0); listed = listed_of g.n before start x.0 x.1.0; areas-long = (tail-long g areas own h).1 }

-- The graph of a sound image.
pub graph-closed : (g : Image) → Sound g → Closed (graph_of g)
graph-closed g S u r hu m = S.target r (S.edge u r hu m)
