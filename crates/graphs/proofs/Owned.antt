-- A graph in which each edge stands on one list, once: a linked image that is sound, and an array form that is.
-- The lists of any vertices, none twice, one after the other have no edge twice, so they have at most m edges.
use Rattle.std.proofs.Common.{◌≡◌, refl, sym, ap, ◌∙◌, subst, ◌⊎◌, inl, inr, List, [], ◌∷◌, ◌++◌, ℕ, zero, suc, ◌+◌, ◌-◌, ◌≤◌, ◌<◌, arith, length, length-append}
use Rattle.lists.specs.Members.{Mem, here, there, NoDup}
use Rattle.lists.specs.Words.{at, values_from}
use Rattle.lists.proofs.Tests.{Compared, equal, other, compare}
use Rattle.lists.proofs.Members.{mem-nil, each-cons, mem-append, append-nodup, pigeonhole}
use Rattle.graphs.specs.Nodes.{Vertex, Edge}
use Rattle.graphs.specs.Graph.{Graph, met}
use Rattle.graphs.specs.Image.{Image, graph_of}
use Rattle.graphs.specs.ArrayForm.{ArrayForm, array_graph}
use Rattle.graphs.proofs.Labels.{Labels}
use Rattle.graphs.proofs.Sound.{Sound, graph-closed}
use Rattle.graphs.proofs.ArraySound.{ArraySound}

pub record Owned (G : Graph) (m : ℕ) : Type 0 where
  pub edge : (u r : ℕ) → Vertex G.size u → Mem r (G.out u) → Edge G.size m r
  pub target : (u r : ℕ) → Vertex G.size u → Mem r (G.out u) → Vertex G.size (G.to r)
  pub once : (u : ℕ) → Vertex G.size u → NoDup (G.out u)
  pub apart : (u v r : ℕ) → Vertex G.size u → Vertex G.size v → Mem r (G.out u) → Mem r (G.out v) → u ≡ v

-- ---- edges met
module _ {G : Graph} {m : ℕ} (O : Owned G m) where
  -- The lists of some vertices, one after the other.
  abbrev joined : List ℕ → List ℕ
  joined [] = []
  joined (u ∷ us) = G.out u ++ joined us

  length-joined : (us : List ℕ) → length (joined us) ≡ met G us
  length-joined [] = refl
  length-joined (u ∷ us) = length-append (G.out u) (joined us) ∙ ap (λ (k : ℕ). length (G.out u) + k) (length-joined us)

  -- r stands on the list of one of the vertices.
  record On (us : List ℕ) (r : ℕ) : Type 0 where
    vertex : ℕ
    among : Mem vertex us
    on : Mem r (G.out vertex)

  joined_of : (us : List ℕ) (r : ℕ) → Mem r (joined us) → On us r
  joined_of [] r k = absurd (mem-nil k)
  joined_of (u ∷ us) r k = go (λ q. joined_of us r q) (mem-append (G.out u) (joined us) k)
    where
      go : (Mem r (joined us) → On us r) → Mem r (G.out u) ⊎ Mem r (joined us) → On (u ∷ us) r
      go ih (inl q) = record { vertex = u; among = here refl; on = q }
      go ih (inr q) = let o = ih q in record { vertex = o.vertex; among = there o.among; on = o.on }

  joined_once : (us : List ℕ) → NoDup us → ((x : ℕ) → Mem x us → Vertex G.size x) → NoDup (joined us)
  joined_once [] h a = tt
  joined_once (u ∷ us) h a = append-nodup (G.out u) (joined us) (O.once u (a u (here refl))) (joined_once us h.1 (λ x q. a x (there q))) (λ r p q. no_other r p (joined_of us r q))
    where
      no_other : (r : ℕ) → Mem r (G.out u) → On us r → ⊥
      no_other r p o = h.0 (subst (λ (y : ℕ). Mem y us) (O.apart o.vertex u r (a o.vertex (there o.among)) (a u (here refl)) o.on p) o.among)

  -- The references on the lists of any vertices, none twice, are at most m.
  pub met-most : (us : List ℕ) → Labels G.size us → met G us ≤ m
  met-most us L = subst (λ (k : ℕ). k ≤ m) (length-joined us) (pigeonhole G.size m (joined us) (joined_once us L.once L.all) (λ r k. let o = joined_of us r k in O.edge o.vertex r (L.all o.vertex o.among) o.on))

-- ---- a linked image
pub image-owned : (g : Image) → Sound g → Owned (graph_of g) g.m
image-owned g S = record { edge = S.edge; target = graph-closed g S; once = S.once; apart = λ u v r hu hv p q. sym (S.own-edge u r hu p) ∙ S.own-edge v r hv q }

-- ---- an array form
-- Of the nodes n + b + 1 to n + b + k each stands once among them.
pub values-in : (n b k r : ℕ) → Mem r (values_from (λ p. n + p) b k) → (n + b < r) × (r ≤ n + b + k)
values-in n b zero r m = absurd (mem-nil m)
values-in n b (suc k) r m =
    each-cons (λ x. (n + b < x) × (x ≤ n + b + suc k)) (n + suc b) (values_from (λ p. n + p) (suc b) k) (omega arith, omega arith) (λ x q. let z = values-in n (suc b) k x q in (omega arith, omega arith)) r m

pub in-values : (n b k r : ℕ) → n + b < r → r ≤ n + b + k → Mem r (values_from (λ p. n + p) b k)
in-values n b zero r p q = absurd (omega arith)
in-values n b (suc k) r p q = go (compare r (n + suc b)) (λ x y. in-values n (suc b) k r x y)
  where
    go : Compared r (n + suc b) → (n + suc b < r → r ≤ n + suc b + k → Mem r (values_from (λ p. n + p) (suc b) k)) → Mem r (values_from (λ p. n + p) b (suc k))
    go (equal e t) ih = here e
    go (other ne t) ih = there (ih (omega arith) (omega arith))

pub values-once : (n b k : ℕ) → NoDup (values_from (λ p. n + p) b k)
values-once n b zero = tt
values-once n b (suc k) = (λ m. let z = values-in n (suc b) k (n + suc b) m in omega arith, values-once n (suc b) k)

module _ (a : ArrayForm) (S : ArraySound a) where
  -- The edges of u stand from its first position up to the next vertex's.
  pub array-out : (u r : ℕ) → Vertex a.n u → Mem r ((array_graph a).out u) → (a.n + at 0 a.firsts u ≤ r) × (r < a.n + at 0 a.firsts (suc u))
  array-out u r hu m =
      let z = values-in a.n (at 0 a.firsts u - 1) (at 0 a.firsts (suc u) - at 0 a.firsts u) r m in
      let f = S.from_one u hu.0 (omega arith) in
      let s = S.rising u (suc u) hu.0 (omega arith) (omega arith) in
      (omega arith, omega arith)

  array-edge : (u r : ℕ) → Vertex a.n u → Mem r ((array_graph a).out u) → Edge a.n a.m r
  array-edge u r hu m =
      let z = array-out u r hu m in
      let f = S.from_one u hu.0 (omega arith) in
      let l = S.from_one (suc u) (omega arith) (omega arith) in
      (omega arith, omega arith)

  array_apart : (u v r : ℕ) → Vertex a.n u → Vertex a.n v → Mem r ((array_graph a).out u) → Mem r ((array_graph a).out v) → u ≡ v
  array_apart u v r hu hv p q =
      let x = array-out u r hu p in
      let y = array-out v r hv q in
      let less : u < v → ⊥ = λ w. (let f = S.rising (suc u) v (omega arith) w (omega arith) in omega arith) in
      let more : v < u → ⊥ = λ w. (let f = S.rising (suc v) u (omega arith) w (omega arith) in omega arith) in
      omega arith

  pub array_owned : Owned (array_graph a) a.m
  array_owned = record {
    edge = array-edge;
    target = λ u r hu m. S.target r (array-edge u r hu m);
    once = λ u hu. values-once a.n (at 0 a.firsts u - 1) (at 0 a.firsts (suc u) - at 0 a.firsts u);
    apart = array_apart;
  }
