-- The tests of nodes, from the facts and to the facts.
-- Each test is two comparisons.
use Rattle.std.proofs.Common.{◌≡◌, refl, sym, ap, ◌∙◌, Bool, true, false, ◌||◌, ℕ, ◌+◌, arith, eqb, ltb, leb, eqb-true, ltb-true, leb-true, lt-ltb, le-leb, ne_eqb}
use Rattle.lists.proofs.Tests.{and-true, both, or-true}
use Rattle.graphs.specs.Nodes.{Vertex, Edge, is_vertex, is_edge, is_link, is_node}

pub vertex-yes : (n x : ℕ) → Vertex n x → is_vertex n x ≡ true
vertex-yes n x h = and-true (lt-ltb 0 x h.0) (le-leb x n h.1)

pub vertex-is : (n x : ℕ) → is_vertex n x ≡ true → Vertex n x
vertex-is n x h = let z = both (ltb 0 x) (leb x n) h in (ltb-true 0 x z.0, leb-true x n z.1)

pub edge-yes : (n m x : ℕ) → Edge n m x → is_edge n m x ≡ true
edge-yes n m x h = and-true (lt-ltb n x h.0) (le-leb x (n + m) h.1)

pub edge-is : (n m x : ℕ) → is_edge n m x ≡ true → Edge n m x
edge-is n m x h = let z = both (ltb n x) (leb x (n + m)) h in (ltb-true n x z.0, leb-true x (n + m) z.1)

pub link-of-edge : (n m x : ℕ) → is_edge n m x ≡ true → is_link n m x ≡ true
link-of-edge n m x h = ap (λ (b : Bool). eqb x 0 || b) h ∙ or-true (eqb x 0)

-- A link that is not null is an edge.
pub link-not-null : (n m x : ℕ) → is_link n m x ≡ true → (x ≡ 0 → ⊥) → Edge n m x
link-not-null n m x h ne = edge-is n m x (sym (ap (λ (b : Bool). b || is_edge n m x) (ne_eqb x 0 ne)) ∙ h)

pub link-node : (n m x : ℕ) → is_link n m x ≡ true → is_node n m x ≡ true
link-node n m x h = go (eqb x 0) refl h
  where
    go : (b : Bool) → eqb x 0 ≡ b → (b || is_edge n m x) ≡ true → is_node n m x ≡ true
    go true e q = le-leb x (n + m) (let z : x ≡ 0 = eqb-true x 0 e in omega arith)
    go false e q = le-leb x (n + m) (edge-is n m x q).1
