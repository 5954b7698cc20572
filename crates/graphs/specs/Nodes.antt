-- Nodes (document 01, "Images"): an element is a vertex, a reference is an edge, 0 is null.
use Rattle.std.specs.Prelude.{Bool, ◌&&◌, ◌||◌, ℕ, ◌+◌, ◌≤◌, ◌<◌, eqb, ltb, leb}

-- Elements are nodes 1 to n.
abbrev pub Vertex : ℕ → ℕ → Type 0
Vertex n x = (0 < x) × (x ≤ n)

-- References are nodes n + 1 to n + m.
abbrev pub Edge : ℕ → ℕ → ℕ → Type 0
Edge n m x = (n < x) × (x ≤ n + m)

-- The test of an element.
abbrev pub is_vertex : ℕ → ℕ → Bool
is_vertex n x = ltb 0 x && leb x n

-- The test of a reference.
abbrev pub is_edge : ℕ → ℕ → ℕ → Bool
is_edge n m x = ltb n x && leb x (n + m)

-- Null or a reference: what an after word may hold at rest.
abbrev pub is_link : ℕ → ℕ → ℕ → Bool
is_link n m x = eqb x 0 || is_edge n m x

-- Null, an element or a reference: what the trailer may hold.
abbrev pub is_node : ℕ → ℕ → ℕ → Bool
is_node n m x = leb x (n + m)
