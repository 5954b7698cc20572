-- Directed graphs, and what can be reached in one: by paths, without any search.
use Rattle.std.specs.Prelude.{◌≡◌, ◌↔◌, List, ℕ, length}
use Rattle.lists.specs.Members.{Mem, NoDup}
use Rattle.lists.specs.Counts.{sum_of}
use Rattle.graphs.specs.Nodes.{Vertex}

-- Elements are vertices 1 to `size`; the references on each one's list are the edges out of it, in order, and lead to a vertex each.
pub record Graph : Type 0 where
  pub size : ℕ
  pub out : ℕ → List ℕ
  pub to : ℕ → ℕ

-- Every edge out of a vertex leads to a vertex.
abbrev pub Closed : Graph → Type 0
Closed G = (u r : ℕ) → Vertex G.size u → Mem r (G.out u) → Vertex G.size (G.to r)

-- A path of edges leads from u to x, and to none of the vertices `off` on the way.
pub data Leads (G : Graph) (off : List ℕ) (u : ℕ) : ℕ → Type 0 where
  stays : {x : ℕ} → x ≡ u → Leads G off u x
  along : {v x : ℕ} (r : ℕ) → Leads G off u v → Mem r (G.out v) → G.to r ≡ x → (Mem x off → ⊥) → Leads G off u x

-- The elements reached (document 01, "Agreement of the two lines"), in any order: each once, all that a path leads to, no other.
pub record Reached (G : Graph) (off : List ℕ) (start : ℕ) (vs : List ℕ) : Type 0 where
  pub once : NoDup vs
  pub exact : (x : ℕ) → Mem x vs ↔ Leads G off start x

-- The number of references met: those on the lists of the elements reached.
abbrev pub met : Graph → List ℕ → ℕ
met G vs = sum_of (λ u. length (G.out u)) vs
