-- What searching a vertex and traversing an edge ask of each other.
use Rattle.std.specs.Prelude.{List, ℕ, ◌+◌}
use Rattle.lists.specs.Members.{Mem, memb}
use Rattle.graphs.specs.Nodes.{Vertex}
use Rattle.graphs.specs.Events.{History, known}
use Rattle.graphs.specs.Search.{recorder, cross}
use Rattle.graphs.specs.Image.{Image, edges_of, to, graph_of}
use Rattle.graphs.proofs.Labels.{Labels}
use Rattle.graphs.proofs.Sound.{Sound}
use Rattle.graphs.proofs.Places.{deep}
use Rattle.walks.specs.Writing.{Held, Roomy}

-- The events once u is searched, from h on, with the elements `before` on the blank.
abbrev pub searched : Image → List ℕ → ℕ → History → History
searched g before u h = deep (graph_of g) before u h

-- The events once r, which leaves u, is traversed.
abbrev pub crossed : Image → List ℕ → ℕ → ℕ → History → History
crossed g before r u h = cross (recorder before) (graph_of g) (deep (graph_of g) before) u r (memb (to g r) (known before h)) h

-- u is neither labelled after h nor on the blank, and there is room for the events of its search.
pub record Searching (g : Image) (before : List ℕ) (u : ℕ) (h : History) (marks₀ events₀ marks events t : List ℕ) : Type 0 where
  pub sound : Sound g
  pub vertex : Vertex g.n u
  pub fresh : Mem u (known before h) → ⊥
  pub labels : Labels g.n (known before h)
  pub held : Held (g.n + g.m) before h marks₀ events₀ marks events t
  pub roomy : Roomy (g.n + g.m) (searched g before u h) marks₀ events₀

pub record CanSearch (g : Image) (u : ℕ) (marks events t : List ℕ) : Type 0 where
  pub before : List ℕ
  pub h : History
  pub marks₀ : List ℕ
  pub events₀ : List ℕ
  pub searching : Searching g before u h marks₀ events₀ marks events t

-- r stands on the list of u, and there is room for its events.
pub record Traversing (g : Image) (before : List ℕ) (r u : ℕ) (h : History) (marks₀ events₀ marks events t : List ℕ) : Type 0 where
  pub sound : Sound g
  pub vertex : Vertex g.n u
  pub listed : Mem r (edges_of g u)
  pub labels : Labels g.n (known before h)
  pub held : Held (g.n + g.m) before h marks₀ events₀ marks events t
  pub roomy : Roomy (g.n + g.m) (crossed g before r u h) marks₀ events₀

pub record CanTraverse (g : Image) (r u : ℕ) (marks events t : List ℕ) : Type 0 where
  pub before : List ℕ
  pub h : History
  pub marks₀ : List ℕ
  pub events₀ : List ℕ
  pub traversing : Traversing g before r u h marks₀ events₀ marks events t

-- What searching u promises, whatever was lent and whatever the events before.
abbrev pub Searches : Image → ℕ → (marks events t marks' events' t' : List ℕ) → Type 0
Searches g u marks events t marks' events' t' =
    (before : List ℕ) (h : History) (marks₀ events₀ : List ℕ) → Searching g before u h marks₀ events₀ marks events t
    → Held (g.n + g.m) before (searched g before u h) marks₀ events₀ marks' events' t'

-- What traversing r, which leaves u, promises.
abbrev pub Traverses : Image → ℕ → ℕ → (marks events t marks' events' t' : List ℕ) → Type 0
Traverses g r u marks events t marks' events' t' =
    (before : List ℕ) (h : History) (marks₀ events₀ : List ℕ) → Traversing g before r u h marks₀ events₀ marks events t
    → Held (g.n + g.m) before (crossed g before r u h) marks₀ events₀ marks' events' t'
