-- The search by parent edges: what its moves ask of each other.
use Rattle.std.specs.Prelude.{◌≡◌, List, [], ◌∷◌, ℕ, ◌+◌, ◌≤◌, length}
use Rattle.graphs.specs.Nodes.{Vertex}
use Rattle.graphs.specs.Graph.{Graph}
use Rattle.graphs.specs.Events.{History}
use Rattle.graphs.specs.Image.{Image, graph_of}
use Rattle.graphs.specs.Results.{entry, parent_left}
use Rattle.graphs.proofs.Sound.{head0, Sound}
use Rattle.graphs.proofs.Blanks.{Listed}
use Rattle.graphs.proofs.Places.{Frame, frame, entering}
use Rattle.walks.specs.Promises.{depth_walk}
use Rattle.walks.specs.Writing.{Held, Roomy}
use Rattle.walks.specs.Moves.{Underway}
use Rattle.depth_parent.specs.declared.Place.{Place}

-- The tree edge into each vertex on the path is the one of its frame.
abbrev pub Entered : Graph → History → List Frame → ℕ → Type 0
Entered G h [] v = entry G h v ≡ (0, 0)
Entered G h (frame u du r ru ∷ s) v = (entry G h v ≡ (r, u)) × Entered G h s u

-- The place of these numbers.
abbrev pub place : (v e f : ℕ) → List ℕ → Place
place v e f t = record { v = record { 0 = v }; e = record { 0 = e }; f = record { 0 = f }; tally = t }

-- At a place, with the elements `before` on the blank: e is the first edge ahead, the trailer is the tree edge into v, and the parent area
-- is that which the events so far leave.
pub record ParentAt (g : Image) (before : List ℕ) (start : ℕ) (marks₀ parents₀ events₀ marks parents events : List ℕ) (p : Place) : Type 0 where
  pub sound : Sound g
  pub long : g.n ≤ length parents₀
  pub h : History
  pub done : List ℕ
  pub rest : List ℕ
  pub s : List Frame
  pub underway : Underway (graph_of g) (g.n + g.m) before start h p.v.0 done rest s marks₀ events₀ marks events p.tally
  pub entered : Entered (graph_of g) h s p.v.0
  pub parents_left : parents ≡ parent_left (graph_of g) h parents₀
  pub next : p.e.0 ≡ head0 rest
  pub trailer : p.f.0 ≡ entering s

pub record SomeParentAt (g : Image) (start : ℕ) (marks parents events : List ℕ) (p : Place) : Type 0 where
  pub before : List ℕ
  pub marks₀ : List ℕ
  pub parents₀ : List ℕ
  pub events₀ : List ℕ
  pub is : ParentAt g before start marks₀ parents₀ events₀ marks parents events p

-- From one place the search goes to another, whatever the areas were as lent.
abbrev pub Goes : (g : Image) (start : ℕ) (marks parents events : List ℕ) (p : Place) (marks' parents' events' : List ℕ) (p' : Place) → Type 0
Goes g start marks parents events p marks' parents' events' p' =
    (before marks₀ parents₀ events₀ : List ℕ) → ParentAt g before start marks₀ parents₀ events₀ marks parents events p → ParentAt g before start marks₀ parents₀ events₀ marks' parents' events' p'

-- The search can begin.
pub record CanSearch (g : Image) (before : List ℕ) (start : ℕ) (marks parents events : List ℕ) : Type 0 where
  pub sound : Sound g
  pub start_vertex : Vertex g.n start
  pub listed : Listed g.n before start
  pub roomy : Roomy (g.n + g.m) (depth_walk g before start) marks events
  pub long : g.n ≤ length parents

-- It has ended.
pub record Ended (g : Image) (before : List ℕ) (start : ℕ) (marks₀ parents₀ events₀ marks parents events t : List ℕ) : Type 0 where
  pub held : Held (g.n + g.m) before (depth_walk g before start) marks₀ events₀ marks events t
  pub parents_left : parents ≡ parent_left (graph_of g) (depth_walk g before start) parents₀
