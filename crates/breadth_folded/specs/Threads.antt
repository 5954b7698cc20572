-- Breadth-first search folded into the links: the links as a function of the queue, and what its functions ask of each other.
use Rattle.std.specs.Prelude.{◌≡◌, List, [], ◌∷◌, ℕ, suc, ◌+◌, ◌≤◌, ◌<◌, length}
use Rattle.lists.specs.Words.{at, put}
use Rattle.lists.specs.Members.{Mem}
use Rattle.graphs.specs.Nodes.{Vertex, Edge}
use Rattle.graphs.specs.Events.{History}
use Rattle.graphs.specs.Image.{Image, chain, edges_of, graph_of}
use Rattle.graphs.proofs.Labels.{Labels}
use Rattle.graphs.proofs.Sound.{head0, Linked, Sound}
use Rattle.graphs.proofs.Queues.{Waiting}
use Rattle.graphs.proofs.Blanks.{Listed}
use Rattle.images.specs.Checking.{image}
use Rattle.breadth_folded.specs.declared.Scanned.{Scanned}
use Rattle.walks.specs.Promises.{breadth_walk}
use Rattle.walks.specs.Writing.{total, Held, Roomy}

-- The last of x and the nodes behind it.
abbrev pub last_of : ℕ → List ℕ → ℕ
last_of x [] = x
last_of x (r ∷ rs) = last_of r rs

-- The last node of the list of x: its last edge, or x itself.
abbrev pub last_node : Image → ℕ → ℕ
last_node g x = last_of x (edges_of g x)

-- The same, in after words alone.
abbrev pub last_from : ℕ → List ℕ → ℕ → ℕ
last_from m after x = last_of x (chain (suc m) after (at 0 after x))

-- The after words while the vertices of a queue wait, the first of them perhaps being scanned: from each one's last node the next is reached.
abbrev pub threaded : Image → List ℕ → List ℕ
threaded g [] = g.after
threaded g (x ∷ []) = g.after
threaded g (x ∷ y ∷ q) = put 0 (threaded g (y ∷ q)) (last_node g x) y

-- The last of the queue v ∷ q.
abbrev pub rear : ℕ → List ℕ → ℕ
rear v q = last_of v q

-- The list of x in these words: its edges, one leading to the next, the last to null.
pub record Ends (n m x : ℕ) (after : List ℕ) : Type 0 where
  pub few_vertices : n ≤ 1000
  pub few_edges : m ≤ 4000
  pub long : n + m ≤ length after
  pub vertex : Vertex n x
  pub list : List ℕ
  pub linked : Linked after (x ∷ list)
  pub edges : (r : ℕ) → Mem r list → Edge n m r
  pub short : length list ≤ m

-- Between two scans, with the elements `before` on the blank: v waits first, and f is the last node of the last that waits; the areas are
-- those that the events so far leave.
pub record FoldedAt (g : Image) (before : List ℕ) (start v f : ℕ) (marks₀ events₀ after marks events t : List ℕ) : Type 0 where
  pub sound : Sound g
  pub start_vertex : Vertex g.n start
  pub roomy : Roomy (g.n + g.m) (breadth_walk g before start) marks₀ events₀
  pub h : History
  pub q : List ℕ
  pub waiting : Waiting (graph_of g) before start h (v ∷ q)
  pub held : Held (g.n + g.m) before h marks₀ events₀ marks events t
  pub links : after ≡ threaded g (v ∷ q)
  pub last : f ≡ last_node g (rear v q)

pub record SomeFoldedAt (n m v f : ℕ) (after tail marks events t : List ℕ) : Type 0 where
  pub before : List ℕ
  pub start : ℕ
  pub after₀ : List ℕ
  pub marks₀ : List ℕ
  pub events₀ : List ℕ
  pub is : FoldedAt (image n m after₀ tail) before start v f marks₀ events₀ after marks events t

-- v was scanned, but still leads on to the next.
pub record FoldedScanned (g : Image) (before : List ℕ) (start v : ℕ) (marks₀ events₀ after marks events t : List ℕ) (s : Scanned) : Type 0 where
  pub h : History
  pub q : List ℕ
  pub queued : Labels g.n (v ∷ q)
  pub waiting : Waiting (graph_of g) before start h q
  pub held : Held (g.n + g.m) before h marks₀ events₀ marks events s.tally
  pub links : after ≡ threaded g (v ∷ q)
  pub end : s.e ≡ last_node g v
  pub next : s.next ≡ head0 q
  pub last : s.f ≡ last_node g (rear v q)
  pub more : total t < total s.tally

-- What the scan of v promises, whatever the search and the areas as lent.
abbrev pub Scans : (n m v f : ℕ) (tail after marks events t after' marks' events' : List ℕ) → Scanned → Type 0
Scans n m v f tail after marks events t after' marks' events' s =
    (before : List ℕ) (start : ℕ) (after₀ marks₀ events₀ : List ℕ) → FoldedAt (image n m after₀ tail) before start v f marks₀ events₀ after marks events t
    → FoldedScanned (image n m after₀ tail) before start v marks₀ events₀ after' marks' events' t s

-- The search can begin.
pub record CanSearch (g : Image) (before : List ℕ) (start : ℕ) (marks events : List ℕ) : Type 0 where
  pub sound : Sound g
  pub start_vertex : Vertex g.n start
  pub listed : Listed g.n before start
  pub roomy : Roomy (g.n + g.m) (breadth_walk g before start) marks events

-- It has ended.
pub record Ended (g : Image) (before : List ℕ) (start : ℕ) (marks₀ events₀ after marks events t : List ℕ) : Type 0 where
  pub held : Held (g.n + g.m) before (breadth_walk g before start) marks₀ events₀ marks events t
  pub links : after ≡ g.after
