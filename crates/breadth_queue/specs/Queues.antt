-- The search by a queue: what its functions ask of each other.
use Rattle.std.specs.Prelude.{◌≡◌, List, ℕ, suc, ◌+◌, ◌≤◌, ◌<◌, length, get_or}
use Rattle.graphs.specs.Nodes.{Vertex}
use Rattle.graphs.specs.Events.{History, scanned}
use Rattle.graphs.specs.Image.{Image, graph_of}
use Rattle.graphs.specs.Results.{queue_left}
use Rattle.graphs.proofs.Sound.{Sound}
use Rattle.graphs.proofs.Blanks.{Listed}
use Rattle.graphs.proofs.Queues.{Waiting}
use Rattle.walks.specs.Promises.{breadth_walk}
use Rattle.walks.specs.Writing.{total, Held, Roomy}

-- Between two scans, with the elements `before` on the blank: i vertices were scanned, those behind them in the queue area wait, and the
-- areas are those that the events so far leave.
pub record QueueAt (g : Image) (before : List ℕ) (start i : ℕ) (marks₀ queue₀ events₀ marks queue events t : List ℕ) : Type 0 where
  pub sound : Sound g
  pub start_vertex : Vertex g.n start
  pub roomy : Roomy (g.n + g.m) (breadth_walk g before start) marks₀ events₀
  pub long : g.n ≤ length queue₀
  pub h : History
  pub waits : List ℕ
  pub waiting : Waiting (graph_of g) before start h waits
  pub held : Held (g.n + g.m) before h marks₀ events₀ marks events t
  pub queue_left : queue ≡ queue_left g.n h queue₀
  pub place : i ≡ length (scanned h)

-- v is the next to be scanned.
pub record SomeQueueAt (g : Image) (v : ℕ) (marks queue events t : List ℕ) : Type 0 where
  pub before : List ℕ
  pub start : ℕ
  pub i : ℕ
  pub marks₀ : List ℕ
  pub queue₀ : List ℕ
  pub events₀ : List ℕ
  pub is : QueueAt g before start i marks₀ queue₀ events₀ marks queue events t
  pub some : i < get_or t 0 0
  pub first : v ≡ get_or queue i 0

-- It was scanned.
pub record QueueScanned (g : Image) (before : List ℕ) (start i : ℕ) (marks₀ queue₀ events₀ marks queue events t t' : List ℕ) : Type 0 where
  pub is : QueueAt g before start (suc i) marks₀ queue₀ events₀ marks queue events t'
  pub more : total t < total t'

-- What the scan of the next vertex promises, whatever the search and the areas as lent.
abbrev pub Scans : Image → (marks queue events t marks' queue' events' t' : List ℕ) → Type 0
Scans g marks queue events t marks' queue' events' t' =
    (before : List ℕ) (start i : ℕ) (marks₀ queue₀ events₀ : List ℕ) → QueueAt g before start i marks₀ queue₀ events₀ marks queue events t
    → QueueScanned g before start i marks₀ queue₀ events₀ marks' queue' events' t t'

-- The search can begin.
pub record CanSearch (g : Image) (before : List ℕ) (start : ℕ) (marks queue events : List ℕ) : Type 0 where
  pub sound : Sound g
  pub start_vertex : Vertex g.n start
  pub listed : Listed g.n before start
  pub roomy : Roomy (g.n + g.m) (breadth_walk g before start) marks events
  pub long : g.n ≤ length queue

-- It has ended.
pub record Ended (g : Image) (before : List ℕ) (start : ℕ) (marks₀ queue₀ events₀ marks queue events t : List ℕ) : Type 0 where
  pub held : Held (g.n + g.m) before (breadth_walk g before start) marks₀ events₀ marks events t
  pub queue_left : queue ≡ queue_left g.n (breadth_walk g before start) queue₀
