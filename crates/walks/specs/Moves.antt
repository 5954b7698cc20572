-- A depth-first search without recursion, at a place: what is common to the walks by parent edges and over the array form.
use Rattle.std.specs.Prelude.{ℕ, ◌≤◌, List}
use Rattle.lists.specs.Members.{Mem}
use Rattle.graphs.specs.Graph.{Graph}
use Rattle.graphs.specs.Events.{History, labelled}
use Rattle.graphs.specs.Search.{depth_first}
use Rattle.graphs.specs.Claims.{Ready}
use Rattle.graphs.proofs.Places.{Frame, Scene}
use Rattle.graphs.proofs.Trees.{AllTrees}
use Rattle.walks.specs.Writing.{Held, Roomy}

-- After the events h: v is being scanned, `done` passed, `rest` ahead, the frames s below; marks, events and tally are those that h leaves.
-- Every tree edge so far leaves a labelled vertex.
pub record Underway (G : Graph) (nodes : ℕ) (before : List ℕ) (start : ℕ) (h : History) (v : ℕ) (done rest : List ℕ) (s : List Frame) (marks₀ events₀ marks events t : List ℕ) : Type 0 where
  pub ready : Ready G before start
  pub within : G.size ≤ nodes
  pub roomy : Roomy nodes (depth_first G before start) marks₀ events₀
  pub scene : Scene G before start h v done rest s
  pub trees : AllTrees (λ r u. Mem u (labelled h)) h
  pub held : Held nodes before h marks₀ events₀ marks events t
