-- What the executable depth-first search counts: each labelled vertex is scanned, each edge on its list is traversed, each advance has
-- its retreat.
-- One balance between the history before and after, for any weights of vertices and of edges, kept by recursion on the fuel.
use Rattle.std.proofs.Common.{◌≡◌, Bool, true, false, List, [], ◌∷◌, ℕ, zero, suc, ◌+◌, ◌*◌, arith, length}
use Rattle.lists.specs.Members.{memb}
use Rattle.lists.specs.Counts.{sum_of}
use Rattle.graphs.specs.Graph.{Graph, met}
use Rattle.graphs.specs.Events.{event, label, advance_tree, advance_nontree, retreat_tree, retreat_nontree, History, ◌▸◌, known, labelled, scanned, traversed, count}
use Rattle.graphs.specs.Search.{recorder, cross, walk_edges, search, depth_first}

-- The weight of all edges out of some vertices.
abbrev pub weigh : Graph → (ℕ → ℕ) → List ℕ → ℕ
weigh G g vs = sum_of (λ u. sum_of g (G.out u)) vs

-- From h to i the search traversed the edges rs, and all edges out of the vertices that it labelled.
pub record Balance (G : Graph) (f g : ℕ → ℕ) (rs : List ℕ) (h i : History) : Type 0 where
  pub scans : sum_of f (scanned i) + sum_of f (labelled h) ≡ sum_of f (scanned h) + sum_of f (labelled i)
  pub edges : sum_of g (traversed i) + weigh G g (labelled h) ≡ sum_of g (traversed h) + (sum_of g rs + weigh G g (labelled i))
  pub advances : count advance_tree i + count advance_nontree i + met G (labelled h) ≡ count advance_tree h + count advance_nontree h + (length rs + met G (labelled i))
  pub trees : count advance_tree i + count retreat_tree h ≡ count advance_tree h + count retreat_tree i
  pub nontrees : count advance_nontree i + count retreat_nontree h ≡ count advance_nontree h + count retreat_nontree i
  pub size : length i + 2 * (met G (labelled h) + length (labelled h)) ≡ length h + 2 * (length rs + met G (labelled i) + length (labelled i))

module _ (G : Graph) (before : List ℕ) (f g : ℕ → ℕ) where
  abbrev Balanced : (ℕ → History → History) → Type 0
  Balanced rec = (u : ℕ) (h : History) → Balance G f g [] h (rec u h)

  cross-balance : (rec : ℕ → History → History) → Balanced rec → (u r : ℕ) (b : Bool) (h : History) → Balance G f g (r ∷ []) h (cross (recorder before) G rec u r b h)
  cross-balance rec a u r true h = omega arith
  cross-balance rec a u r false h = let k = a (G.to r) (h ▸ event advance_tree r u) in omega arith

  walk-balance : (rec : ℕ → History → History) → Balanced rec → (u : ℕ) (rs : List ℕ) (h : History) → Balance G f g rs h (walk_edges (recorder before) G rec u rs h)
  unfolding walk_edges
  walk-balance rec a u [] h = omega arith
  walk-balance rec a u (r ∷ rs) h =
      let b = cross-balance rec a u r (memb (G.to r) (known before h)) h in
      let c = walk-balance rec a u rs (cross (recorder before) G rec u r (memb (G.to r) (known before h)) h) in
      omega arith

  search-balance : (k : ℕ) → Balanced (search (recorder before) G k)
  unfolding search
  search-balance zero u h = omega arith
  search-balance (suc k) u h = let a = walk-balance (search (recorder before) G k) (search-balance k) u (G.out u) (h ▸ event label 0 u) in omega arith

  pub depth-balance : (start : ℕ) → Balance G f g [] [] (depth_first G before start)
  unfolding depth_first
  depth-balance start = search-balance G.size start []
