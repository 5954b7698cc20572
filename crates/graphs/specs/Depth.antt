-- Depth-first search (the paper, section 3; document 01, "Written out, searching u is"): a relation between the events before and after.
use Rattle.std.specs.Prelude.{List, [], ◌∷◌, ℕ}
use Rattle.lists.specs.Members.{Mem}
use Rattle.graphs.specs.Graph.{Graph}
use Rattle.graphs.specs.Events.{event, label, advance_tree, advance_nontree, retreat_nontree, retreat_tree, scan, History, ◌▸◌, known}

mutual
  -- Searching u: label u; traverse the edges out of u, in order; scan u.
  pub data Searches (G : Graph) (before : List ℕ) : ℕ → History → History → Type 0 where
    searches : {u : ℕ} {h i : History} → Traverses G before u (G.out u) (h ▸ event label 0 u) i → Searches G before u h (i ▸ event scan 0 u)

  -- Traversing edges of u. Where an edge leads to a vertex not yet labelled: advance, search that vertex, retreat; else advance and retreat.
  pub data Traverses (G : Graph) (before : List ℕ) : ℕ → List ℕ → History → History → Type 0 where
    none : {u : ℕ} {h : History} → Traverses G before u [] h h
    tree : {u r : ℕ} {rs : List ℕ} {h i j : History} → (Mem (G.to r) (known before h) → ⊥)
        → Searches G before (G.to r) (h ▸ event advance_tree r u) i
        → Traverses G before u rs (i ▸ event retreat_tree r u) j
        → Traverses G before u (r ∷ rs) h j
    nontree : {u r : ℕ} {rs : List ℕ} {h i : History} → Mem (G.to r) (known before h)
        → Traverses G before u rs (h ▸ event advance_nontree r u ▸ event retreat_nontree r u) i
        → Traverses G before u (r ∷ rs) h i

-- h is the depth-first search from start.
abbrev pub DepthFirst : Graph → List ℕ → ℕ → History → Type 0
DepthFirst G before start h = Searches G before start [] h
