-- Breadth-first search (the paper, section 2): a relation between the events before and after.
use Rattle.std.specs.Prelude.{◌≡◌, List, [], ◌∷◌, reverse, ℕ}
use Rattle.lists.specs.Members.{Mem, without}
use Rattle.graphs.specs.Graph.{Graph}
use Rattle.graphs.specs.Events.{event, label, scan, traverse, History, ◌▸◌, known, labelled, scanned}

-- Traversing edges of v: label the vertex that an edge leads to, if it is not yet labelled.
pub data Traverses (G : Graph) (before : List ℕ) : ℕ → List ℕ → History → History → Type 0 where
  none : {v : ℕ} {h : History} → Traverses G before v [] h h
  labels : {v r : ℕ} {rs : List ℕ} {h i : History} → (Mem (G.to r) (known before h) → ⊥)
      → Traverses G before v rs (h ▸ event traverse r v ▸ event label 0 (G.to r)) i
      → Traverses G before v (r ∷ rs) h i
  passes : {v r : ℕ} {rs : List ℕ} {h i : History} → Mem (G.to r) (known before h)
      → Traverses G before v rs (h ▸ event traverse r v) i
      → Traverses G before v (r ∷ rs) h i

-- The vertices labelled but not yet scanned, the least recently labelled first.
abbrev pub waiting : History → List ℕ
waiting h = without (scanned h) (reverse (labelled h))

-- Until no vertex is labelled but unscanned: scan the least recently labelled of them, traversing each edge out of it.
pub data Scans (G : Graph) (before : List ℕ) : History → History → Type 0 where
  done : {h : History} → waiting h ≡ [] → Scans G before h h
  next : {v : ℕ} {vs : List ℕ} {h i j : History} → waiting h ≡ v ∷ vs
      → Traverses G before v (G.out v) h i
      → Scans G before (i ▸ event scan 0 v) j
      → Scans G before h j

-- h is the breadth-first search from start, which is labelled first.
abbrev pub BreadthFirst : Graph → List ℕ → ℕ → History → Type 0
BreadthFirst G before start h = Scans G before ([] ▸ event label 0 start) h
