-- Circles (document 02, item 5): by paths, without any search, and by the events of one.
use Rattle.std.specs.Prelude.{◌≡◌, Bool, cond, not, ◌&&◌, List, [], ◌∷◌, ℕ}
use Rattle.lists.specs.Members.{Mem, memb}
use Rattle.graphs.specs.Graph.{Graph, Leads}
use Rattle.graphs.specs.Events.{Kind, event, History, labelled, scanned, begins}

-- A path of one edge or more leads from x back to x, and to none of the vertices `off` on the way.
pub data Returns (G : Graph) (off : List ℕ) (x : ℕ) : Type 0 where
  returns : {v : ℕ} (r : ℕ) → Leads G off x v → Mem r (G.out v) → G.to r ≡ x → (Mem x off → ⊥) → Returns G off x

-- Some element reached has a path of one reference or more back to itself.
pub record Circular (G : Graph) (off : List ℕ) (start : ℕ) : Type 0 where
  pub vertex : ℕ
  pub reached : Leads G off start vertex
  pub back : Returns G off vertex

-- x is labelled and not yet scanned.
abbrev pub active : ℕ → History → Bool
active x h = memb x (labelled h) && not (memb x (scanned h))

-- After the events h, an event of kind k along r meets a reference that leads to an element labelled and not yet scanned. A reference is
-- met where the traversing of it begins.
abbrev pub meets_active : Graph → Kind → ℕ → History → Bool
meets_active G k r h = begins k && active (G.to r) h

-- Circular, by the events: 1 where a reference was met that leads to an element labelled and not yet scanned, else 0.
abbrev pub circular_of : Graph → History → ℕ
circular_of G [] = 0
circular_of G (event k r u ∷ h) = cond (meets_active G k r h) 1 (circular_of G h)
