-- Tails bent along the path of a depth-first search: the tail of each tree edge under way holds a word of its frame, for example the parent.
-- An edge stands on one list, so only the tails of edges out of vertices on the path are bent.
use Rattle.std.proofs.Common.{◌≡◌, refl, sym, ◌∙◌, subst, List, [], ◌∷◌, ℕ, length}
use Rattle.lists.specs.Members.{Mem, here, there}
use Rattle.lists.specs.Words.{at, put}
use Rattle.lists.proofs.Words.{length-put, at_other}
use Rattle.graphs.specs.Nodes.{Vertex}
use Rattle.graphs.specs.Graph.{Graph}
use Rattle.graphs.proofs.Owned.{Owned}
use Rattle.graphs.proofs.Places.{Frame, frame, path, Above, of-rest}

-- The tail area at a place, built from the bottom frame up; `word` of the edges passed and the frames below stands for a tree edge under way.
abbrev pub bent_tails : (List ℕ → List Frame → ℕ) → ℕ → List ℕ → List Frame → List ℕ
bent_tails word n tails [] = tails
bent_tails word n tails (frame u du r ru ∷ s) = put n (bent_tails word n tails s) r (word du s)

pub tails-length : (word : List ℕ → List Frame → ℕ) (n : ℕ) (tails : List ℕ) (s : List Frame) → length (bent_tails word n tails s) ≡ length tails
tails-length word n tails [] = refl
tails-length word n tails (frame u du r ru ∷ s) = length-put n (bent_tails word n tails s) r (word du s) ∙ tails-length word n tails s

-- The tail of an edge out of a vertex that is not on the path is as found.
pub tails-kept : {G : Graph} {m : ℕ} → Owned G m → (word : List ℕ → List Frame → ℕ) (tails : List ℕ) (start : ℕ) (s : List Frame) (v x q : ℕ) → Above G start s v → Vertex G.size x → Mem q (G.out x) → (Mem x (path s) → ⊥) → at G.size (bent_tails word G.size tails s) q ≡ at G.size tails q
tails-kept O word tails start [] v x q a hx m off = refl
tails-kept {G} O word tails start (frame u du r ru ∷ s) v x q a hx m off =
    let k : Mem r (G.out u) = of-rest G u du (r ∷ ru) a.2 r (here refl) in
    at_other G.size (bent_tails word G.size tails s) r q (word du s) (O.edge u r a.1 k).0 (O.edge x q hx m).0
    (λ e. off (here (O.apart x u q hx a.1 m (subst (λ (y : ℕ). Mem y (G.out u)) (sym e) k))))
    ∙ tails-kept O word tails start s u x q a.3 hx m (λ p. off (there p))
