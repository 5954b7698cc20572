-- What every event of a depth-first search keeps holds after the whole search.
-- By recursion on the derivation; the vertex searched is always reached, and the edges traversed are edges out of it.
use Rattle.std.proofs.Common.{refl, List, ℕ}
use Rattle.lists.specs.Members.{Mem, here, there}
use Rattle.lists.proofs.Members.{mem-right}
use Rattle.graphs.specs.Graph.{Graph, Leads, along}
use Rattle.graphs.specs.Events.{event, label, advance_tree, advance_nontree, retreat_tree, retreat_nontree, scan, History, ◌▸◌, known, labelled}
use Rattle.graphs.specs.Depth.{Searches, searches, Traverses, none, tree, nontree}

-- P is kept by every event, as the search emits it.
pub record Keeps (G : Graph) (before : List ℕ) (start : ℕ) (P : History → Type 0) : Type 0 where
  pub labels : (u : ℕ) (h : History) → Leads G before start u → P h → P (h ▸ event label 0 u)
  pub advances : (u r : ℕ) (h : History) → Leads G before start (G.to r) → (Mem (G.to r) (known before h) → ⊥) → P h → P (h ▸ event advance_tree r u)
  pub retreats : (u r : ℕ) (h : History) → P h → P (h ▸ event retreat_tree r u)
  pub passes : (u r : ℕ) (h : History) → P h → P (h ▸ event advance_nontree r u ▸ event retreat_nontree r u)
  pub scans : (u : ℕ) (h : History) → P h → P (h ▸ event scan 0 u)

module _ {G : Graph} {before : List ℕ} {start : ℕ} {P : History → Type 0} (K : Keeps G before start P) where
  mutual
    pub follow-search : {u : ℕ} {h i : History} → Searches G before u h i → Leads G before start u → P h → P i
    follow-search (searches {u} {h} {i} t) l p = K.scans u i (follow-walk t l (λ r m. m) (K.labels u h l p))

    pub follow-walk : {u : ℕ} {rs : List ℕ} {h i : History} → Traverses G before u rs h i → Leads G before start u → ((r : ℕ) → Mem r rs → Mem r (G.out u)) → P h → P i
    follow-walk none l sub p = p
    follow-walk (tree {u} {r} {rs} {h} {i} n s t) l sub p =
        let to : Leads G before start (G.to r) = along r l (sub r (here refl)) refl (λ m. n (mem-right (labelled h) m)) in
        follow-walk t l (λ x m. sub x (there m)) (K.retreats u r i (follow-search s to (K.advances u r h to n p)))
    follow-walk (nontree {u} {r} {rs} {h} m t) l sub p = follow-walk t l (λ x q. sub x (there q)) (K.passes u r h p)
