-- What the executable depth-first search does to its history: it only adds, labels what it must, and does not depend on its fuel where
-- that is enough.
-- By recursion on the fuel and, inside, on the edges; enough is as many as there are vertices not yet labelled.
use Rattle.std.proofs.Common.{◌≡◌, refl, sym, ap, ◌∙◌, subst, Bool, true, false, List, [], ◌∷◌, ℕ, zero, suc, ◌+◌, ◌≤◌, arith, length}
use mathlib.Core.List.{IsSuffix, suffix_refl, suffix-cons, IsSuffix-trans}
use Rattle.lists.specs.Members.{Mem, here, there, memb}
use Rattle.lists.proofs.Members.{mem-nil, each-cons, memb-true, memb-false}
use Rattle.graphs.specs.Nodes.{Vertex}
use Rattle.graphs.specs.Graph.{Graph, Closed}
use Rattle.graphs.specs.Events.{Event, event, label, advance_tree, scan, History, ◌▸◌, known}
use Rattle.graphs.specs.Search.{recorder, cross, walk_edges, search}
use Rattle.graphs.proofs.Labels.{Labels, label-ok, labels_full, Grown, grown-refl, grown-trans, grown-label}

pub suffix-then : {h i : History} (x : Event) → IsSuffix h i → IsSuffix h (i ▸ x)
suffix-then {h} {i} x s = IsSuffix-trans {l₁ = h} {l₂ = i} {l₃ = i ▸ x} s (suffix-cons x i)

module _ (G : Graph) (before : List ℕ) where
  -- The executable search with fuel k, and the traversing of edges inside it.
  abbrev dfs : ℕ → ℕ → History → History
  dfs k = search (recorder before) G k

  abbrev walk : ℕ → ℕ → List ℕ → History → History
  walk k = walk_edges (recorder before) G (dfs k)

  abbrev crossing : ℕ → ℕ → ℕ → Bool → History → History
  crossing k = cross (recorder before) G (dfs k)

  -- ---- it only adds
  abbrev Adds : (ℕ → History → History) → Type 0
  Adds rec = (u : ℕ) (h : History) → IsSuffix h (rec u h)

  cross-adds : (rec : ℕ → History → History) → Adds rec → (u r : ℕ) (b : Bool) (h : History) → IsSuffix h (cross (recorder before) G rec u r b h)
  cross-adds rec a u r true h = suffix-then _ (suffix-then _ (suffix_refl h))
  cross-adds rec a u r false h =
      let t : History = h ▸ event advance_tree r u in
      suffix-then _ (IsSuffix-trans {l₁ = h} {l₂ = t} {l₃ = rec (G.to r) t} (suffix-then (event advance_tree r u) (suffix_refl h)) (a (G.to r) t))

  pub walk-adds : (rec : ℕ → History → History) → Adds rec → (u : ℕ) (rs : List ℕ) (h : History) → IsSuffix h (walk_edges (recorder before) G rec u rs h)
  unfolding walk_edges
  walk-adds rec a u [] h = suffix_refl h
  walk-adds rec a u (r ∷ rs) h =
      let i : History = cross (recorder before) G rec u r (memb (G.to r) (known before h)) h in
      IsSuffix-trans {l₁ = h} {l₂ = i} {l₃ = walk_edges (recorder before) G rec u rs i} (cross-adds rec a u r (memb (G.to r) (known before h)) h) (walk-adds rec a u rs i)

  pub search-adds : (k : ℕ) → Adds (dfs k)
  unfolding search
  search-adds zero u h = suffix_refl h
  search-adds (suc k) u h =
      let t : History = h ▸ event label 0 u in
      let i : History = walk k u (G.out u) t in
      suffix-then (event scan 0 u) (IsSuffix-trans {l₁ = h} {l₂ = t} {l₃ = i} (suffix-then (event label 0 u) (suffix_refl h)) (walk-adds (dfs k) (search-adds k) u (G.out u) t))

  -- ---- it labels
  module _ (C : Closed G) where
    -- u may be searched after h, with fuel k.
    pub record Can (k u : ℕ) (h : History) : Type 0 where
      pub vertex : Vertex G.size u
      pub fresh : Mem u (known before h) → ⊥
      pub labels : Labels G.size (known before h)
      pub enough : G.size ≤ k + length (known before h)

    -- Edges may be traversed after h, with fuel k.
    pub record CanWalk (k : ℕ) (rs : List ℕ) (h : History) : Type 0 where
      pub targets : (r : ℕ) → Mem r rs → Vertex G.size (G.to r)
      pub labels : Labels G.size (known before h)
      pub enough : G.size ≤ k + length (known before h)

    pub can-walk : (k u : ℕ) (h : History) → Can (suc k) u h → CanWalk k (G.out u) (h ▸ event label 0 u)
    can-walk k u h c = record { targets = λ r m. C u r c.vertex m; labels = label-ok G.size u (known before h) c.vertex c.fresh c.labels; enough = omega (arith, c.enough) }

    pub can-cross : (k u r : ℕ) (rs : List ℕ) (h : History) → CanWalk k (r ∷ rs) h → memb (G.to r) (known before h) ≡ false → Can k (G.to r) (h ▸ event advance_tree r u)
    can-cross k u r rs h c e = record { vertex = c.targets r (here refl); fresh = memb-false (G.to r) (known before h) e; labels = c.labels; enough = c.enough }

    pub no_fuel : {A : Type 0} (u : ℕ) (h : History) → Can zero u h → A
    no_fuel u h c = labels_full G.size u (known before h) c.vertex c.fresh c.labels (omega (arith, c.enough))

    pub record Labelled (u : ℕ) (h i : History) : Type 0 where
      pub grown : Grown G (known before h) (known before i)
      pub self : Mem u (known before i)

    abbrev Searching : ℕ → Type 0
    Searching k = (u : ℕ) (h : History) → Can k u h → Labelled u h (dfs k u h)

    cross-labels : (k : ℕ) → Searching k → (u r : ℕ) (rs : List ℕ) (b : Bool) (h : History) → memb (G.to r) (known before h) ≡ b → CanWalk k (r ∷ rs) h → Labelled (G.to r) h (crossing k u r b h)
    cross-labels k s u r rs true h e c = record { grown = grown-refl G (known before h) c.labels; self = memb-true (G.to r) (known before h) e }
    cross-labels k s u r rs false h e c = let q = s (G.to r) (h ▸ event advance_tree r u) (can-cross k u r rs h c e) in record { grown = q.grown; self = q.self }

    -- What is left can be traversed after the first.
    walk-on : (k u r : ℕ) (rs : List ℕ) (h i : History) → CanWalk k (r ∷ rs) h → Labelled (G.to r) h i → CanWalk k rs i
    walk-on k u r rs h i c q = record { targets = λ x m. c.targets x (there m); labels = q.grown.labels; enough = omega (arith, c.enough, q.grown.longer) }

    pub record Walked (rs : List ℕ) (h i : History) : Type 0 where
      pub grown : Grown G (known before h) (known before i)
      pub all : (r : ℕ) → Mem r rs → Mem (G.to r) (known before i)

    walk-labels : (k : ℕ) → Searching k → (u : ℕ) (rs : List ℕ) (h : History) → CanWalk k rs h → Walked rs h (walk k u rs h)
    unfolding walk_edges
    walk-labels k s u [] h c = record { grown = grown-refl G (known before h) c.labels; all = λ r m. absurd (mem-nil m) }
    walk-labels k s u (r ∷ rs) h c =
        let i : History = crossing k u r (memb (G.to r) (known before h)) h in
        let j : History = walk k u rs i in
        let a : Labelled (G.to r) h i = cross-labels k s u r rs (memb (G.to r) (known before h)) h refl c in
        let b : Walked rs i j = walk-labels k s u rs i (walk-on k u r rs h i c a) in
        record { grown = grown-trans G (known before h) (known before i) (known before j) a.grown b.grown; all = each-cons (λ x. Mem (G.to x) (known before j)) r rs (b.grown.keeps (G.to r) a.self) b.all }

    pub search-labels : (k : ℕ) → Searching k
    unfolding search
    search-labels zero u h c = no_fuel u h c
    search-labels (suc k) u h c =
        let t : History = h ▸ event label 0 u in
        let i : History = walk k u (G.out u) t in
        let w : Walked (G.out u) t i = walk-labels k (search-labels k) u (G.out u) t (can-walk k u h c) in
        record { grown = grown-label G u (known before h) (known before i) w.grown w.all; self = w.grown.keeps u (here refl) }

    -- The edges left, after the first was traversed.
    pub next-walk : (k u r : ℕ) (rs : List ℕ) (h : History) → CanWalk k (r ∷ rs) h → CanWalk k rs (crossing k u r (memb (G.to r) (known before h)) h)
    next-walk k u r rs h c = walk-on k u r rs h (crossing k u r (memb (G.to r) (known before h)) h) c (cross-labels k (search-labels k) u r rs (memb (G.to r) (known before h)) h refl c)

    -- ---- enough fuel is enough
    abbrev Same : ℕ → ℕ → Type 0
    Same k j = (u : ℕ) (h : History) → Can k u h → Can j u h → dfs k u h ≡ dfs j u h

    cross-same : (k j : ℕ) → Same k j → (u r : ℕ) (rs : List ℕ) (b : Bool) (h : History) → memb (G.to r) (known before h) ≡ b → CanWalk k (r ∷ rs) h → CanWalk j (r ∷ rs) h → crossing k u r b h ≡ crossing j u r b h
    cross-same k j s u r rs true h e c d = refl
    cross-same k j s u r rs false h e c d = ap ((recorder before).emit _) (s (G.to r) (h ▸ event advance_tree r u) (can-cross k u r rs h c e) (can-cross j u r rs h d e))

    walk_same : (k j : ℕ) → Same k j → (u : ℕ) (rs : List ℕ) (h : History) → CanWalk k rs h → CanWalk j rs h → walk k u rs h ≡ walk j u rs h
    unfolding walk_edges
    walk_same k j s u [] h c d = refl
    walk_same k j s u (r ∷ rs) h c d =
        let x = next-walk k u r rs h c in
        let y = next-walk j u r rs h d in
        let e = cross-same k j s u r rs (memb (G.to r) (known before h)) h refl c d in
        walk_same k j s u rs (crossing k u r (memb (G.to r) (known before h)) h) x (subst (CanWalk j rs) (sym e) y)
        ∙ ap (walk j u rs) e

    pub search-same : (k j : ℕ) → Same k j
    unfolding search
    search-same zero j u h c d = no_fuel u h c
    search-same (suc k) zero u h c d = no_fuel u h d
    search-same (suc k) (suc j) u h c d = ap (λ (i : History). i ▸ event scan 0 u) (walk_same k j (search-same k j) u (G.out u) (h ▸ event label 0 u) (can-walk k u h c) (can-walk j u h d))

    -- The paper's recursion, with no fuel to be seen: as many as there are vertices is enough everywhere.
    pub search-unroll : (u : ℕ) (h : History) → Can G.size u h → dfs G.size u h ≡ (walk G.size u (G.out u) (h ▸ event label 0 u) ▸ event scan 0 u)
    unfolding search
    search-unroll u h c = search-same G.size (suc G.size) u h c (record { vertex = c.vertex; fresh = c.fresh; labels = c.labels; enough = omega (arith, c.enough) })
