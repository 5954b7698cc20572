-- Two graphs with the same list out of each vertex, whose edges lead to the same vertices, have the same searches.
-- Both searches ask the same of each edge: depth-first by recursion on the fuel and, inside, on the edges; breadth-first along the queue, which
-- holds vertices.
use Rattle.std.proofs.Common.{◌≡◌, refl, sym, ap, ◌∙◌, subst, ◌⊎◌, inl, inr, Bool, true, false, List, [], ◌∷◌, ℕ, zero, suc}
use Rattle.lists.specs.Members.{Mem, here, there, memb}
use Rattle.lists.proofs.Members.{mem-nil, mem-one, mem-append, each-cons}
use Rattle.graphs.specs.Nodes.{Vertex}
use Rattle.graphs.specs.Graph.{Graph, Closed}
use Rattle.graphs.specs.Events.{event, label, advance_tree, retreat_tree, scan, traverse, History, ◌▸◌, known}
use Rattle.graphs.specs.Search.{recorder, cross, walk_edges, search, depth_first, Front, arrive, traverse_one, traverse_all, drain, breadth_first}

pub record Agreeing (A G : Graph) : Type 0 where
  pub size : A.size ≡ G.size
  pub lists : (u : ℕ) → Vertex A.size u → A.out u ≡ G.out u
  pub targets : (u r : ℕ) → Vertex A.size u → Mem r (A.out u) → A.to r ≡ G.to r
  pub closed : Closed A

module _ {A G : Graph} (N : Agreeing A G) (before : List ℕ) where
  -- ---- depth-first
  abbrev Searched : ℕ → Type 0
  Searched k = (u : ℕ) (h : History) → Vertex A.size u → search (recorder before) A k u h ≡ search (recorder before) G k u h

  module _ (k : ℕ) (s : Searched k) (u : ℕ) (hu : Vertex A.size u) where
    cross-same : (r : ℕ) → Mem r (A.out u) → (b : Bool) (h : History)
        → cross (recorder before) A (search (recorder before) A k) u r b h ≡ cross (recorder before) G (search (recorder before) G k) u r b h
    cross-same r m true h = refl
    cross-same r m false h =
        ap (λ (i : History). i ▸ event retreat_tree r u)
        (s (A.to r) (h ▸ event advance_tree r u) (N.closed u r hu m) ∙ ap (λ (x : ℕ). search (recorder before) G k x (h ▸ event advance_tree r u)) (N.targets u r hu m))

    walk_same : (rs : List ℕ) → ((r : ℕ) → Mem r rs → Mem r (A.out u)) → (h : History)
        → walk_edges (recorder before) A (search (recorder before) A k) u rs h ≡ walk_edges (recorder before) G (search (recorder before) G k) u rs h
    unfolding walk_edges
    walk_same [] sub h = refl
    walk_same (r ∷ rs) sub h =
        let m = sub r (here refl) in
        walk_same rs (λ x q. sub x (there q)) (cross (recorder before) A (search (recorder before) A k) u r (memb (A.to r) (known before h)) h)
        ∙ ap (walk_edges (recorder before) G (search (recorder before) G k) u rs)
        (cross-same r m (memb (A.to r) (known before h)) h
        ∙ ap (λ (x : ℕ). cross (recorder before) G (search (recorder before) G k) u r (memb x (known before h)) h) (N.targets u r hu m))

  search-same : (k : ℕ) → Searched k
  unfolding search
  search-same zero u h hu = refl
  search-same (suc k) u h hu =
      ap (λ (i : History). i ▸ event scan 0 u)
      (walk_same k (search-same k) u hu (A.out u) (λ r m. m) (h ▸ event label 0 u)
      ∙ ap (λ (rs : List ℕ). walk_edges (recorder before) G (search (recorder before) G k) u rs (h ▸ event label 0 u)) (N.lists u hu))

  pub depth_same : (start : ℕ) → Vertex A.size start → depth_first A before start ≡ depth_first G before start
  unfolding depth_first
  depth_same start hs = search-same A.size start [] hs ∙ ap (λ (k : ℕ). search (recorder before) G k start []) N.size

  -- ---- breadth-first
  -- What waits in the queue are vertices.
  abbrev Vertices : List ℕ → Type 0
  Vertices q = (x : ℕ) → Mem x q → Vertex A.size x

  module _ (v : ℕ) (hv : Vertex A.size v) where
    traverse-same : (rs : List ℕ) → ((r : ℕ) → Mem r rs → Mem r (A.out v)) → (f : Front History) → traverse_all (recorder before) A v rs f ≡ traverse_all (recorder before) G v rs f
    unfolding traverse_all
    traverse-same [] sub f = refl
    traverse-same (r ∷ rs) sub f =
        let moved : Front History = record { queue = f.queue; state = f.state ▸ event traverse r v } in
        traverse-same rs (λ x q. sub x (there q)) (traverse_one (recorder before) A v r f)
        ∙ ap (λ (x : ℕ). traverse_all (recorder before) G v rs (arrive (recorder before) x (memb x (known before f.state)) (record { queue = f.queue; state = f.state ▸ event traverse r v }))) (N.targets v r hv (sub r (here refl)))

    arrive-vertices : (x : ℕ) → Vertex A.size x → (b : Bool) (f : Front History) → Vertices f.queue → Vertices (arrive (recorder before) x b f).queue
    arrive-vertices x hx true f q = q
    arrive-vertices x hx false f q = λ y m. go y (mem-append f.queue (x ∷ []) m)
      where
        go : (y : ℕ) → Mem y f.queue ⊎ Mem y (x ∷ []) → Vertex A.size y
        go y (inl m) = q y m
        go y (inr m) = subst (Vertex A.size) (sym (mem-one m)) hx

    traverse-vertices : (rs : List ℕ) → ((r : ℕ) → Mem r rs → Mem r (A.out v)) → (f : Front History) → Vertices f.queue
        → Vertices (traverse_all (recorder before) A v rs f).queue
    unfolding traverse_all
    traverse-vertices [] sub f q = q
    traverse-vertices (r ∷ rs) sub f q =
        traverse-vertices rs (λ x m. sub x (there m)) (traverse_one (recorder before) A v r f)
        (arrive-vertices (A.to r) (N.closed v r hv (sub r (here refl))) (memb (A.to r) (known before f.state)) (record { queue = f.queue; state = f.state ▸ event traverse r v }) q)

  drain-same : (k : ℕ) (q : List ℕ) (h : History) → Vertices q → drain (recorder before) A k q h ≡ drain (recorder before) G k q h
  unfolding drain
  drain-same zero q h z = refl
  drain-same (suc k) [] h z = refl
  drain-same (suc k) (v ∷ q) h z =
      let hv : Vertex A.size v = z v (here refl) in
      let f : Front History = record { queue = q; state = h } in
      drain-same k (traverse_all (recorder before) A v (A.out v) (record { queue = q; state = h })).queue ((traverse_all (recorder before) A v (A.out v) (record { queue = q; state = h })).state ▸ event scan 0 v)
      (traverse-vertices v hv (A.out v) (λ r m. m) (record { queue = q; state = h }) (λ x m. z x (there m)))
      ∙ ap (λ (t : Front History). drain (recorder before) G k t.queue (t.state ▸ event scan 0 v))
      (traverse-same v hv (A.out v) (λ r m. m) (record { queue = q; state = h }) ∙ ap (λ (rs : List ℕ). traverse_all (recorder before) G v rs (record { queue = q; state = h })) (N.lists v hv))

  pub breadth-same : (start : ℕ) → Vertex A.size start → breadth_first A before start ≡ breadth_first G before start
  unfolding breadth_first
  breadth-same start hs =
      drain-same A.size (start ∷ []) ([] ▸ event label 0 start) (each-cons (Vertex A.size) start [] hs (λ x m. absurd (mem-nil m)))
      ∙ ap (λ (k : ℕ). drain (recorder before) G k (start ∷ []) ([] ▸ event label 0 start)) N.size
