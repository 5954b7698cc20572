-- Circular by the events of a depth-first search is circular by paths.
-- What is labelled and not yet scanned has a path to the vertex being scanned, so a reference met that leads there closes a circle. Where
-- none was met, each vertex is scanned after all that its edges lead to, and there is no circle.
use Rattle.std.proofs.Common.{◌≡◌, refl, sym, ap, ◌∙◌, subst, ◌⊎◌, inl, inr, Bool, true, false, cond, not, ◌&&◌, List, [], ◌∷◌, ◌++◌, ℕ, zero, suc, ◌≤◌, arith}
use Rattle.lists.specs.Members.{Mem, here, there, memb, NoDup}
use Rattle.lists.proofs.Tests.{clash, both}
use Rattle.lists.proofs.Members.{mem-nil, mem-cons, each-cons, mem-left, mem-right, mem-append, memb-true, mem-memb, memb-of-not}
use Rattle.graphs.specs.Graph.{Graph, Leads, stays, along}
use Rattle.graphs.specs.Events.{event, advance_tree, advance_nontree, retreat_nontree, History, ◌▸◌, labelled, scanned}
use Rattle.graphs.specs.Depth.{Searches, searches, Traverses, none, tree, nontree}
use Rattle.graphs.specs.Circles.{Returns, returns, Circular, active, meets_active, circular_of}
use Rattle.graphs.specs.Search.{depth_first}
use Rattle.graphs.specs.Claims.{Ready, CircularClaim}
use Rattle.graphs.proofs.Depth.{depth-relates, depth-scanned}

-- ---- labelled and not yet scanned
pub record Active (x : ℕ) (h : History) : Type 0 where
  pub labels : Mem x (labelled h)
  pub unscanned : Mem x (scanned h) → ⊥

active-is : (x : ℕ) (h : History) → active x h ≡ true → Active x h
active-is x h e =
    let p = both (memb x (labelled h)) (not (memb x (scanned h))) e in
    record { labels = memb-true x (labelled h) p.0; unscanned = λ m. clash (sym p.1 ∙ ap not (mem-memb m)) }

-- Labelled and no longer active: scanned.
inactive : (x : ℕ) (h : History) → active x h ≡ false → Mem x (labelled h) → Mem x (scanned h)
inactive x h e m = go (memb x (scanned h)) refl
  where
    go : (b : Bool) → memb x (scanned h) ≡ b → Mem x (scanned h)
    go true q = memb-true x (scanned h) q
    go false q = clash (sym (λ i. mem-memb m i && not (q i)) ∙ e)

-- ---- the figure is 0 or 1
cond-bit : (b : Bool) (k : ℕ) → k ≤ 1 → cond b 1 k ≤ 1
cond-bit true k h = omega arith
cond-bit false k h = h

pub circular-bit : (G : Graph) (h : History) → circular_of G h ≤ 1
circular-bit G [] = omega arith
circular-bit G (event k r u ∷ h) = cond-bit (meets_active G k r h) (circular_of G h) (circular-bit G h)

-- A tree reference leaves it.
pub circular-tree : (G : Graph) (r u : ℕ) (h : History) → (Mem (G.to r) (labelled h) → ⊥) → circular_of G (h ▸ event advance_tree r u) ≡ circular_of G h
circular-tree G r u h n = rw (memb-of-not (G.to r) (labelled h) n)

-- Where it is 0 now, it was 0 before, and the reference met leads to no active vertex.
cond-none : (b : Bool) (k : ℕ) → cond b 1 k ≡ 0 → (b ≡ false) × (k ≡ 0)
cond-none true k e = absurd (let z : ◌≡◌ {A = ℕ} 1 0 = e in omega arith)
cond-none false k e = (refl, e)

-- ---- a reference met that leads to an active vertex closes a circle
-- What a search leaves active was active.
module _ {G : Graph} {before : List ℕ} where
  mutual
    search-active : {u : ℕ} {h i : History} → Searches G before u h i → (x : ℕ) → Active x i → Active x h
    search-active (searches {u} {h} {i} t) x a =
        let b = walk-active t x (record { labels = a.labels; unscanned = λ m. a.unscanned (there m) }) in
        go (mem-cons b.labels) b.unscanned
      where
        go : (x ≡ u) ⊎ Mem x (labelled h) → (Mem x (scanned h) → ⊥) → Active x h
        go (inl e) n = absurd (a.unscanned (here e))
        go (inr m) n = record { labels = m; unscanned = n }

    walk-active : {u : ℕ} {rs : List ℕ} {h i : History} → Traverses G before u rs h i → (x : ℕ) → Active x i → Active x h
    walk-active none x a = a
    walk-active (tree n s t) x a =
        let b = walk-active t x a in
        let c = search-active s x (record { labels = b.labels; unscanned = b.unscanned }) in
        record { labels = c.labels; unscanned = c.unscanned }
    walk-active (nontree m t) x a = let b = walk-active t x a in record { labels = b.labels; unscanned = b.unscanned }

module _ (G : Graph) (before : List ℕ) (start : ℕ) where
  -- x is reached, is not one of those before, and has a path to u.
  abbrev Behind : ℕ → ℕ → Type 0
  Behind u x = Leads G before start x × (Mem x before → ⊥) × Leads G before x u

  -- While u is being scanned, every active vertex is behind it.
  abbrev Trail : ℕ → History → Type 0
  Trail u h = (x : ℕ) → Active x h → Behind u x

  -- The figure tells of a circle.
  abbrev Tells : History → Type 0
  Tells h = circular_of G h ≡ 1 → Circular G before start

  -- One nontree reference more.
  met-tells : (u r : ℕ) (h : History) → Mem r (G.out u) → Trail u h → Tells h → (b : Bool) → active (G.to r) h ≡ b → cond b 1 (circular_of G h) ≡ 1 → Circular G before start
  met-tells u r h m T p true e q =
      let t = T (G.to r) (active-is (G.to r) h e) in
      record { vertex = G.to r; reached = t.0; back = returns r t.2 m refl t.1 }
  met-tells u r h m T p false e q = p q

  mutual
    search-tells : {u : ℕ} {h i : History} → Searches G before u h i → Leads G before start u → (Mem u before → ⊥) → Trail u h → Tells h → Tells i
    search-tells (searches {u} {h} {i} t) l off T p = walk-tells t l (λ r m. m) (λ x a. go x a.unscanned (mem-cons a.labels)) p
      where
        go : (x : ℕ) → (Mem x (scanned h) → ⊥) → (x ≡ u) ⊎ Mem x (labelled h) → Behind u x
        go x n (inl e) = (subst (Leads G before start) (sym e) l, λ m. off (subst (λ (y : ℕ). Mem y before) e m), stays (sym e))
        go x n (inr m) = T x (record { labels = m; unscanned = n })

    walk-tells : {u : ℕ} {rs : List ℕ} {h i : History} → Traverses G before u rs h i → Leads G before start u → ((r : ℕ) → Mem r rs → Mem r (G.out u)) → Trail u h → Tells h → Tells i
    walk-tells none l sub T p = p
    walk-tells (tree {u} {r} {rs} {h} {i} n s t) l sub T p =
        let off : Mem (G.to r) before → ⊥ = λ m. n (mem-right (labelled h) m) in
        let to : Leads G before start (G.to r) = along r l (sub r (here refl)) refl off in
        walk-tells t l (λ x m. sub x (there m)) (λ x a. back x (search-active s x (record { labels = a.labels; unscanned = a.unscanned })))
        (search-tells s to off (λ x a. ahead off x (back x a)) (λ e. p (sym (circular-tree G r u h (λ m. n (mem-left before m))) ∙ e)))
      where
        back : (x : ℕ) → Active x (h ▸ event advance_tree r u) → Behind u x
        back x a = T x (record { labels = a.labels; unscanned = a.unscanned })

        ahead : (Mem (G.to r) before → ⊥) → (x : ℕ) → Behind u x → Behind (G.to r) x
        ahead off x q = (q.0, q.1, along r q.2 (sub r (here refl)) refl off)
    walk-tells (nontree {u} {r} {rs} {h} m t) l sub T p =
        walk-tells t l (λ x q. sub x (there q)) (λ x a. T x (record { labels = a.labels; unscanned = a.unscanned }))
        (λ e. met-tells u r h (sub r (here refl)) T p (active (G.to r) h) refl e)

-- ---- where none was met, the order of scans is an order of the graph
module _ (G : Graph) (before : List ℕ) where
  -- Each vertex stands before all that its edges lead to, those of `before` apart.
  abbrev Ordered : List ℕ → Type 0
  Ordered [] = Unit {0}
  Ordered (w ∷ l) = ((r : ℕ) → Mem r (G.out w) → Mem (G.to r) (l ++ before)) × Ordered l

  -- An edge out of the list leads into it or off.
  ordered-closes : (l : List ℕ) → Ordered l → (x r : ℕ) → Mem x l → Mem r (G.out x) → Mem (G.to r) (l ++ before)
  ordered-closes [] o x r m q = absurd (mem-nil m)
  ordered-closes (w ∷ l) o x r m q = go (mem-cons m) (λ k. ordered-closes l o.1 x r k q)
    where
      go : (x ≡ w) ⊎ Mem x l → (Mem x l → Mem (G.to r) (l ++ before)) → Mem (G.to r) (w ∷ (l ++ before))
      go (inl e) ih = there (o.0 r (subst (λ (y : ℕ). Mem r (G.out y)) e q))
      go (inr k) ih = there (ih k)

  -- Off those before, so in the list.
  in_list : (l : List ℕ) (x : ℕ) → (Mem x before → ⊥) → Mem x (l ++ before) → Mem x l
  in_list l x off m = go (mem-append l before m)
    where
      go : Mem x l ⊎ Mem x before → Mem x l
      go (inl q) = q
      go (inr q) = absurd (off q)

  -- A path from the first of the list stays there, or goes into the rest and stays in it.
  leads-into : (w : ℕ) (l : List ℕ) → Ordered (w ∷ l) → {v : ℕ} → Leads G before w v → (v ≡ w) ⊎ Mem v l
  leads-into w l o (stays e) = inl e
  leads-into w l o (along {v} {x} r p m e off) = go (leads-into w l o p)
    where
      go : (v ≡ w) ⊎ Mem v l → (x ≡ w) ⊎ Mem x l
      go (inl q) = inr (in_list l x off (subst (λ (y : ℕ). Mem y (l ++ before)) e (o.0 r (subst (λ (y : ℕ). Mem r (G.out y)) q m))))
      go (inr q) = inr (in_list l x off (subst (λ (y : ℕ). Mem y (l ++ before)) e (ordered-closes l o.1 v r q m)))

  -- So no path leads back.
  none-returns : (l : List ℕ) → NoDup l → Ordered l → (x : ℕ) → Mem x l → Returns G before x → ⊥
  none-returns [] nd o x m q = mem-nil m
  none-returns (w ∷ l) nd o x m q = go (mem-cons m) (λ k. none-returns l nd.1 o.1 x k q)
    where
      first : Returns G before w → ⊥
      first (returns {v} r p k e off) = at (leads-into w l o p)
        where
          at : (v ≡ w) ⊎ Mem v l → ⊥
          at (inl z) = nd.0 (in_list l w off (subst (λ (y : ℕ). Mem y (l ++ before)) e (o.0 r (subst (λ (y : ℕ). Mem r (G.out y)) z k))))
          at (inr z) = nd.0 (in_list l w off (subst (λ (y : ℕ). Mem y (l ++ before)) e (ordered-closes l o.1 v r z k)))

      go : (x ≡ w) ⊎ Mem x l → (Mem x l → ⊥) → ⊥
      go (inl e) ih = first (subst (Returns G before) e q)
      go (inr k) ih = ih k

  -- The figure only rises, and scans only grow.
  record Later (h i : History) : Type 0 where
    calm : circular_of G i ≡ 0 → circular_of G h ≡ 0
    scans : (x : ℕ) → Mem x (scanned h) → Mem x (scanned i)

  mutual
    search-later : {u : ℕ} {h i : History} → Searches G before u h i → Later h i
    search-later (searches t) = let a = walk-later t in record { calm = a.calm; scans = λ x m. there (a.scans x m) }

    walk-later : {u : ℕ} {rs : List ℕ} {h i : History} → Traverses G before u rs h i → Later h i
    walk-later none = record { calm = λ e. e; scans = λ x m. m }
    walk-later (tree {u} {r} {rs} {h} n s t) =
        let a = search-later s in
        let b = walk-later t in
        record { calm = λ e. (cond-none (active (G.to r) h) (circular_of G h) (a.calm (b.calm e))).1; scans = λ x m. b.scans x (a.scans x m) }
    walk-later (nontree {u} {r} {rs} {h} m t) = let b = walk-later t in record { calm = λ e. (cond-none (active (G.to r) h) (circular_of G h) (b.calm e)).1; scans = λ x q. b.scans x q }

  mutual
    search-orders : {u : ℕ} {h i : History} → Searches G before u h i → circular_of G i ≡ 0 → Ordered (scanned h) → Ordered (scanned i) × Mem u (scanned i)
    search-orders (searches {u} t) e o = let a = walk-orders t e o in ((a.1, a.0), here refl)

    walk-orders : {u : ℕ} {rs : List ℕ} {h i : History} → Traverses G before u rs h i → circular_of G i ≡ 0
        → Ordered (scanned h) → Ordered (scanned i) × ((r : ℕ) → Mem r rs → Mem (G.to r) (scanned i ++ before))
    walk-orders none e o = (o, λ r m. absurd (mem-nil m))
    walk-orders (tree {u} {r} {rs} {h} {i} {j} n s t) e o =
        let L = walk-later t in
        let a = search-orders s (L.calm e) o in
        let b = walk-orders t e a.0 in
        (b.0, each-cons (λ x. Mem (G.to x) (scanned j ++ before)) r rs (mem-left before (L.scans (G.to r) a.1)) b.1)
    walk-orders (nontree {u} {r} {rs} {h} {i} m t) e o =
        let L = walk-later t in
        let b = walk-orders t e o in
        (b.0, each-cons (λ x. Mem (G.to x) (scanned i ++ before)) r rs (go L (mem-append (labelled h) before m)) b.1)
      where
        go : Later (h ▸ event advance_nontree r u ▸ event retreat_nontree r u) i → Mem (G.to r) (labelled h) ⊎ Mem (G.to r) before → Mem (G.to r) (scanned i ++ before)
        go L (inl k) = mem-left before (L.scans (G.to r) (inactive (G.to r) h (cond-none (active (G.to r) h) (circular_of G h) (L.calm e)).0 k))
        go L (inr k) = mem-right (scanned i) k

-- ---- the claim
module _ (G : Graph) (before : List ℕ) (start : ℕ) (R : Ready G before start) where
  abbrev whole : History
  whole = depth_first G before start

  tells : circular_of G whole ≡ 1 → Circular G before start
  tells = search-tells G before start (depth-relates G before start R) (stays refl) R.start_fresh (λ x a. absurd (mem-nil a.labels)) (λ e. absurd (let z : ◌≡◌ {A = ℕ} 0 1 = e in omega arith))

  -- Without such a reference no vertex reached has a way back.
  none-circular : circular_of G whole ≡ 0 → Circular G before start → ⊥
  none-circular e c =
      let E = depth-scanned G before start R in
      none-returns G before (scanned whole) E.once (search-orders G before (depth-relates G before start R) e tt).0 c.vertex ((E.exact c.vertex).1 c.reached) c.back

  told : Circular G before start → circular_of G whole ≡ 1
  told c = go (circular_of G whole) refl (circular-bit G whole)
    where
      go : (k : ℕ) → circular_of G whole ≡ k → k ≤ 1 → circular_of G whole ≡ 1
      go zero e h = absurd (none-circular e c)
      go (suc zero) e h = e
      go (suc (suc k)) e h = absurd (omega arith)

pub circular : CircularClaim
circular G before start R = ((tells G before start R, told G before start R), circular-bit G (depth_first G before start))
