-- What a search does with vertices labelled beforehand: no event names one, and every edge to one is nontree.
-- Along the derivation: a vertex is searched only where it was not labelled.
use Rattle.std.proofs.Common.{◌≡◌, refl, sym, ap, ◌∙◌, subst, inl, inr, ◌⊎◌, Bool, true, false, List, [], ◌∷◌, reverse, ℕ, suc, arith, eqb, ne_eqb}
use Rattle.lists.specs.Members.{Mem, here, cons_if, without}
use Rattle.lists.specs.Counts.{bump, count_in}
use Rattle.lists.proofs.Tests.{clash}
use Rattle.lists.proofs.Members.{mem-nil, mem-cons, mem-right, mem-reverse, without-mem}
use Rattle.graphs.specs.Graph.{Graph, Leads, stays, along}
use Rattle.graphs.specs.Events.{Kind, event, label, advance_tree, advance_nontree, retreat_tree, retreat_nontree, scan, traverse, History, ◌▸◌, named, edges_by, same, labelled, scanned, traversed, count}
use Rattle.graphs.specs.Depth.{Searches, searches, Traverses, none, tree, nontree}
use Rattle.graphs.specs.Breadth as breadth
use Rattle.graphs.specs.Search.{depth_first, breadth_first}
use Rattle.graphs.specs.Claims.{Unnamed, UntouchedClaim}
use Rattle.graphs.proofs.Depth.{depth-relates, depth-first}
use Rattle.graphs.proofs.Breadth.{breadth-first}
use Rattle.graphs.proofs.Trees.{AllTrees, parent-none, increment-none}

module _ (G : Graph) (before : List ℕ) where
  off-more : (j : Kind) (r u : ℕ) (h : History) → (Mem u before → ⊥) → Unnamed before h → Unnamed before (h ▸ event j r u)
  off-more j r u h off o k x m = go (same k j)
    where
      first : (x ≡ u) ⊎ Mem x (named k h) → ⊥
      first (inl e) = off (subst (λ (y : ℕ). Mem y before) e m)
      first (inr i) = o k x m i

      go : (b : Bool) → Mem x (cons_if b u (named k h)) → ⊥
      go true i = first (mem-cons i)
      go false i = o k x m i

  -- ---- depth-first
  -- No tree edge leads to one either.
  record Passed (h : History) : Type 0 where
    off : Unnamed before h
    trees : AllTrees (λ r u. Mem (G.to r) before → ⊥) h

  passed-more : (j : Kind) (r u : ℕ) (h : History) → (Mem u before → ⊥) → (same j advance_tree ≡ true → Mem (G.to r) before → ⊥) → Passed h → Passed (h ▸ event j r u)
  passed-more j r u h off t P = record { off = off-more j r u h off P.off; trees = (t, P.trees) }

  mutual
    search-passed : {u : ℕ} {h i : History} → Searches G before u h i → (Mem u before → ⊥) → Passed h → Passed i
    search-passed (searches {u} {h} {i} t) off P = passed-more scan 0 u i off (λ e. clash (sym e)) (walk-passed t off (passed-more label 0 u h off (λ e. clash (sym e)) P))

    walk-passed : {u : ℕ} {rs : List ℕ} {h i : History} → Traverses G before u rs h i → (Mem u before → ⊥) → Passed h → Passed i
    walk-passed none off P = P
    walk-passed (tree {u} {r} {rs} {h} {i} n s t) off P =
        let to : Mem (G.to r) before → ⊥ = λ m. n (mem-right (labelled h) m) in
        walk-passed t off (passed-more retreat_tree r u i off (λ e. clash (sym e)) (search-passed s to (passed-more advance_tree r u h off (λ e. to) P)))
    walk-passed (nontree {u} {r} {rs} {h} m t) off P =
        walk-passed t off (passed-more retreat_nontree r u (h ▸ event advance_nontree r u) off (λ e. clash (sym e)) (passed-more advance_nontree r u h off (λ e. clash (sym e)) P))

  -- Where no tree edge leads to one and nothing is traversed breadth-first, every edge to one is nontree.
  nontree-all : (r : ℕ) → Mem (G.to r) before → (h : History) → AllTrees (λ q u. Mem (G.to q) before → ⊥) h → count traverse h ≡ 0 → count_in r (edges_by advance_nontree h) ≡ count_in r (traversed h)
  nontree-all r m [] a z = refl
  nontree-all r m (event label q u ∷ h) a z = nontree-all r m h a.1 z
  nontree-all r m (event advance_tree q u ∷ h) a z =
      nontree-all r m h a.1 z ∙ sym (ap (λ (b : Bool). bump b (count_in r (traversed h))) (ne_eqb r q (λ e. a.0 refl (subst (λ (x : ℕ). Mem (G.to x) before) e m))))
  nontree-all r m (event advance_nontree q u ∷ h) a z = ap (bump (eqb r q)) (nontree-all r m h a.1 z)
  nontree-all r m (event retreat_nontree q u ∷ h) a z = nontree-all r m h a.1 z
  nontree-all r m (event retreat_tree q u ∷ h) a z = nontree-all r m h a.1 z
  nontree-all r m (event scan q u ∷ h) a z = nontree-all r m h a.1 z
  nontree-all r m (event traverse q u ∷ h) a z = absurd (let k : suc (count traverse h) ≡ 0 = z in omega arith)

  -- ---- breadth-first
  edges-off : {v : ℕ} {rs : List ℕ} {h i : History} → breadth.Traverses G before v rs h i → (Mem v before → ⊥) → Unnamed before h → Unnamed before i
  edges-off breadth.none off o = o
  edges-off (breadth.labels {v} {r} {rs} {h} n t) off o = edges-off t off (off-more label 0 (G.to r) (h ▸ event traverse r v) (λ m. n (mem-right (labelled h) m)) (off-more traverse r v h off o))
  edges-off (breadth.passes {v} {r} {rs} {h} m t) off o = edges-off t off (off-more traverse r v h off o)

  scans-off : {h i : History} → breadth.Scans G before h i → Unnamed before h → Unnamed before i
  scans-off (breadth.done e) o = o
  scans-off (breadth.next {v} {vs} {h} {i} e t s) o =
      let w : Mem v (without (scanned h) (reverse (labelled h))) = subst (Mem v) (sym e) (here refl) in
      let off : Mem v before → ⊥ = λ m. o label v m ((mem-reverse (labelled h) v).0 (without-mem (scanned h) (reverse (labelled h)) w).0) in
      scans-off s (off-more scan 0 v i off (edges-off t off o))

-- A path leads to no vertex labelled beforehand.
leads-off : (G : Graph) (before : List ℕ) (start : ℕ) → (Mem start before → ⊥) → {x : ℕ} → Leads G before start x → Mem x before → ⊥
leads-off G before start off (stays e) m = off (subst (λ (y : ℕ). Mem y before) e m)
leads-off G before start off (along r l i e n) m = n m

pub untouched : UntouchedClaim
untouched G before start R =
    let P = search-passed G before (depth-relates G before start R) R.start_fresh (record { off = λ k x m i. mem-nil i; trees = tt }) in (
      record {
        no_event = P.off;
        nontree = λ r m. nontree-all G before r m (depth_first G before start) P.trees (depth-first G before start R).no_traverses;
        parent = λ x m. parent-none G before start R x (λ l. absurd (leads-off G before start R.start_fresh l m));
        increment = λ x m. increment-none G before start R x (λ l. leads-off G before start R.start_fresh l m);
      },
      scans-off G before (((breadth-first G before start R).one (breadth_first G before start)).1 refl) (off-more G before label 0 start [] R.start_fresh (λ k x m i. mem-nil i)),
    )
