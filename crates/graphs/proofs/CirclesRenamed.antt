-- The figure of a depth-first search does not change where edges get new numbers.
-- Each edge traversed stands on the list of a vertex, so its new number leads to the same vertex.
use Rattle.std.proofs.Common.{◌≡◌, refl, sym, ap, ◌∙◌, Bool, true, false, cond, not, ◌&&◌, List, [], ◌∷◌, ℕ, ◌≤◌, arith}
use Rattle.lists.specs.Members.{Mem, here, there, memb, cons_if}
use Rattle.lists.specs.Counts.{count_in, sum_of}
use Rattle.lists.proofs.Counts.{count-mem, mem-count, sum-some}
use Rattle.graphs.specs.Nodes.{Vertex}
use Rattle.graphs.specs.Graph.{Graph}
use Rattle.graphs.specs.Events.{event, label, scan, History, labelled, begins, traversed, rename, renamed}
use Rattle.graphs.specs.Search.{depth_first}
use Rattle.graphs.specs.Circles.{active, circular_of}
use Rattle.graphs.specs.Claims.{Ready}
use Rattle.graphs.proofs.Labels.{reached-labels}
use Rattle.graphs.proofs.Depth.{depth-first}
use Rattle.graphs.proofs.Renamed.{Renaming, named-renamed, rename-edge, depth-renamed}

-- Each edge that a search traverses stands on the list of a vertex.
traversed-out : (A : Graph) (before : List ℕ) (start : ℕ) → Ready A before start → (r : ℕ) → Mem r (traversed (depth_first A before start)) → (u : ℕ) × Vertex A.size u × Mem r (A.out u)
traversed-out A before start R r m =
    let h = depth_first A before start in
    let C = (depth-first A before start R).complete in
    let some : 1 ≤ sum_of (λ u. count_in r (A.out u)) (labelled h) = omega (arith, C.edges r, count-mem m) in
    let s = sum-some (λ u. count_in r (A.out u)) (labelled h) some in
    (s.0, (reached-labels A before start R (labelled h) C.labels).all s.0 s.1, mem-count r (A.out s.0) s.2)

module _ (A G : Graph) (f : ℕ → ℕ) where
  -- The new number of r leads where r leads.
  abbrev Kept : ℕ → Type 0
  Kept r = A.to r ≡ G.to (rename f r)

  -- So the figures are the same, event by event.
  circular-by : (h : History) → ((r : ℕ) → Mem r (traversed h) → Kept r) → circular_of G (renamed f h) ≡ circular_of A h
  circular-by [] a = refl
  circular-by (event k r u ∷ h) a = go (begins k) a (circular-by h)
    where
      go : (b : Bool) → ((x : ℕ) → Mem x (cons_if b r (traversed h)) → Kept x) → (((x : ℕ) → Mem x (traversed h) → Kept x) → circular_of G (renamed f h) ≡ circular_of A h)
          → cond (b && active (G.to (rename f r)) (renamed f h)) 1 (circular_of G (renamed f h)) ≡ cond (b && active (A.to r) h) 1 (circular_of A h)
      go true a ih =
          let x = sym (a r (here refl)) in
          let l = named-renamed f label h in
          let s = named-renamed f scan h in
          let c = ih (λ y m. a y (there m)) in
          λ i. cond (memb (x i) (l i) && not (memb (x i) (s i))) 1 (c i)
      go false a ih = ih a

-- The figure of two searches whose edges correspond.
pub circular-renamed : {A G : Graph} {f : ℕ → ℕ} → Renaming A G f → (before : List ℕ) (start : ℕ) → Ready A before start
    → circular_of A (depth_first A before start) ≡ circular_of G (depth_first G before start)
circular-renamed {A} {G} {f} N before start R = sym (circular-by A G f (depth_first A before start) kept) ∙ ap (circular_of G) (depth-renamed N before start R.start_vertex)
  where
    kept : (r : ℕ) → Mem r (traversed (depth_first A before start)) → Kept A G f r
    kept r m = let o = traversed-out A before start R r m in N.targets o.0 r o.1 o.2 ∙ ap G.to (sym (rename-edge f r (N.positive o.0 r o.1 o.2)))
