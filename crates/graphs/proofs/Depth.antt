-- The depth-first claim: the relation has one outcome, the executable search; it labels and scans what a path leads to, each once.
-- The executable search satisfies the relation by recursion on its fuel; two derivations are compared step by step.
use Rattle.std.proofs.Common.{◌≡◌, refl, sym, ap, ◌∙◌, subst, ◌⊎◌, inl, inr, Bool, true, false, List, [], ◌∷◌, ℕ, zero, suc, ◌+◌, ◌*◌, ◌≤◌, arith, length, eqb}
use Rattle.lists.specs.Members.{Mem, memb}
use Rattle.lists.specs.Counts.{bump, count_in, sum_of}
use Rattle.lists.proofs.Members.{mem-nil, each-cons, mem-left, mem-append, memb-true, memb-false, nodup-left, nodup-apart}
use Rattle.lists.proofs.Counts.{count-sum, sum_same}
use Rattle.graphs.specs.Graph.{Graph, Closed, Leads, stays, Reached, met}
use Rattle.graphs.specs.Events.{event, label, advance_tree, retreat_tree, scan, traverse, History, ◌▸◌, known, labelled, scanned, traversed, count}
use Rattle.graphs.specs.Depth.{Searches, searches, Traverses, none, tree, nontree, DepthFirst}
use Rattle.graphs.specs.Search.{recorder, cross, walk_edges, search, depth_first}
use Rattle.graphs.specs.Claims.{Ready, DepthClaim, DepthFirstClaim}
use Rattle.graphs.proofs.Labels.{Labels, Done, reached-counts, reached-exactly}
use Rattle.graphs.proofs.Follow.{Keeps, follow-search}
use Rattle.graphs.proofs.DepthGrowth.{Can, CanWalk, can-walk, can-cross, no_fuel, Labelled, search-labels, search-same, next-walk}
use Rattle.graphs.proofs.DepthCounts.{depth-balance}

-- ---- one outcome
module _ {G : Graph} {before : List ℕ} where
  after-search : {u : ℕ} {h i j : History} → Searches G before u h j → ((k : History) → Traverses G before u (G.out u) (h ▸ event label 0 u) k → i ≡ k) → (i ▸ event scan 0 u) ≡ j
  after-search (searches {u} b) one = ap (λ (z : History). z ▸ event scan 0 u) (one _ b)

  mutual
    pub one-search : {u : ℕ} {h i j : History} → Searches G before u h i → Searches G before u h j → i ≡ j
    one-search (searches a) d = after-search d (λ k b. one-walk a b)

    one-walk : {u : ℕ} {rs : List ℕ} {h i j : History} → Traverses G before u rs h i → Traverses G before u rs h j → i ≡ j
    one-walk none none = refl
    one-walk (tree n a b) (tree {u} {r} {rs} {j = k} m c d) = one-walk b (subst (λ (z : History). Traverses G before u rs (z ▸ event retreat_tree r u) k) (sym (one-search a c)) d)
    one-walk (tree n a b) (nontree m c) = absurd (n m)
    one-walk (nontree m a) (tree n c d) = absurd (n m)
    one-walk (nontree m a) (nontree n c) = one-walk a c

-- ---- the executable search satisfies the relation
module _ (G : Graph) (before : List ℕ) (C : Closed G) where
  abbrev Satisfies : ℕ → Type 0
  Satisfies k = (u : ℕ) (h : History) → Can G before C k u h → Searches G before u h (search (recorder before) G k u h)

  walk-relates : (k : ℕ) → Satisfies k → (u : ℕ) (rs : List ℕ) (h : History) → CanWalk G before C k rs h → Traverses G before u rs h (walk_edges (recorder before) G (search (recorder before) G k) u rs h)
  unfolding walk_edges
  walk-relates k s u [] h c = none
  walk-relates k s u (r ∷ rs) h c = go (memb (G.to r) (known before h)) refl (walk-relates k s u rs (cross (recorder before) G (search (recorder before) G k) u r (memb (G.to r) (known before h)) h) (next-walk G before C k u r rs h c))
    where
      crossed : Bool → History
      crossed b = cross (recorder before) G (search (recorder before) G k) u r b h

      go : (b : Bool) → memb (G.to r) (known before h) ≡ b → Traverses G before u rs (crossed b) (walk_edges (recorder before) G (search (recorder before) G k) u rs (crossed b)) → Traverses G before u (r ∷ rs) h (walk_edges (recorder before) G (search (recorder before) G k) u rs (crossed b))
      go true e t = nontree (memb-true (G.to r) (known before h) e) t
      go false e t = tree (memb-false (G.to r) (known before h) e) (s (G.to r) (h ▸ event advance_tree r u) (can-cross G before C k u r rs h c e)) t

  search-relates : (k : ℕ) → Satisfies k
  unfolding search
  search-relates zero u h c = no_fuel G before C u h c
  search-relates (suc k) u h c = searches (walk-relates k (search-relates k) u (G.out u) (h ▸ event label 0 u) (can-walk G before C k u h c))

-- ---- only what a path leads to
abbrev OnlyReached : Graph → List ℕ → ℕ → History → Type 0
OnlyReached G before start h = (x : ℕ) → Mem x (labelled h) → Leads G before start x

only-reached : (G : Graph) (before : List ℕ) (start : ℕ) → Keeps G before start (OnlyReached G before start)
only-reached G before start = record { labels = λ u h l a. each-cons (Leads G before start) u (labelled h) l a; advances = λ u r h l n a. a; retreats = λ u r h a. a; passes = λ u r h a. a; scans = λ u h a. a }

-- ---- labels, scans and tree advances
-- From h to i as many vertices were labelled as tree edges were advanced along, or so many more; each was scanned.
record Paired (more : ℕ) (h i : History) : Type 0 where
  labels : count label i + count advance_tree h ≡ more + (count label h + count advance_tree i)
  scans : count scan i + count label h ≡ count scan h + count label i
  still : count traverse i ≡ count traverse h

module _ (G : Graph) (before : List ℕ) where
  mutual
    search-pairs : {u : ℕ} {h i : History} → Searches G before u h i → Paired 1 h i
    search-pairs (searches t) = let p = traverse-pairs t in omega arith

    traverse-pairs : {u : ℕ} {rs : List ℕ} {h i : History} → Traverses G before u rs h i → Paired 0 h i
    traverse-pairs none = omega arith
    traverse-pairs (tree n s t) = let p = search-pairs s in let q = traverse-pairs t in omega arith
    traverse-pairs (nontree m t) = let q = traverse-pairs t in omega arith

-- ---- the claim
module _ (G : Graph) (before : List ℕ) (start : ℕ) (R : Ready G before start) where
  -- All events.
  abbrev whole : History
  whole = depth_first G before start

  can : Can G before R.closed G.size start []
  can = record { vertex = R.start_vertex; fresh = R.start_fresh; labels = record { once = R.once; all = R.vertices }; enough = omega arith }

  pub depth-relates : DepthFirst G before start whole
  unfolding depth_first
  depth-relates = search-relates G before R.closed G.size start [] can

  grown : Labelled G before R.closed start [] whole
  unfolding depth_first
  grown = search-labels G before R.closed G.size start [] can

  pub depth-labels : Labels G.size (known before whole)
  depth-labels = grown.grown.labels

  -- What was labelled has all its edges' targets labelled, and so has the start.
  depth-done : (x : ℕ) → Mem x (labelled whole) → Done G (known before whole) x
  depth-done x m = go (grown.grown.closes x (mem-left before m))
    where
      go : Mem x before ⊎ Done G (known before whole) x → Done G (known before whole) x
      go (inl q) = absurd (nodup-apart (labelled whole) before depth-labels.once x m q)
      go (inr d) = d

  depth-start : Mem start (labelled whole)
  depth-start = go (mem-append (labelled whole) before grown.self)
    where
      go : Mem start (labelled whole) ⊎ Mem start before → Mem start (labelled whole)
      go (inl m) = m
      go (inr m) = absurd (R.start_fresh m)

  pub depth-reached : Reached G before start (labelled whole)
  depth-reached =
      reached-exactly G before start (labelled whole) depth-start depth-done
      (nodup-left (labelled whole) before depth-labels.once)
      (follow-search (only-reached G before start) depth-relates (stays refl) (λ x m. absurd (mem-nil m)))

  -- For any weight, what is scanned weighs what is labelled, so it is the same.
  pub depth-scanned : Reached G before start (scanned whole)
  depth-scanned = reached-counts G before start (labelled whole) (scanned whole) (λ x. weight x) depth-reached
    where
      weight : (x : ℕ) → count_in x (scanned whole) ≡ count_in x (labelled whole)
      weight x =
          let b = depth-balance G before (λ y. bump (eqb x y) 0) (λ y. 0) start in
          let c : sum_of (λ y. bump (eqb x y) 0) (scanned whole) ≡ sum_of (λ y. bump (eqb x y) 0) (labelled whole) = omega (arith, b.scans) in
          count-sum x (scanned whole) ∙ c ∙ sym (count-sum x (labelled whole))

  depth-edges : (r : ℕ) → count_in r (traversed whole) ≡ sum_of (λ u. count_in r (G.out u)) (labelled whole)
  depth-edges r =
      let b = depth-balance G before (λ y. 0) (λ y. bump (eqb r y) 0) start in
      let c : sum_of (λ y. bump (eqb r y) 0) (traversed whole) ≡ sum_of (λ u. sum_of (λ y. bump (eqb r y) 0) (G.out u)) (labelled whole) = omega (arith, b.edges) in
      count-sum r (traversed whole) ∙ c ∙ sum_same (λ u. sum_of (λ y. bump (eqb r y) 0) (G.out u)) (λ u. count_in r (G.out u)) (λ u. sym (count-sum r (G.out u))) (labelled whole)

  depth-fuel : (k : ℕ) → G.size ≤ k → search (recorder before) G k start [] ≡ whole
  unfolding depth_first
  depth-fuel k h = search-same G before R.closed k G.size start [] (record { vertex = can.vertex; fresh = can.fresh; labels = can.labels; enough = omega arith }) can

  pub depth-claim : DepthClaim G before start whole
  depth-claim =
      let b = depth-balance G before (λ y. 0) (λ y. 0) start in
      let p = search-pairs G before depth-relates in
      record {
        one = λ h. (λ d. one-search d depth-relates, λ e. subst (DepthFirst G before start) (sym e) depth-relates);
        fuel = depth-fuel;
        complete = record { labels = depth-reached; scans = depth-scanned; edges = depth-edges };
        advances = omega (arith, b.advances);
        tree_pairs = omega (arith, b.trees);
        nontree_pairs = omega (arith, b.nontrees);
        tree_labels = omega (arith, p.labels);
        label_scans = omega (arith, p.scans);
        no_traverses = p.still;
      }

  pub depth-length : length whole ≡ 2 * (met G (labelled whole) + length (labelled whole))
  depth-length = omega (arith, (depth-balance G before (λ y. 0) (λ y. 0) start).size)

pub depth-first : DepthFirstClaim
depth-first = depth-claim
