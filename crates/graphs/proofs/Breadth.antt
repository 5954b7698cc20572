-- The breadth-first claim: the relation has one outcome, the executable search; it is complete, and scans in the order of labelling.
-- What the queue holds is kept edge by edge until it is empty; two derivations are compared step by step; counts go along a derivation.
use Rattle.std.proofs.Common.{◌≡◌, refl, sym, ap, ◌∙◌, subst, subst₂, ◌⊎◌, inl, inr, Bool, true, false, List, [], ◌∷◌, ◌++◌, reverse, ℕ, zero, suc, ◌+◌, ◌*◌, ◌≤◌, arith, length, length-append}
use mathlib.Core.List.{reverse_aux, reverse_aux-eq, reverse_aux-append, reverse_aux-reverse_aux-nil}
use lib.ListN.{length-reverse_aux}
use Rattle.lists.specs.Members.{Mem, here, there, memb, NoDup, without}
use Rattle.lists.specs.Counts.{count_in, sum_of}
use Rattle.lists.proofs.Members.{mem-nil, each-cons, memb-true, memb-false, mem-left, mem-right, mem-rest, mem-reverse, split, nodup-left, without-none, without_all, without-append}
use Rattle.lists.proofs.Counts.{count-append}
use Rattle.graphs.specs.Nodes.{Vertex}
use Rattle.graphs.specs.Graph.{Graph, Closed, Leads, stays, along, Reached, met}
use Rattle.graphs.specs.Events.{event, label, scan, traverse, History, ◌▸◌, known, labelled, scanned, traversed, count}
use Rattle.graphs.specs.Breadth.{Traverses, none, labels, passes, Scans, done, next, BreadthFirst}
use Rattle.graphs.specs.Search.{recorder, Front, arrive, traverse_all, drain, breadth_first}
use Rattle.graphs.specs.Claims.{Ready, BreadthFirstClaim}
use Rattle.graphs.proofs.Labels.{Labels, label-ok, labels-few, Done, reached-exactly}

-- ---- one outcome
module _ {G : Graph} {before : List ℕ} where
  one-traverses : {v : ℕ} {rs : List ℕ} {h i j : History} → Traverses G before v rs h i → Traverses G before v rs h j → i ≡ j
  one-traverses none none = refl
  one-traverses (labels n a) (labels m b) = one-traverses a b
  one-traverses (labels n a) (passes m b) = absurd (n m)
  one-traverses (passes m a) (labels n b) = absurd (n m)
  one-traverses (passes m a) (passes n b) = one-traverses a b

  one-scans : {h i j : History} → Scans G before h i → Scans G before h j → i ≡ j
  one-scans (done p) (done q) = refl
  one-scans (done p) (next q b d) = cc
  one-scans (next p a c) (done q) = cc
  one-scans {h} (next {v} p a c) (next {v = w} {i = i} {j = j} q b d) =
      let same : w ≡ v = cc in
      let b' = subst (λ (x : ℕ). Traverses G before x (G.out x) h i) same b in
      one-scans c (subst₂ (λ (x : ℕ) (z : History). Scans G before (z ▸ event scan 0 x) j) same (one-traverses b' a) d)

-- ---- counts
module _ (G : Graph) (before : List ℕ) where
  -- us were scanned, or are being scanned; of the edges out of them, rs are still to be traversed.
  record Counts (us rs : List ℕ) (h : History) : Type 0 where
    edges : (x : ℕ) → count_in x (traversed h) + count_in x rs ≡ sum_of (λ u. count_in x (G.out u)) us
    traverses : count traverse h + length rs ≡ met G us
    size : length h ≡ count traverse h + (length (labelled h) + length (scanned h))

  count-traverse : {us rs : List ℕ} (v r : ℕ) {h : History} → Counts us (r ∷ rs) h → Counts us rs (h ▸ event traverse r v)
  count-traverse {rs = rs} v r {h} c = record {
    edges = λ x. omega (arith, count-append x (r ∷ []) (traversed h), count-append x (r ∷ []) rs, c.edges x);
    traverses = omega arith;
    size = omega arith;
  }

  count-traverses : {v : ℕ} {rs : List ℕ} {h i : History} → Traverses G before v rs h i → Counts (v ∷ scanned h) rs h → Counts (v ∷ scanned i) [] i
  count-traverses none c = c
  count-traverses (labels {v} {r} n t) c = let d = count-traverse v r c in count-traverses t (record { edges = d.edges; traverses = d.traverses; size = omega arith })
  count-traverses (passes {v} {r} m t) c = count-traverses t (count-traverse v r c)

  count-scans : {h i : History} → Scans G before h i → Counts (scanned h) [] h → Counts (scanned i) [] i
  count-scans (done e) c = c
  count-scans {h} (next {v} e t s) c =
      let b : Counts (v ∷ scanned h) (G.out v) h = record { edges = λ x. omega (arith, c.edges x); traverses = omega arith; size = c.size } in
      let d = count-traverses t b in
      count-scans s (record { edges = d.edges; traverses = d.traverses; size = omega arith })

module _ (G : Graph) (before : List ℕ) (start : ℕ) where
  -- ---- the queue
  -- ls are labelled: us, which were scanned or are being scanned, and q, the queue. Of the edges out of us, rs are still to be traversed.
  pub record Kept (us rs q ls : List ℕ) : Type 0 where
    pub order : ls ≡ reverse_aux q us
    pub vertices : Labels G.size (ls ++ before)
    pub starts : Mem start ls
    pub reached : (x : ℕ) → Mem x ls → Leads G before start x
    pub closes : (x : ℕ) → Mem x us → (r : ℕ) → Mem r (G.out x) → Mem r rs ⊎ Mem (G.to r) (ls ++ before)
    pub targets : (r : ℕ) → Mem r rs → Vertex G.size (G.to r)
    pub reaches : (r : ℕ) → Mem r rs → (Mem (G.to r) before → ⊥) → Leads G before start (G.to r)

  -- The next edge leads to a labelled vertex.
  pub pass : {us q ls : List ℕ} (r : ℕ) (rs : List ℕ) → Mem (G.to r) (ls ++ before) → Kept us (r ∷ rs) q ls → Kept us rs q ls
  pass {ls = ls} r rs k K = record {
    order = K.order;
    vertices = K.vertices;
    starts = K.starts;
    reached = K.reached;
    closes = λ x m e n. go e (K.closes x m e n);
    targets = λ e m. K.targets e (there m);
    reaches = λ e m. K.reaches e (there m);
  }
    where
      go : (e : ℕ) → Mem e (r ∷ rs) ⊎ Mem (G.to e) (ls ++ before) → Mem e rs ⊎ Mem (G.to e) (ls ++ before)
      go e (inl m) = each-cons (λ y. Mem y rs ⊎ Mem (G.to y) (ls ++ before)) r rs (inr k) (λ y n. inl n) e m
      go e (inr m) = inr m

  -- The next edge leads to an unlabelled vertex, which is labelled and joins the queue.
  pub join : {us q ls : List ℕ} (r : ℕ) (rs : List ℕ) → (Mem (G.to r) (ls ++ before) → ⊥) → Kept us (r ∷ rs) q ls → Kept us (r ∷ rs) (q ++ (G.to r ∷ [])) (G.to r ∷ ls)
  join {us} {q} {ls} r rs new K = record {
    order = ap (λ (l : List ℕ). G.to r ∷ l) K.order ∙ sym (reverse_aux-append q (G.to r ∷ []) us);
    vertices = label-ok G.size (G.to r) (ls ++ before) (K.targets r (here refl)) new K.vertices;
    starts = there K.starts;
    reached = each-cons (Leads G before start) (G.to r) ls (K.reaches r (here refl) (λ m. new (mem-right ls m))) K.reached;
    closes = λ x m e n. go e (K.closes x m e n);
    targets = K.targets;
    reaches = K.reaches;
  }
    where
      go : (e : ℕ) → Mem e (r ∷ rs) ⊎ Mem (G.to e) (ls ++ before) → Mem e (r ∷ rs) ⊎ Mem (G.to e) (G.to r ∷ ls ++ before)
      go e (inl m) = inl m
      go e (inr m) = inr (there m)

  -- With no edge still to be traversed, every edge out of a scanned vertex leads to a labelled one.
  all_done : {us q ls : List ℕ} → Kept us [] q ls → (x : ℕ) → Mem x us → Done G (ls ++ before) x
  all_done {ls = ls} K x m r k = go (K.closes x m r k)
    where
      go : Mem r [] ⊎ Mem (G.to r) (ls ++ before) → Mem (G.to r) (ls ++ before)
      go (inl n) = absurd (mem-nil n)
      go (inr n) = n

  -- The first of the queue begins to be scanned.
  pub begin : {us q ls : List ℕ} (v : ℕ) → Closed G → Kept us [] (v ∷ q) ls → Kept (v ∷ us) (G.out v) q ls
  begin {us} {q} {ls} v C K = record {
    order = K.order;
    vertices = K.vertices;
    starts = K.starts;
    reached = K.reached;
    closes = each-cons (λ x. (r : ℕ) → Mem r (G.out x) → Mem r (G.out v) ⊎ Mem (G.to r) (ls ++ before)) v us (λ r m. inl m) (λ x m r k. inr (all_done K x m r k));
    targets = λ r m. C v r (K.vertices.all v (mem-left before is)) m;
    reaches = λ r m off. along r (K.reached v is) m refl off;
  }
    where
      is : Mem v ls
      is = subst (Mem v) (sym K.order) (mem-rest q (here refl))

  -- The queue is what waits: labelled, not scanned, the least recently labelled first.
  waits : {us q ls : List ℕ} → Kept us [] q ls → without us (reverse ls) ≡ q
  waits {us} {q} {ls} K =
      ap (λ (l : List ℕ). without us (reverse l)) K.order
      ∙ ap (without us) (reverse_aux-reverse_aux-nil q us ∙ reverse_aux-eq us q)
      ∙ without-append us (reverse us) q
      ∙ (λ i. without_all us (reverse us) (λ x m. (mem-reverse us x).0 m) i ++ without-none us q apart i)
    where
      apart : (x : ℕ) → Mem x q → Mem x us → ⊥
      apart x m k = (split q us (subst NoDup K.order (nodup-left ls before K.vertices.once))).apart x k m

  pub few : {us q ls : List ℕ} → Kept us [] q ls → length us + length q ≤ G.size
  few {us} {q} {ls} K = omega (arith, ap length K.order, length-reverse_aux q us, length-append ls before, labels-few G.size (ls ++ before) K.vertices)

  -- ---- the executable search satisfies the relation
  -- While v is being scanned.
  abbrev pub Within : ℕ → List ℕ → Front History → Type 0
  Within v rs f = Kept (v ∷ scanned f.state) rs f.queue (labelled f.state)

  -- Between two scans.
  abbrev pub Between : List ℕ → History → Type 0
  Between q h = Kept (scanned h) [] q (labelled h)

  record Traversed (v : ℕ) (rs : List ℕ) (h : History) (f : Front History) : Type 0 where
    follows : Traverses G before v rs h f.state
    keeps : Within v [] f

  traverse-all : (v : ℕ) (rs : List ℕ) (f : Front History) → Within v rs f → Traversed v rs f.state (traverse_all (recorder before) G v rs f)
  unfolding traverse_all
  traverse-all v [] f K = record { follows = none; keeps = K }
  traverse-all v (r ∷ rs) f K = go (memb (G.to r) (known before f.state)) refl (λ g. traverse-all v rs g)
    where
      one : Bool → Front History
      one b = arrive (recorder before) (G.to r) b (record { queue = f.queue; state = f.state ▸ event traverse r v })

      go : (b : Bool) → memb (G.to r) (known before f.state) ≡ b → ((g : Front History) → Within v rs g → Traversed v rs g.state (traverse_all (recorder before) G v rs g)) → Traversed v (r ∷ rs) f.state (traverse_all (recorder before) G v rs (one b))
      go true e ih =
          let m = memb-true (G.to r) (known before f.state) e in
          let t = ih (one true) (pass r rs m K) in
          record { follows = passes m t.follows; keeps = t.keeps }
      go false e ih =
          let n = memb-false (G.to r) (known before f.state) e in
          let t = ih (one false) (pass r rs (here refl) (join r rs n K)) in
          record { follows = labels n t.follows; keeps = t.keeps }

  -- Traversing scans nothing.
  scanned-same : {v : ℕ} {rs : List ℕ} {h i : History} → Traverses G before v rs h i → scanned i ≡ scanned h
  scanned-same none = refl
  scanned-same (labels n t) = scanned-same t
  scanned-same (passes m t) = scanned-same t

  record Drained (h i : History) : Type 0 where
    follows : Scans G before h i
    keeps : Between [] i

  drains : Closed G → (k : ℕ) (q : List ℕ) (h : History) → Between q h → G.size ≤ k + length (scanned h) → Drained h (drain (recorder before) G k q h)
  unfolding drain
  drains C zero [] h K enough = record { follows = done (waits K); keeps = K }
  drains C zero (v ∷ q) h K enough = absurd (let l = few K in omega arith)
  drains C (suc k) [] h K enough = record { follows = done (waits K); keeps = K }
  drains C (suc k) (v ∷ q) h K enough =
      let f = traverse_all (recorder before) G v (G.out v) (record { queue = q; state = h }) in
      let t = traverse-all v (G.out v) (record { queue = q; state = h }) (begin v C K) in
      let d = drains C k f.queue (f.state ▸ event scan 0 v) t.keeps (omega (arith, ap length (scanned-same t.follows))) in
      record { follows = next (waits K) t.follows d.follows; keeps = d.keeps }

  -- ---- all that a path leads to
  exactly : {us ls : List ℕ} → Kept us [] [] ls → Reached G before start ls
  exactly {us} {ls} K = reached-exactly G before start ls K.starts (λ x m. all_done K x (subst (Mem x) K.order m)) (nodup-left ls before K.vertices.once) K.reached

-- ---- the claims
module _ (G : Graph) (before : List ℕ) (start : ℕ) (R : Ready G before start) where
  pub first : Between G before start (start ∷ []) ([] ▸ event label 0 start)
  first = record {
    order = refl;
    vertices = label-ok G.size start before R.start_vertex R.start_fresh (record { once = R.once; all = R.vertices });
    starts = here refl;
    reached = each-cons (Leads G before start) start [] (stays refl) (λ x m. absurd (mem-nil m));
    closes = λ x m. absurd (mem-nil m);
    targets = λ r m. absurd (mem-nil m);
    reaches = λ r m. absurd (mem-nil m);
  }

  -- With enough fuel.
  ends : (k : ℕ) → G.size ≤ k → Drained G before start ([] ▸ event label 0 start) (drain (recorder before) G k (start ∷ []) ([] ▸ event label 0 start))
  ends k h = drains G before start R.closed k (start ∷ []) ([] ▸ event label 0 start) first (omega arith)

  last : Drained G before start ([] ▸ event label 0 start) (breadth_first G before start)
  unfolding breadth_first
  last = ends G.size (omega arith)

  counts : Counts G before (labelled (breadth_first G before start)) [] (breadth_first G before start)
  counts =
      subst (λ (us : List ℕ). Counts G before us [] (breadth_first G before start)) (sym last.keeps.order)
      (count-scans G before last.follows (record { edges = λ x. refl; traverses = refl; size = refl }))

pub breadth-first : BreadthFirstClaim
breadth-first G before start R =
    let l = last G before start R in
    let c = counts G before start R in
    record {
      one = λ h. (λ d. one-scans d l.follows, λ e. subst (BreadthFirst G before start) (sym e) l.follows);
      fuel = λ k h. one-scans (ends G before start R k h).follows l.follows;
      complete = record {
        labels = exactly G before start l.keeps;
        scans = subst (Reached G before start) l.keeps.order (exactly G before start l.keeps);
        edges = λ r. omega (arith, c.edges r);
      };
      in_order = sym l.keeps.order;
      traverses = omega (arith, c.traverses);
    }

pub breadth-length : (G : Graph) (before : List ℕ) (start : ℕ) → Ready G before start → length (breadth_first G before start) ≡ met G (labelled (breadth_first G before start)) + 2 * length (labelled (breadth_first G before start))
breadth-length G before start R = let c = counts G before start R in omega (arith, ap length (last G before start R).keeps.order)
