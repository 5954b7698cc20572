-- Laws of the recursive walker: what its loop over a list keeps, and what an edge traversed adds.
-- The events so far, the edges still ahead and the scan make up the search of the vertex.
use Rattle.std.proofs.Common.{◌≡◌, refl, sym, ap, ◌∙◌, subst, Bool, true, false, not, List, [], ◌∷◌, ℕ, suc, ◌+◌, ◌-◌, ◌*◌, ◌≤◌, ◌<◌, arith, eqb, length, get_or, length-append, eq-eqb, ne_eqb}
use borrow.Author.Tests.{not-true, not-false}
use Rattle.lists.specs.Members.{Mem, here, there, memb}
use Rattle.lists.specs.Words.{at}
use Rattle.lists.proofs.Members.{mem-right, memb-false, pigeonhole}
use Rattle.lists.proofs.Words.{read_at}
use Rattle.graphs.specs.Nodes.{Vertex, Edge}
use Rattle.graphs.specs.Events.{Kind, event, label, advance_tree, advance_nontree, retreat_nontree, retreat_tree, scan, code, same, History, ◌▸◌, known, labelled}
use Rattle.graphs.specs.Search.{recorder, cross, walk_edges, depth_first}
use Rattle.graphs.specs.Image.{Image, edges_of, to, graph_of}
use Rattle.graphs.proofs.Labels.{Labels, label-ok, labels-few}
use Rattle.graphs.proofs.Sound.{Sound, head0, Linked, edges_left, left-falls, graph-closed}
use Rattle.graphs.proofs.DepthGrowth.{search-adds, search-labels}
use Rattle.graphs.proofs.Places.{deep, walk, edges-add, suffix-length, can-search, deep-unroll}
use Rattle.walks.specs.Promises.{walk_number, DepthPromise}
use Rattle.walks.specs.Writing.{no_events, blanks_marked, Held, Roomy}
use Rattle.depth_recursive.specs.Recursive.{searched, crossed, Searching, CanSearch, Traversing, CanTraverse}
use Rattle.walks.proofs.Reading.{target, target_is}
use Rattle.walks.proofs.Begins.{begins, taken-promised}
use Rattle.walks.proofs.Storing.{all_first}
use Rattle.walks.proofs.Writing.{Emits, Puts, held-labels, held_test, held-lengths, emitted, labelling, held_none}

-- Room for all events is room for some of them.
room_for : {k : ℕ} {all some : History} {marks₀ events₀ : List ℕ} → length some ≤ length all → Roomy k all marks₀ events₀ → Roomy k some marks₀ events₀
room_for l R = record { long_marks = R.long_marks; room = omega (arith, R.room); few = omega (arith, R.few) }

-- ---- one edge
-- Traversing an edge whose flag is known.
abbrev crossing : Image → List ℕ → ℕ → ℕ → Bool → History → History
crossing g before r u b h = cross (recorder before) (graph_of g) (deep (graph_of g) before) u r b h

-- Two events, at least.
two : (g : Image) (before : List ℕ) (r u : ℕ) (b : Bool) (h : History) → suc (suc (length h)) ≤ length (crossing g before r u b h)
two g before r u true h = omega arith
two g before r u false h = let k = suffix-length (search-adds (graph_of g) before g.n (to g r) (h ▸ event advance_tree r u)) in omega arith

-- The labels stay labels, and none is lost.
crossing-labels : (g : Image) (before : List ℕ) → Sound g → (r u : ℕ) → Vertex g.n (to g r) → (h : History) → Labels g.n (known before h) → (b : Bool) → memb (to g r) (known before h) ≡ b → Labels g.n (known before (crossing g before r u b h)) × (length (labelled h) ≤ length (labelled (crossing g before r u b h)))
crossing-labels g before S r u hx h L true e = (L, omega arith)
crossing-labels g before S r u hx h L false e =
    let i : History = h ▸ event advance_tree r u in
    let j : History = deep (graph_of g) before (to g r) i in
    let C = graph-closed g S in
    let q = search-labels (graph_of g) before C g.n (to g r) i (can-search (graph_of g) before C (to g r) i hx (memb-false (to g r) (known before h) e) L) in
    (q.grown.labels, omega (arith, q.grown.longer, length-append (labelled h) before, length-append (labelled j) before))

-- What the code reads, before it knows the flag.
pub record Reads (g : Image) (r : ℕ) (marks : List ℕ) : Type 0 where
  pub edge : Edge g.n g.m r
  pub vertex : Vertex g.n (target g r)
  pub few_vertices : g.n ≤ 1000
  pub few_edges : g.m ≤ 4000
  pub long_after : g.n + g.m ≤ length g.after
  pub long_tail : g.m ≤ length g.tail
  pub long_marks : g.n + g.m ≤ length marks

module _ {g : Image} {before : List ℕ} {r u : ℕ} {h : History} {marks₀ events₀ marks events t : List ℕ} (T : Traversing g before r u h marks₀ events₀ marks events t) where
  edge_of : Edge g.n g.m r
  edge_of = T.sound.edge u r T.vertex T.listed

  leads : Vertex g.n (to g r)
  leads = T.sound.target r edge_of

  two-more : suc (suc (length h)) ≤ length (crossed g before r u h)
  two-more = two g before r u (memb (to g r) (known before h)) h

  edge-lengths : (length marks ≡ length marks₀) × (length events ≡ length events₀)
  edge-lengths = held-lengths T.held T.roomy (omega (arith, two-more))

  pub edge-reads : Reads g r marks
  edge-reads = record {
    edge = edge_of;
    vertex = subst (Vertex g.n) (target_is g r) leads;
    few_vertices = T.sound.few_vertices;
    few_edges = T.sound.few_edges;
    long_after = T.sound.long_after;
    long_tail = T.sound.long_tail;
    long_marks = omega (arith, T.roomy.long_marks, edge-lengths.0);
  }

  -- The mark that the code tests.
  mark-is : eqb (get_or marks (target g r - 1) 0) 0 ≡ not (memb (to g r) (known before h))
  mark-is =
      ap (λ (w : ℕ). eqb w 0) (sym (read_at marks (target g r)) ∙ ap (at 0 marks) (sym (target_is g r)))
      ∙ held_test T.held (to g r) leads.0 (let a = leads.1 in omega arith)

  -- One event more.
  module _ {events' t' : List ℕ} where
    edge-emitted : (j : Kind) → same label j ≡ false → Emits (code j) r u events t events' t' → Held (g.n + g.m) before (h ▸ event j r u) marks₀ events₀ marks events' t'
    edge-emitted j q e = emitted T.held T.roomy (omega (arith, two-more)) j r u q e

    -- It leads to a labelled vertex.
    module _ (mark : get_or marks (target g r - 1) 0 ≡ 0 → ⊥) (e : Emits 3 r u events t events' t') where
      seen : memb (to g r) (known before h) ≡ true
      seen = not-false (memb (to g r) (known before h)) (sym mark-is ∙ ne_eqb (get_or marks (target g r - 1) 0) 0 mark)

      passes : crossed g before r u h ≡ (h ▸ event advance_nontree r u ▸ event retreat_nontree r u)
      passes = ap (λ (f : Bool). crossing g before r u f h) seen

      passing : Held (g.n + g.m) before (h ▸ event advance_nontree r u) marks₀ events₀ marks events' t'
      passing = edge-emitted advance_nontree refl e

      pub pass-held : {events'' t'' : List ℕ} → Emits 4 r u events' t' events'' t'' → Held (g.n + g.m) before (crossed g before r u h) marks₀ events₀ marks events'' t''
      pass-held {events''} {t''} f =
          subst (λ (i : History). Held (g.n + g.m) before i marks₀ events₀ marks events'' t'') (sym passes)
          (emitted passing T.roomy (omega (arith, two-more)) retreat_nontree r u refl f)

    -- It leads to an unlabelled vertex.
    module _ (mark : get_or marks (target g r - 1) 0 ≡ 0) (e : Emits 2 r u events t events' t') where
      fresh : memb (to g r) (known before h) ≡ false
      fresh = not-true (memb (to g r) (known before h)) (sym mark-is ∙ eq-eqb (get_or marks (target g r - 1) 0) 0 mark)

      returning : crossed g before r u h ≡ (searched g before (target g r) (h ▸ event advance_tree r u) ▸ event retreat_tree r u)
      returning = ap (λ (f : Bool). crossing g before r u f h) fresh ∙ ap (λ (x : ℕ). deep (graph_of g) before x (h ▸ event advance_tree r u) ▸ event retreat_tree r u) (target_is g r)

      advanced : Held (g.n + g.m) before (h ▸ event advance_tree r u) marks₀ events₀ marks events' t'
      advanced = edge-emitted advance_tree refl e

      -- Its search can begin.
      pub tree-search : Searching g before (target g r) (h ▸ event advance_tree r u) marks₀ events₀ marks events' t'
      tree-search = record {
        sound = T.sound;
        vertex = subst (Vertex g.n) (target_is g r) leads;
        fresh = λ m. memb-false (to g r) (known before h) fresh (subst (λ (x : ℕ). Mem x (known before h)) (sym (target_is g r)) m);
        labels = T.labels;
        held = advanced;
        roomy = room_for (omega (arith, ap length returning)) T.roomy;
      }

      pub tree-can : CanSearch g (target g r) marks events' t'
      tree-can = record { before = before; h = h ▸ event advance_tree r u; marks₀ = marks₀; events₀ = events₀; searching = tree-search }

      -- No vertex was labelled on the way to it.
      pub tree_falls : 2 * (g.n - get_or t' 0 0) < 2 * (g.n - get_or t 0 0) + 1
      tree_falls = omega (arith, held-labels advanced, held-labels T.held)

      module _ {marks'' events'' t'' : List ℕ} (D : Held (g.n + g.m) before (searched g before (target g r) (h ▸ event advance_tree r u)) marks₀ events₀ marks'' events'' t'') where
        pub tree-held : {events''' t''' : List ℕ} → Emits 5 r u events'' t'' events''' t''' → Held (g.n + g.m) before (crossed g before r u h) marks₀ events₀ marks'' events''' t'''
        tree-held {events'''} {t'''} f =
            subst (λ (i : History). Held (g.n + g.m) before i marks₀ events₀ marks'' events''' t''') (sym returning)
            (emitted D T.roomy (omega (arith, ap length returning)) retreat_tree r u refl f)

-- ---- one vertex
-- u is labelled, and its edges `rest` are still to be traversed, r the next of them.
pub record Underway (g : Image) (before : List ℕ) (u : ℕ) (h : History) (marks₀ events₀ marks events t : List ℕ) (r : ℕ) : Type 0 where
  pub sound : Sound g
  pub vertex : Vertex g.n u
  pub so_far : History
  pub rest : List ℕ
  pub next : r ≡ head0 rest
  pub links : Linked g.after rest
  pub listed : (x : ℕ) → Mem x rest → Mem x (edges_of g u)
  pub short : length rest ≤ g.m
  pub labels : Labels g.n (known before so_far)
  pub more : length (labelled h) < length (labelled so_far)
  pub held : Held (g.n + g.m) before so_far marks₀ events₀ marks events t
  pub roomy : Roomy (g.n + g.m) (searched g before u h) marks₀ events₀
  pub future : (walk (graph_of g) before u rest so_far ▸ event scan 0 u) ≡ searched g before u h

-- r is the next edge.
record Next (r : ℕ) (rest : List ℕ) : Type 0 where
  later : List ℕ
  is : rest ≡ r ∷ later

next_edge : (r : ℕ) (rest : List ℕ) → r ≡ head0 rest → (r ≡ 0 → ⊥) → Next r rest
next_edge r [] e ne = absurd (ne e)
next_edge r (y ∷ l) e ne = record { later = l; is = ap (λ (z : ℕ). z ∷ l) (sym e) }

module _ {g : Image} {before : List ℕ} {u : ℕ} {h : History} {marks₀ events₀ marks events t : List ℕ} (S : Searching g before u h marks₀ events₀ marks events t) where
  unrolled : searched g before u h ≡ (walk (graph_of g) before u (edges_of g u) (h ▸ event label 0 u) ▸ event scan 0 u)
  unrolled = deep-unroll (graph_of g) before (graph-closed g S.sound) u h S.vertex S.fresh S.labels

  -- Two events, at least: label and scan.
  search-room : suc (suc (length h)) ≤ length (searched g before u h)
  search-room = omega (arith, ap length unrolled, suffix-length (edges-add (graph_of g) before u (edges_of g u) (h ▸ event label 0 u)))

  -- u is labelled.
  pub search-begins : {marks' events' t' : List ℕ} → Puts u marks events t marks' events' t' → Underway g before u h marks₀ events₀ marks' events' t' (get_or g.after (u - 1) 0)
  search-begins e = record {
    sound = S.sound;
    vertex = S.vertex;
    so_far = h ▸ event label 0 u;
    rest = edges_of g u;
    next = sym (read_at g.after u) ∙ S.sound.first u S.vertex;
    links = S.sound.linked u S.vertex;
    listed = λ x m. m;
    short = pigeonhole g.n g.m (edges_of g u) (S.sound.once u S.vertex) (λ r m. S.sound.edge u r S.vertex m);
    labels = label-ok g.n u (known before h) S.vertex S.fresh S.labels;
    more = omega arith;
    held = labelling S.held S.roomy (omega (arith, search-room)) u (λ m. S.fresh (mem-right (labelled h) m)) S.vertex.0 (omega (arith, S.vertex.1)) e;
    roomy = S.roomy;
    future = sym unrolled;
  }

  -- Its label leaves fewer vertices unlabelled.
  pub search-falls : {marks' events' t' : List ℕ} {r : ℕ} → Underway g before u h marks₀ events₀ marks' events' t' r → 2 * (g.n - get_or t' 0 0) + 1 < 2 * (g.n - get_or t 0 0)
  search-falls U =
      let few = labels-few g.n (u ∷ known before h) (label-ok g.n u (known before h) S.vertex S.fresh S.labels) in
      omega (arith, length-append (labelled h) before, held-labels S.held, held-labels U.held, U.more)

-- What the loop over the list of u keeps, from its first turn to the next, whatever was lent.
abbrev pub Loop : Image → ℕ → (marks₁ events₁ t₁ : List ℕ) → ℕ → (marks events t : List ℕ) → ℕ → Type 0
Loop g u marks₁ events₁ t₁ r₁ marks events t r = (before : List ℕ) (h : History) (marks₀ events₀ : List ℕ) → Underway g before u h marks₀ events₀ marks₁ events₁ t₁ r₁ → Underway g before u h marks₀ events₀ marks events t r

-- So it has come to a turn.
pub way_at : {g : Image} {u : ℕ} {marks events t marks₁ events₁ t₁ marks' events' t' : List ℕ} {r : ℕ} (P : CanSearch g u marks events t) → Puts u marks events t marks₁ events₁ t₁
    → Loop g u marks₁ events₁ t₁ (get_or g.after (u - 1) 0) marks' events' t' r
    → Underway g P.before u P.h P.marks₀ P.events₀ marks' events' t' r
way_at P e I = I P.before P.h P.marks₀ P.events₀ (search-begins P.searching e)

module _ {g : Image} {before : List ℕ} {u : ℕ} {h : History} {marks₀ events₀ marks events t : List ℕ} {r : ℕ} (U : Underway g before u h marks₀ events₀ marks events t r) where
  scan-room : suc (length U.so_far) ≤ length (searched g before u h)
  scan-room = omega (arith, ap length U.future, suffix-length (edges-add (graph_of g) before u U.rest U.so_far))

  -- The scan ends the search.
  pub way-ends : r ≡ 0 → {events' t' : List ℕ} → Emits 6 0 u events t events' t' → Held (g.n + g.m) before (searched g before u h) marks₀ events₀ marks events' t'
  unfolding walk_edges
  way-ends e {events'} {t'} f = go U.rest U.next U.listed U.future
    where
      go : (rest : List ℕ) → r ≡ head0 rest → ((x : ℕ) → Mem x rest → Mem x (edges_of g u)) → (walk (graph_of g) before u rest U.so_far ▸ event scan 0 u) ≡ searched g before u h
          → Held (g.n + g.m) before (searched g before u h) marks₀ events₀ marks events' t'
      go [] n m w = subst (λ (i : History). Held (g.n + g.m) before i marks₀ events₀ marks events' t') w (emitted U.held U.roomy scan-room scan 0 u refl f)
      go (y ∷ l) n m w = absurd (let z = U.sound.edge u y U.vertex (m y (here refl)) in let k : r ≡ y = n in omega arith)

  module _ (more : r ≡ 0 → ⊥) where
    N : Next r U.rest
    N = next_edge r U.rest U.next more

    -- What is left once r is traversed.
    ahead : (walk (graph_of g) before u N.later (crossed g before r u U.so_far) ▸ event scan 0 u) ≡ searched g before u h
    unfolding walk_edges
    ahead =
        ap (λ (l : List ℕ). walk (graph_of g) before u l U.so_far ▸ event scan 0 u) (sym N.is)
        ∙ U.future

    crossed-room : suc (length (crossed g before r u U.so_far)) ≤ length (searched g before u h)
    crossed-room = omega (arith, ap length ahead, suffix-length (edges-add (graph_of g) before u N.later (crossed g before r u U.so_far)))

    -- Behind it there is one edge less.
    links : Linked g.after (r ∷ N.later)
    links = subst (Linked g.after) N.is U.links

    pub way-falls : edges_left g.m g.after (get_or g.after (r - 1) 0) < edges_left g.m g.after r
    way-falls =
        let positive : (x : ℕ) → Mem x (r ∷ N.later) → 0 < x = λ x m. (let e = U.sound.edge u x U.vertex (U.listed x (subst (Mem x) (sym N.is) m)) in omega arith) in
        subst (λ (x : ℕ). edges_left g.m g.after x < edges_left g.m g.after r) (read_at g.after r) (left-falls g.m g.after r N.later links positive (omega (arith, U.short, ap length N.is)))

    -- The next edge can be traversed.
    pub way-edge : Traversing g before r u U.so_far marks₀ events₀ marks events t
    way-edge = record {
      sound = U.sound;
      vertex = U.vertex;
      listed = U.listed r (subst (Mem r) (sym N.is) (here refl));
      labels = U.labels;
      held = U.held;
      roomy = room_for (omega (arith, crossed-room)) U.roomy;
    }

    pub way-can : CanTraverse g r u marks events t
    way-can = record { before = before; h = U.so_far; marks₀ = marks₀; events₀ = events₀; traversing = way-edge }

    module _ {marks' events' t' : List ℕ} (D : Held (g.n + g.m) before (crossed g before r u U.so_far) marks₀ events₀ marks' events' t') where
      -- It was.
      pub way-turns : Underway g before u h marks₀ events₀ marks' events' t' (get_or g.after (r - 1) 0)
      way-turns =
          let L = crossing-labels g before U.sound r u (leads way-edge) U.so_far U.labels (memb (to g r) (known before U.so_far)) refl in
          record {
            sound = U.sound;
            vertex = U.vertex;
            so_far = crossed g before r u U.so_far;
            rest = N.later;
            next = sym (read_at g.after r) ∙ links.0;
            links = links.1;
            listed = λ x m. U.listed x (subst (Mem x) (sym N.is) (there m));
            short = omega (arith, U.short, ap length N.is);
            labels = L.0;
            more = omega (arith, U.more, L.1);
            held = D;
            roomy = U.roomy;
            future = ahead;
          }

-- ---- the walk
-- A walk taken.
module _ (g : Image) (before : List ℕ) (start : ℕ) (marks events : List ℕ) (taken : walk_number g before start marks events [] ≡ 0) where
  pub walk_begins : {marks' : List ℕ} → marks' ≡ blanks_marked (g.n + g.m) before marks → Searching g before start [] marks events marks' events no_events
  unfolding depth_first
  walk_begins c =
      let B = begins g before start marks events [] taken in
      let E = held_none (g.n + g.m) before marks events in
      record {
        sound = B.sound;
        vertex = B.start_vertex;
        fresh = B.listed.start_fresh;
        labels = record { once = B.listed.once; all = B.listed.vertices };
        held = record { marked = c ∙ all_first (g.n + g.m) before marks B.long_marks ∙ E.marked; written = E.written; counts = E.counts };
        roomy = B.depth-room;
      }

  -- The search of the start is the walk.
  pub walk_ends : {marks' events' t : List ℕ} → Held (g.n + g.m) before (searched g before start []) marks events marks' events' t
      → DepthPromise g before start [] marks events (record { number = 0; tally = t }) marks' events'
  unfolding depth_first
  walk_ends H = taken-promised taken refl H
