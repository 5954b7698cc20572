-- The search by a queue: what the queue area holds, event by event, and what its two loops keep.
-- The area is a function of the vertices labelled, in order; those scanned stand before those that wait.
use Rattle.std.proofs.Common.{◌≡◌, refl, sym, ap, ◌∙◌, subst, ◌≢◌, Bool, true, false, List, [], ◌∷◌, ◌++◌, reverse, ℕ, zero, suc, ◌+◌, ◌-◌, ◌≤◌, ◌<◌, min, add-one, arith, ltb, length, get_or, set, drop, length-append, ltb-true, ltb-false}
use mathlib.Core.List.{reverse_aux-eq, reverse_aux-reverse_aux-nil}
use lib.ListN.{length-reverse, get_or-append, get_or-eq_default}
use lib.Seq.{get_or_at}
use Rattle.lists.specs.Members.{here}
use Rattle.lists.specs.Words.{at, put, cleared}
use Rattle.lists.proofs.Tests.{Compared, equal, other, compare}
use Rattle.lists.proofs.Words.{values_same, but, put-filled, cleared-filled, at-filled, length-filled, read_at}
use Rattle.graphs.specs.Nodes.{Vertex, Edge}
use Rattle.graphs.specs.Graph.{Graph, Closed}
use Rattle.graphs.specs.Events.{event, label, scan, traverse, History, ◌▸◌, labelled, scanned}
use Rattle.graphs.specs.Image.{Image, graph_of}
use Rattle.graphs.specs.Results.{queue_left}
use Rattle.graphs.specs.Refusals.{lent}
use Rattle.graphs.proofs.Labels.{labels-few}
use Rattle.graphs.proofs.Refusals.{long}
use Rattle.graphs.proofs.Results.{named-length}
use Rattle.graphs.proofs.Sound.{graph-closed}
use Rattle.graphs.proofs.Queues.{Waiting, Scanning, queue-begin, queue-scan, queue-end}
use Rattle.walks.specs.Promises.{walk_number, breadth_walk}
use Rattle.walks.specs.Writing.{total, Held}
use Rattle.breadth_queue.specs.Queues.{QueueAt, SomeQueueAt, QueueScanned, CanSearch, Ended}
use Rattle.walks.proofs.Begins.{begins}
use Rattle.walks.proofs.Storing.{all-cleared}
use Rattle.walks.proofs.Writing.{Emits, Puts, Starts, held-total, held-labels, held-lengths}
use Rattle.walks.proofs.Reading.{target}
use Rattle.walks.proofs.Scans.{first-waits, first-held, waiting-queued, waiting-labels, waiting-count, waiting-room, Ahead, Next, ahead-all, ahead_none, ahead-next, InScan, scan-few, scan-kept, scan-same, over-held, over-total, leads-vertex, crossed-total, crossed-labels, edge-pass, edge-fits, edge-join, edge-total}

-- ---- the queue area
-- A list with x behind it has x as its last word.
last_word : (l : List ℕ) (x y : ℕ) → 0 < y → but (at 0 l) (suc (length l)) x y ≡ at 0 (l ++ (x ∷ [])) y
unfolding at
last_word l x zero p = absurd (omega arith)
last_word l x (suc i) p = go (compare (suc i) (suc (length l)))
  where
    past : (b : Bool) → ltb i (length l) ≡ b → suc i ≢ suc (length l) → get_or l (suc i - 1) 0 ≡ get_or (l ++ (x ∷ [])) (suc i - 1) 0
    past true e ne = sym (get_or-append l (x ∷ []) 0 (suc i - 1) (omega (arith, ltb-true i (length l) e)))
    past false e ne = let q = ltb-false i (length l) e in get_or-eq_default l 0 {n = suc i - 1} (omega arith) ∙ sym (get_or-eq_default (l ++ (x ∷ [])) 0 {n = suc i - 1} (omega (arith, length-append l (x ∷ []))))

    go : Compared (suc i) (suc (length l)) → but (at 0 l) (suc (length l)) x (suc i) ≡ at 0 (l ++ (x ∷ [])) (suc i)
    go (equal e t) = rw t (sym (get_or_at l x [] 0 (suc i - 1) (omega arith)))
    go (other ne t) = rw t (past (ltb i (length l)) refl ne)

-- The next vertex labelled stands behind those before it.
queue-label : (n : ℕ) (h : History) (area : List ℕ) (x : ℕ) → suc (length (labelled h)) ≤ n → set (queue_left n h area) (length (labelled h)) x ≡ queue_left n (h ▸ event label 0 x) area
unfolding put
queue-label n h area x q =
    let l : List ℕ = reverse (labelled h) in
    let k : suc (length (labelled h)) ≡ suc (length l) = ap suc (sym (length-reverse (labelled h))) in
    let s : length (labelled h) ≡ suc (length (labelled h)) - 1 = omega arith in
    ap (λ (i : ℕ). set (queue_left n h area) i x) s
    ∙ put-filled (at 0 l) n area (suc (length (labelled h))) x (omega arith) q
    ∙ ap (λ (ws : List ℕ). ws ++ drop n area)
    (values_same (but (at 0 l) (suc (length (labelled h))) x) (at 0 (reverse (x ∷ labelled h))) 0 n
    (λ y a b. ap (λ (u : ℕ). but (at 0 l) u x y) k ∙ last_word l x y a ∙ ap (λ (ws : List ℕ). at 0 ws y) (sym (reverse_aux-eq (labelled h) (x ∷ [])))))

-- The start stands first.
queue-start : (n : ℕ) (area : List ℕ) (start : ℕ) → 1 ≤ n → set (cleared n area) 0 start ≡ queue_left n ([] ▸ event label 0 start) area
unfolding at
queue-start n area start p =
    ap (λ (l : List ℕ). set l 0 start) (cleared-filled n area ∙ ap (λ (ws : List ℕ). ws ++ drop n area) (values_same (λ x. 0) (at 0 []) 0 n (λ x a b. refl)))
    ∙ queue-label n [] area start p

-- Behind the vertices scanned stands the first that waits.
queue-word : {G : Graph} {before : List ℕ} {start : ℕ} {h : History} {v : ℕ} {q : List ℕ} → Waiting G before start h (v ∷ q) → (area : List ℕ) → get_or (queue_left G.size h area) (length (scanned h)) 0 ≡ v
unfolding at
queue-word {G} {before} {start} {h} {v} {q} W area =
    let us : List ℕ = scanned h in
    let order : reverse (labelled h) ≡ reverse us ++ (v ∷ q) = ap reverse W.kept.order ∙ reverse_aux-reverse_aux-nil (v ∷ q) us ∙ reverse_aux-eq us (v ∷ q) in
    let few : suc (length us) ≤ G.size = omega (arith, waiting-count W, labels-few G.size (labelled h) (waiting-labels W)) in
    let s : length us ≡ suc (length us) - 1 = omega arith in
    ap (λ (i : ℕ). get_or (queue_left G.size h area) i 0) s
    ∙ at-filled (at 0 (reverse (labelled h))) G.size area (suc (length us)) (omega arith) few
    ∙ ap (λ (i : ℕ). get_or (reverse (labelled h)) i 0) (sym s)
    ∙ ap (λ (l : List ℕ). get_or l (length us) 0) order
    ∙ get_or_at (reverse us) v q 0 (length us) (length-reverse us)

-- ---- between two scans
-- What is read lies in the tally and in the queue area.
pub record AtFew (g : Image) (queue t : List ℕ) : Type 0 where
  pub few : total t ≤ 10000
  pub labels : get_or t 0 0 ≤ g.n
  pub few_vertices : g.n ≤ 1000
  pub long_queue : g.n ≤ length queue

-- v is the first that waits.
record First (v : ℕ) (waits : List ℕ) : Type 0 where
  later : List ℕ
  is : waits ≡ v ∷ later

module _ {g : Image} {before : List ℕ} {start i : ℕ} {marks₀ queue₀ events₀ marks queue events t : List ℕ} (A : QueueAt g before start i marks₀ queue₀ events₀ marks queue events t) where
  at-closed : Closed (graph_of g)
  at-closed = graph-closed g A.sound

  at_room : length A.h ≤ length (breadth_walk g before start)
  at_room = waiting-room A.waiting at-closed

  -- The number of vertices scanned is one of the counts.
  at-scans : get_or t 5 0 ≡ i
  at-scans = ap (λ (l : List ℕ). get_or l 5 0) A.held.counts ∙ sym (named-length scan A.h) ∙ sym A.place

  at-labels : get_or t 0 0 ≤ g.n
  at-labels = omega (arith, held-labels A.held, labels-few g.n (labelled A.h) (waiting-labels A.waiting))

  at-queue : length queue ≡ length queue₀
  at-queue = ap length A.queue_left ∙ length-filled (at 0 (reverse (labelled A.h))) g.n queue₀ A.long

  -- The areas keep their lengths.
  pub at-lengths : (length marks ≡ length marks₀) × ((length queue ≡ length queue₀) × (length events ≡ length events₀))
  at-lengths = let l = held-lengths A.held A.roomy at_room in (l.0, (at-queue, l.1))

  pub at_few : AtFew g queue t
  at_few = record {
    few = omega (arith, held-total A.held, at_room, A.roomy.few);
    labels = at-labels;
    few_vertices = A.sound.few_vertices;
    long_queue = omega (arith, at-queue, A.long);
  }

  -- All that were labelled are scanned: the search has ended.
  pub at-end : get_or t 0 0 ≤ i → Ended g before start marks₀ queue₀ events₀ marks queue events t
  at-end k = go A.waits A.waiting
    where
      go : (q : List ℕ) → Waiting (graph_of g) before start A.h q → Ended g before start marks₀ queue₀ events₀ marks queue events t
      go [] W =
          let e = queue-end (graph_of g) before start W in
          record { held = subst (λ (x : History). Held (g.n + g.m) before x marks₀ events₀ marks events t) e A.held; queue_left = A.queue_left ∙ ap (λ (x : History). queue_left g.n x queue₀) e }
      go (v ∷ q) W = absurd (omega (arith, held-labels A.held, waiting-count W, A.place))

  module _ {v : ℕ} (some : i < get_or t 0 0) (first : v ≡ get_or queue i 0) where
    at_first : First v A.waits
    at_first = go A.waits A.waiting
      where
        go : (q : List ℕ) → Waiting (graph_of g) before start A.h q → First v q
        go [] W = absurd (omega (arith, held-labels A.held, waiting-count W, A.place))
        go (u ∷ q) W =
            let e : v ≡ u = first ∙ (λ k. get_or (A.queue_left k) (A.place k) 0) ∙ queue-word W queue₀ in
            record { later = q; is = ap (λ (x : ℕ). x ∷ q) (sym e) }

    at-waiting : Waiting (graph_of g) before start A.h (v ∷ at_first.later)
    at-waiting = subst (Waiting (graph_of g) before start A.h) at_first.is A.waiting

-- ---- within a scan
-- v is scanned, and e is the next of its edges: the areas are those that the events so far leave. `t₀` is the tally before the scan.
pub record ScanAt (g : Image) (before : List ℕ) (start v i : ℕ) (marks₀ queue₀ events₀ marks queue events t₀ t : List ℕ) (e : ℕ) : Type 0 where
  h : History
  done : List ℕ
  rest : List ℕ
  waits : List ℕ
  in-scan : InScan g before start h v rest waits marks₀ events₀ marks events t
  ahead : Ahead g v e done rest
  queue_left : queue ≡ queue_left g.n h queue₀
  place : i ≡ length (scanned h)
  since : total t₀ ≤ total t

-- What a turn reads and writes lies in its areas; x is the vertex that e leads to.
pub record Turn (g : Image) (marks queue t : List ℕ) (e x : ℕ) : Type 0 where
  pub edge : Edge g.n g.m e
  pub target : Vertex g.n x
  pub few_vertices : g.n ≤ 1000
  pub few_edges : g.m ≤ 4000
  pub long_after : g.n + g.m ≤ length g.after
  pub long_tail : g.m ≤ length g.tail
  pub long_marks : g.n + g.m ≤ length marks
  pub long_queue : g.n ≤ length queue
  pub few : suc (total t) ≤ 10000

-- So does what is read before the first.
pub record FirstRead (g : Image) (v : ℕ) : Type 0 where
  pub low : 1 ≤ v
  pub high : v ≤ g.n
  pub long_after : g.n + g.m ≤ length g.after

-- Within a scan, with equal areas.
scan-as : {g : Image} {before : List ℕ} {start v i : ℕ} {marks₀ queue₀ events₀ marks queue events t₀ t marks' queue' events' t' : List ℕ} {e : ℕ}
    → ScanAt g before start v i marks₀ queue₀ events₀ marks queue events t₀ t e → marks' ≡ marks → queue' ≡ queue → events' ≡ events → t' ≡ t → ScanAt g before start v i marks₀ queue₀ events₀ marks' queue' events' t₀ t' e
scan-as B a b c d = record {
  h = B.h;
  done = B.done;
  rest = B.rest;
  waits = B.waits;
  in-scan = scan-same B.in-scan a c d;
  ahead = B.ahead;
  queue_left = b ∙ B.queue_left;
  place = B.place;
  since = omega (arith, B.since, ap total d);
}

module _ {g : Image} {v : ℕ} {marks queue events t : List ℕ} (P : SomeQueueAt g v marks queue events t) where
  module _ {before : List ℕ} {start i : ℕ} {marks₀ queue₀ events₀ : List ℕ} (A : QueueAt g before start i marks₀ queue₀ events₀ marks queue events t) where
    -- The place in the queue does not depend on the areas as lent.
    same_place : i ≡ P.i
    same_place = sym (at-scans A) ∙ at-scans P.is

    some : i < get_or t 0 0
    some = omega (arith, same_place, P.some)

    first : v ≡ get_or queue i 0
    first = P.first ∙ ap (λ (k : ℕ). get_or queue k 0) (sym same_place)

    vertex : Vertex g.n v
    vertex = (waiting-queued (at-waiting A some first)).all v (here refl)

    pub scan-start : ScanAt g before start v i marks₀ queue₀ events₀ marks queue events t t (get_or g.after (v - 1) 0)
    scan-start = record {
      h = A.h;
      done = [];
      rest = (graph_of g).out v;
      waits = (at_first A some first).later;
      in-scan = record { roomy = A.roomy; scanning = queue-begin (graph_of g) before start (at-closed A) (at-waiting A some first); held = A.held };
      ahead = subst (λ (e : ℕ). Ahead g v e [] ((graph_of g).out v)) (read_at g.after v) (ahead-all A.sound vertex);
      queue_left = A.queue_left;
      place = A.place;
      since = omega arith;
    }

    module _ {marks' queue' events' t' : List ℕ} {e : ℕ} (B : ScanAt g before start v i marks₀ queue₀ events₀ marks' queue' events' t t' e) where
      -- The areas keep their lengths.
      scan-lengths : (length marks' ≡ length marks) × ((length queue' ≡ length queue) × (length events' ≡ length events))
      scan-lengths =
          let a = at-lengths A in
          let b = scan-kept B.in-scan in
          let q : length queue' ≡ length queue₀ = ap length B.queue_left ∙ length-filled (at 0 (reverse (labelled B.h))) g.n queue₀ A.long in
          (omega arith, (omega arith, omega arith))

      -- No edge is left: the scan is written.
      pub scan-end : {events₁ t₁ : List ℕ} → e ≡ 0 → Emits 6 0 v events' t' events₁ t₁ → QueueScanned g before start i marks₀ queue₀ events₀ marks' queue' events₁ t t₁
      scan-end z w = record {
        is = record {
          sound = A.sound;
          start_vertex = A.start_vertex;
          roomy = A.roomy;
          long = A.long;
          h = B.h ▸ event scan 0 v;
          waits = B.waits;
          waiting = queue-scan (graph_of g) before start (subst (λ (l : List ℕ). Scanning (graph_of g) before start B.h v l B.waits) (ahead_none A.sound vertex B.ahead z) B.in-scan.scanning);
          held = over-held B.in-scan w;
          queue_left = B.queue_left;
          place = ap suc B.place;
        };
        more = omega (arith, B.since, over-total B.in-scan w);
      }

      module _ (ne : e ≢ 0) where
        N : Next g v e B.done B.rest
        N = ahead-next A.sound vertex B.ahead ne

        I : InScan g before start B.h v (e ∷ N.later) B.waits marks₀ events₀ marks' events' t'
        I = subst (λ (l : List ℕ). InScan g before start B.h v l B.waits marks₀ events₀ marks' events' t') N.is B.in-scan

        abbrev x : ℕ
        x = target g e

        scan-turn : Turn g marks' queue' t' e x
        scan-turn =
            let a = at-lengths A in
            let b = scan-lengths in
            record {
              edge = N.edge;
              target = leads-vertex I;
              few_vertices = A.sound.few_vertices;
              few_edges = A.sound.few_edges;
              long_after = A.sound.long_after;
              long_tail = A.sound.long_tail;
              long_marks = omega (arith, A.roomy.long_marks);
              long_queue = omega (arith, A.long);
              few = scan-few I;
            }

        -- The edge is traversed.
        module _ {events₁ t₁ : List ℕ} (one : Emits 7 e v events' t' events₁ t₁) where
          onward : Ahead g v (get_or g.after (e - 1) 0) (B.done ++ (e ∷ [])) N.later
          onward = subst (λ (w : ℕ). Ahead g v w (B.done ++ (e ∷ [])) N.later) (read_at g.after e) N.ahead

          -- x is labelled already.
          scan-pass : get_or marks' (x - 1) 0 ≢ 0 → ScanAt g before start v i marks₀ queue₀ events₀ marks' queue' events₁ t t₁ (get_or g.after (e - 1) 0)
          scan-pass k = record {
            h = B.h ▸ event traverse e v;
            done = B.done ++ (e ∷ []);
            rest = N.later;
            waits = B.waits;
            in-scan = edge-pass I one k;
            ahead = onward;
            queue_left = B.queue_left;
            place = B.place;
            since = omega (arith, B.since, crossed-total I one);
          }

          -- x is not labelled yet.
          module _ (k : get_or marks' (x - 1) 0 ≡ 0) where
            scan-fits : get_or t₁ 0 0 < g.n
            scan-fits = omega (arith, crossed-labels I one, edge-fits I one k)

            scan-join : {marks₂ events₂ t₂ : List ℕ} → Puts x marks' events₁ t₁ marks₂ events₂ t₂ → ScanAt g before start v i marks₀ queue₀ events₀ marks₂ (set queue' (get_or t₁ 0 0) x) events₂ t t₂ (get_or g.after (e - 1) 0)
            scan-join two = record {
              h = B.h ▸ event traverse e v ▸ event label 0 x;
              done = B.done ++ (e ∷ []);
              rest = N.later;
              waits = B.waits ++ (x ∷ []);
              in-scan = edge-join I one k two;
              ahead = onward;
              queue_left = (λ j. set (B.queue_left j) (crossed-labels I one j) x) ∙ queue-label g.n (B.h ▸ event traverse e v) queue₀ x (edge-fits I one k);
              place = B.place;
              since = omega (arith, B.since, edge-total I one k two);
            }

-- What the loop of a scan keeps, whatever the search and the areas as lent.
pub record ScanKept (g : Image) (v : ℕ) (marks queue events t marks' queue' events' t' : List ℕ) (e : ℕ) : Type 0 where
  pub within : {before : List ℕ} {start i : ℕ} {marks₀ queue₀ events₀ : List ℕ} → QueueAt g before start i marks₀ queue₀ events₀ marks queue events t
      → ScanAt g before start v i marks₀ queue₀ events₀ marks' queue' events' t t' e

module _ {g : Image} {v : ℕ} {marks queue events t : List ℕ} (P : SomeQueueAt g v marks queue events t) where
  -- v is a vertex.
  pub kept-first : FirstRead g v
  kept-first = let w = vertex P P.is in record { low = w.0; high = w.1; long_after = P.is.sound.long_after }

  module _ {marks' queue' events' t' : List ℕ} {e : ℕ} (K : ScanKept g v marks queue events t marks' queue' events' t' e) where
    now : ScanAt g P.before P.start v P.i P.marks₀ P.queue₀ P.events₀ marks' queue' events' t t' e
    now = K.within P.is

    pub kept_turn : e ≢ 0 → Turn g marks' queue' t' e (target g e)
    kept_turn = scan-turn P P.is now

    -- The edge e is traversed.
    module _ {events₁ t₁ : List ℕ} (ne : e ≢ 0) (one : Emits 7 e v events' t' events₁ t₁) where
      -- There is room in the queue for the vertex that it leads to.
      pub kept-fits : get_or marks' (target g e - 1) 0 ≡ 0 → get_or t₁ 0 0 < g.n
      kept-fits = scan-fits P P.is now ne one

      -- That vertex is labelled already.
      pub kept-pass : {marks₂ queue₂ events₂ t₂ : List ℕ} → get_or marks' (target g e - 1) 0 ≢ 0 → marks₂ ≡ marks' → queue₂ ≡ queue' → events₂ ≡ events₁ → t₂ ≡ t₁
          → ScanKept g v marks queue events t marks₂ queue₂ events₂ t₂ (get_or g.after (e - 1) 0)
      kept-pass k a b c d = record { within = λ A. scan-as (scan-pass P A (K.within A) ne one k) a b c d }

      pub pass-falls : {t₂ : List ℕ} → t₂ ≡ t₁ → 10000 - total t₂ < 10000 - total t'
      pass-falls d = omega (arith, crossed-total (I P P.is now ne) one, ap total d, (kept_turn ne).few)

      -- It is not: it is labelled and queued.
      module _ {marks₁ events₃ t₃ : List ℕ} (k : get_or marks' (target g e - 1) 0 ≡ 0) (two : Puts (target g e) marks' events₁ t₁ marks₁ events₃ t₃) where
        pub kept-join : {marks₂ queue₂ events₂ t₂ : List ℕ} → marks₂ ≡ marks₁ → queue₂ ≡ set queue' (get_or t₁ 0 0) (target g e) → events₂ ≡ events₃ → t₂ ≡ t₃
            → ScanKept g v marks queue events t marks₂ queue₂ events₂ t₂ (get_or g.after (e - 1) 0)
        kept-join a b c d = record { within = λ A. scan-as (scan-join P A (K.within A) ne one k two) a b c d }

        pub join-falls : {t₂ : List ℕ} → t₂ ≡ t₃ → 10000 - total t₂ < 10000 - total t'
        join-falls d = omega (arith, edge-total (I P P.is now ne) one k two, ap total d, (kept_turn ne).few)

-- ---- the whole search
-- The start is labelled, and is the first of the queue.
pub search-start : {g : Image} {before : List ℕ} {start nodes : ℕ} {marks queue events marks' queue' events' t : List ℕ} → CanSearch g before start marks queue events → nodes ≡ g.n + g.m → queue' ≡ cleared (min g.n (length queue)) queue
    → Starts nodes before start marks events marks' events' t
    → QueueAt g before start 0 marks queue events marks' (set queue' 0 start) events' t
search-start {g} {before} {start} {nodes} {marks} {queue} {events} {marks'} {queue'} {events'} {t} C all clears starts = record {
  sound = C.sound;
  start_vertex = C.start_vertex;
  roomy = C.roomy;
  long = C.long;
  h = [] ▸ event label 0 start;
  waits = start ∷ [];
  waiting = first-waits g C.sound before start C.start_vertex C.listed;
  held = first-held g C.sound before start C.start_vertex C.listed C.roomy (subst (λ (k : ℕ). Starts k before start marks events marks' events' t) all starts);
  queue_left = ap (λ (l : List ℕ). set l 0 start) (clears ∙ all-cleared g.n queue C.long) ∙ queue-start g.n queue start (omega (arith, C.start_vertex));
  place = refl;
}

-- The next that waits can be scanned.
pub search-scan : {g : Image} {before : List ℕ} {start i : ℕ} {marks₀ queue₀ events₀ marks queue events t : List ℕ} → QueueAt g before start i marks₀ queue₀ events₀ marks queue events t
    → i < get_or t 0 0
    → SomeQueueAt g (get_or queue i 0) marks queue events t
search-scan {before = before} {start} {i} {marks₀} {queue₀} {events₀} A some = record {
  before = before;
  start = start;
  i = i;
  marks₀ = marks₀;
  queue₀ = queue₀;
  events₀ = events₀;
  is = A;
  some = some;
  first = refl;
}

-- It was: one more is scanned.
pub search-more : {g : Image} {before : List ℕ} {start i : ℕ} {marks₀ queue₀ events₀ marks queue events t t' : List ℕ} → QueueScanned g before start i marks₀ queue₀ events₀ marks queue events t t' → QueueAt g before start (i + 1) marks₀ queue₀ events₀ marks queue events t'
search-more {g} {before} {start} {i} {marks₀} {queue₀} {events₀} {marks} {queue} {events} {t} {t'} Q = subst (λ (k : ℕ). QueueAt g before start k marks₀ queue₀ events₀ marks queue events t') (sym (add-one i)) Q.is

-- And events were added.
pub search-less : {g : Image} {before : List ℕ} {start i : ℕ} {marks₀ queue₀ events₀ marks queue events t t' : List ℕ} → QueueScanned g before start i marks₀ queue₀ events₀ marks queue events t t' → (total t < total t') × (total t' ≤ 10000)
search-less Q = (Q.more, (at_few Q.is).few)

-- ---- the walk
-- A walk taken can begin.
pub can_begin : (g : Image) (before : List ℕ) (start : ℕ) (marks queue events : List ℕ) → 0 ≡ walk_number g before start marks events (lent g.n queue ∷ []) → CanSearch g before start marks queue events
can_begin g before start marks queue events taken =
    let B = begins g before start marks events (lent g.n queue ∷ []) (sym taken) in
    record { sound = B.sound; start_vertex = B.start_vertex; listed = B.listed; roomy = B.breadth-room; long = (long g.n queue [] B.own-long).0 }
