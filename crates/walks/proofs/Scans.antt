-- What both breadth-first walks meet: the vertices that wait, the edges ahead of the one that is scanned, and an event more.
-- Each edge traversed leads to a labelled vertex, or labels one that then waits behind the others; the marks tell which.
use Rattle.std.proofs.Common.{◌≡◌, refl, sym, ap, ◌∙◌, subst, ◌≢◌, false, not, List, [], ◌∷◌, ◌++◌, append_assoc, ℕ, suc, ◌+◌, ◌-◌, ◌≤◌, ◌<◌, arith, eqb, length, get_or, eq-eqb, ne_eqb}
use mathlib.Core.List.{reverse_aux}
use lib.ListN.{length-reverse_aux}
use borrow.Author.Tests.{not-true, not-false}
use Rattle.lists.specs.Members.{Mem, here, NoDup, memb}
use Rattle.lists.specs.Words.{at}
use Rattle.lists.proofs.Members.{split, nodup-left, mem-left, mem-right, mem-done, memb-false}
use Rattle.lists.proofs.Words.{read_at}
use Rattle.graphs.specs.Nodes.{Vertex, Edge}
use Rattle.graphs.specs.Graph.{Graph, Closed}
use Rattle.graphs.specs.Events.{event, label, scan, traverse, History, ◌▸◌, known, labelled, scanned}
use Rattle.graphs.specs.Search.{breadth_first}
use Rattle.graphs.specs.Image.{Image, edges_of, to, graph_of}
use Rattle.graphs.proofs.Labels.{Labels, labels-few}
use Rattle.graphs.proofs.Breadth.{Kept}
use Rattle.graphs.proofs.Room.{profile-ready}
use Rattle.graphs.proofs.Blanks.{Listed}
use Rattle.graphs.proofs.Sound.{Sound, head0, Linked, graph-closed}
use Rattle.graphs.proofs.Queues.{Waiting, Scanning, queue-first, queue-begin, queue-pass, queue-join, queue-room, queue-room-edge, queue-end}
use Rattle.walks.proofs.Reading.{target, target_is}
use Rattle.walks.specs.Promises.{breadth_walk}
use Rattle.walks.specs.Writing.{total, Held, Roomy}
use Rattle.walks.proofs.Writing.{Emits, Puts, Starts, held-total, held-labels, held_test, held-lengths, emitted, labelling, beginning}

-- ---- vertices labelled
-- The start is labelled, and waits.
module _ (g : Image) (S : Sound g) (before : List ℕ) (start : ℕ) (is-vertex : Vertex g.n start) (B : Listed g.n before start) where
  pub first-waits : Waiting (graph_of g) before start ([] ▸ event label 0 start) (start ∷ [])
  first-waits = queue-first (graph_of g) before start (profile-ready g S before start is-vertex B)

  pub first-held : {marks₀ events₀ marks events t : List ℕ} → Roomy (g.n + g.m) (breadth_walk g before start) marks₀ events₀ → Starts (g.n + g.m) before start marks₀ events₀ marks events t
      → Held (g.n + g.m) before ([] ▸ event label 0 start) marks₀ events₀ marks events t
  first-held R w = let r = queue-room (graph_of g) before start (queue-begin (graph_of g) before start (graph-closed g S) first-waits) in beginning R (omega arith) start B.start_fresh is-vertex.0 (omega (arith, is-vertex.1)) w

-- Those that wait stand behind one another, before those scanned.
done-once : (q us : List ℕ) → NoDup (reverse_aux q us) → NoDup q
done-once [] us h = tt
done-once (d ∷ ds) us h = (λ k. (split ds (d ∷ us) h).apart d (here refl) k, done-once ds (d ∷ us) h)

queued : (n : ℕ) (before q us ls : List ℕ) → ls ≡ reverse_aux q us → Labels n (ls ++ before) → Labels n q
queued n before q us ls order L = record {
  once = done-once q us (subst NoDup order (nodup-left ls before L.once));
  all = λ x k. L.all x (mem-left before (subst (Mem x) (sym order) (mem-done us k)));
}

module _ {G : Graph} {before : List ℕ} {start : ℕ} where
  kept-labels : {us rs q ls : List ℕ} → Kept G before start us rs q ls → Labels G.size ls
  kept-labels {ls = ls} K = record { once = nodup-left ls before K.vertices.once; all = λ x k. K.vertices.all x (mem-left before k) }

  -- Those that wait are vertices, none twice; so are they with the one that is scanned.
  pub waiting-queued : {h : History} {q : List ℕ} → Waiting G before start h q → Labels G.size q
  waiting-queued {h} {q} W = queued G.size before q (scanned h) (labelled h) W.kept.order W.kept.vertices

  pub scanning-queued : {h : History} {v : ℕ} {rest q : List ℕ} → Scanning G before start h v rest q → Labels G.size (v ∷ q)
  scanning-queued {h} {v} {q = q} S = queued G.size before (v ∷ q) (scanned h) (labelled h) S.kept.order S.kept.vertices

  module _ {h : History} {q : List ℕ} (W : Waiting G before start h q) where
    -- So are those labelled.
    pub waiting-labels : Labels G.size (labelled h)
    waiting-labels = kept-labels W.kept

    -- They are the scanned and the waiting.
    pub waiting-count : length (labelled h) ≡ length q + length (scanned h)
    waiting-count = ap length W.kept.order ∙ length-reverse_aux q (scanned h)

    -- The events so far are among those of the whole search.
    pub waiting-room : Closed G → length h ≤ length (breadth_first G before start)
    waiting-room C = go q W
      where
        go : (l : List ℕ) → Waiting G before start h l → length h ≤ length (breadth_first G before start)
        go [] X = let e = ap length (queue-end G before start X) in omega arith
        go (v ∷ l) X = let k = queue-room G before start (queue-begin G before start C X) in omega arith

-- ---- edges ahead
-- Of the list of v, the edges `done` were traversed and `rest` are ahead, the first of them e, 0 where there is none.
pub record Ahead (g : Image) (v e : ℕ) (done rest : List ℕ) : Type 0 where
  pub splits : edges_of g v ≡ done ++ rest
  pub next : e ≡ head0 rest

-- e is the next of them, and its after word leads on.
pub record Next (g : Image) (v e : ℕ) (done rest : List ℕ) : Type 0 where
  pub later : List ℕ
  pub is : rest ≡ e ∷ later
  pub edge : Edge g.n g.m e
  pub target : Vertex g.n (to g e)
  pub ahead : Ahead g v (at 0 g.after e) (done ++ (e ∷ [])) later

linked-rest : (after done rest : List ℕ) → Linked after (done ++ rest) → Linked after rest
linked-rest after [] rest l = l
linked-rest after (r ∷ done) rest l = linked-rest after done rest l.1

module _ {g : Image} (S : Sound g) {v : ℕ} (is-vertex : Vertex g.n v) where
  -- All are ahead.
  pub ahead-all : Ahead g v (at 0 g.after v) [] (edges_of g v)
  ahead-all = record { splits = refl; next = S.first v is-vertex }

  module _ {e : ℕ} {done rest : List ℕ} (A : Ahead g v e done rest) where
    ahead-edge : (r : ℕ) → Mem r rest → Edge g.n g.m r
    ahead-edge r m = S.edge v r is-vertex (subst (Mem r) (sym A.splits) (mem-right done m))

    ahead-linked : Linked g.after rest
    ahead-linked = linked-rest g.after done rest (subst (Linked g.after) A.splits (S.linked v is-vertex))

    -- None is ahead.
    pub ahead_none : e ≡ 0 → rest ≡ []
    ahead_none z = go rest A.next ahead-edge
      where
        go : (l : List ℕ) → e ≡ head0 l → ((r : ℕ) → Mem r l → Edge g.n g.m r) → l ≡ []
        go [] n a = refl
        go (r ∷ l) n a = absurd (let k = a r (here refl) in let w : e ≡ r = n in omega arith)

    -- One is.
    pub ahead-next : (e ≡ 0 → ⊥) → Next g v e done rest
    ahead-next ne = go rest A.next A.splits ahead-edge ahead-linked
      where
        go : (l : List ℕ) → e ≡ head0 l → edges_of g v ≡ done ++ l → ((r : ℕ) → Mem r l → Edge g.n g.m r) → Linked g.after l → Next g v e done l
        go [] n s a k = absurd (ne n)
        go (r ∷ l) n s a k =
            let w : e ≡ r = n in
            let d : Edge g.n g.m e = subst (Edge g.n g.m) (sym w) (a r (here refl)) in
            record {
              later = l;
              is = ap (λ (x : ℕ). x ∷ l) (sym w);
              edge = d;
              target = S.target e d;
              ahead = record { splits = s ∙ ap (λ (x : ℕ). done ++ (x ∷ l)) (sym w) ∙ sym (append_assoc done (e ∷ []) l); next = ap (at 0 g.after) w ∙ k.0 };
            }

-- ---- within a scan
-- v is scanned, after the events h: its edges `rest` are ahead, the vertices q wait, and the areas are those that the events so far leave.
pub record InScan (g : Image) (before : List ℕ) (start : ℕ) (h : History) (v : ℕ) (rest q marks₀ events₀ marks events t : List ℕ) : Type 0 where
  pub roomy : Roomy (g.n + g.m) (breadth_walk g before start) marks₀ events₀
  pub scanning : Scanning (graph_of g) before start h v rest q
  pub held : Held (g.n + g.m) before h marks₀ events₀ marks events t

module _ {g : Image} {before : List ℕ} {start v : ℕ} {h : History} {q marks₀ events₀ marks events t : List ℕ} where
  module _ {rest : List ℕ} (I : InScan g before start h v rest q marks₀ events₀ marks events t) where
    scan-room : suc (length h) ≤ length (breadth_walk g before start)
    scan-room = queue-room (graph_of g) before start I.scanning

    -- Fewer events are tallied than the longest walk has.
    pub scan-few : total t < 10000
    scan-few = omega (arith, held-total I.held, scan-room, I.roomy.few)

    -- The areas keep their lengths.
    pub scan-kept : (length marks ≡ length marks₀) × (length events ≡ length events₀)
    scan-kept = held-lengths I.held I.roomy (omega (arith, scan-room))

    -- With equal areas.
    pub scan-same : {marks' events' t' : List ℕ} → marks' ≡ marks → events' ≡ events → t' ≡ t → InScan g before start h v rest q marks₀ events₀ marks' events' t'
    scan-same a b c = record { roomy = I.roomy; scanning = I.scanning; held = record { marked = a ∙ I.held.marked; written = b ∙ I.held.written; counts = c ∙ I.held.counts } }

    -- The scan is written.
    module _ {events' t' : List ℕ} (w : Emits 6 0 v events t events' t') where
      pub over-held : Held (g.n + g.m) before (h ▸ event scan 0 v) marks₀ events₀ marks events' t'
      over-held = emitted I.held I.roomy scan-room scan 0 v refl w

      pub over-total : total t' ≡ suc (total t)
      over-total = held-total over-held ∙ ap suc (sym (held-total I.held))

  -- The edge e is ahead.
  module _ {e : ℕ} {later : List ℕ} (I : InScan g before start h v (e ∷ later) q marks₀ events₀ marks events t) where
    abbrev x : ℕ
    x = target g e

    leads : to g e ≡ x
    leads = target_is g e

    pub leads-vertex : Vertex g.n x
    leads-vertex = subst (Vertex g.n) leads (I.scanning.kept.targets e (here refl))

    -- The mark of x tells whether x is labelled or on the blank.
    mark-test : eqb (get_or marks (x - 1) 0) 0 ≡ not (memb (to g e) (known before h))
    mark-test = ap (λ (w : ℕ). eqb w 0) (sym (read_at marks x)) ∙ held_test I.held x leads-vertex.0 (omega (arith, leads-vertex.1)) ∙ ap (λ (y : ℕ). not (memb y (known before h))) (sym leads)

    -- It is traversed.
    module _ {events₁ t₁ : List ℕ} (one : Emits 7 e v events t events₁ t₁) where
      crossed : Held (g.n + g.m) before (h ▸ event traverse e v) marks₀ events₀ marks events₁ t₁
      crossed = emitted I.held I.roomy (scan-room I) traverse e v refl one

      pub crossed-total : total t₁ ≡ suc (total t)
      crossed-total = held-total crossed ∙ ap suc (sym (held-total I.held))

      pub crossed-labels : get_or t₁ 0 0 ≡ length (labelled h)
      crossed-labels = held-labels crossed

      -- x is labelled already.
      pub edge-pass : get_or marks (x - 1) 0 ≢ 0 → InScan g before start (h ▸ event traverse e v) v later q marks₀ events₀ marks events₁ t₁
      edge-pass ne = record { roomy = I.roomy; scanning = queue-pass (graph_of g) before start I.scanning (not-false (memb (to g e) (known before h)) (sym mark-test ∙ ne_eqb (get_or marks (x - 1) 0) 0 ne)); held = crossed }

      -- x is not labelled yet.
      module _ (null : get_or marks (x - 1) 0 ≡ 0) where
        fresh : memb (to g e) (known before h) ≡ false
        fresh = not-true (memb (to g e) (known before h)) (sym mark-test ∙ eq-eqb (get_or marks (x - 1) 0) 0 null)

        off : Mem x before → ⊥
        off m = memb-false (to g e) (known before h) fresh (mem-right (labelled h) (subst (λ (y : ℕ). Mem y before) (sym leads) m))

        pub edge-queue : Scanning (graph_of g) before start (h ▸ event traverse e v ▸ event label 0 x) v later (q ++ (x ∷ []))
        edge-queue = subst (λ (y : ℕ). Scanning (graph_of g) before start (h ▸ event traverse e v ▸ event label 0 y) v later (q ++ (y ∷ []))) leads (queue-join (graph_of g) before start I.scanning fresh)

        -- With x, no more vertices are labelled than there are.
        pub edge-fits : suc (length (labelled h)) ≤ g.n
        edge-fits = labels-few g.n (x ∷ labelled h) (kept-labels edge-queue.kept)

        pub edge-join : {marks₂ events₂ t₂ : List ℕ} → Puts x marks events₁ t₁ marks₂ events₂ t₂ → InScan g before start (h ▸ event traverse e v ▸ event label 0 x) v later (q ++ (x ∷ [])) marks₀ events₀ marks₂ events₂ t₂
        edge-join two = record { roomy = I.roomy; scanning = edge-queue; held = labelling crossed I.roomy (omega (arith, queue-room-edge (graph_of g) before start I.scanning fresh)) x off leads-vertex.0 (omega (arith, leads-vertex.1)) two }

        pub edge-total : {marks₂ events₂ t₂ : List ℕ} → Puts x marks events₁ t₁ marks₂ events₂ t₂ → total t₂ ≡ suc (suc (total t))
        edge-total two = held-total (edge-join two).held ∙ ap (λ (k : ℕ). suc (suc k)) (sym (held-total I.held))
