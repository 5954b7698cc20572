-- Each step of the folded search, made at a place, fits and leads to the configuration of the next place.
-- A step touches only the outermost stores of the bent links, so its new links are those of the next place by the laws of stores.
use Rattle.std.proofs.Common.{◌≡◌, refl, sym, ap, ◌∙◌, Bool, true, false, cond, ◌&&◌, not, List, [], ◌∷◌, ℕ, suc, ◌+◌, ◌%◌, ◌≤◌, arith, length, length-append, eqb, ltb, eq-eqb, lt-ltb, le-ltb, le-leb}
use mathlib.Core.List.{reverse_aux}
use Rattle.lists.specs.Members.{Mem, here, memb}
use Rattle.lists.specs.Words.{at, put}
use Rattle.lists.proofs.Tests.{and-true, zero_test}
use Rattle.lists.proofs.Members.{memb-false, mem-left, nodup-apart}
use Rattle.lists.proofs.Words.{length-put, put-put, put-at, at-put}
use Rattle.graphs.specs.Nodes.{Vertex, Edge, is_vertex, is_edge, is_link, is_node}
use Rattle.graphs.specs.Events.{event, label, advance_tree, advance_nontree, retreat_nontree, retreat_tree, scan, History, ◌▸◌, known, labelled, scanned}
use Rattle.graphs.specs.Results.{marks_now, marks_rest, active_mark}
use Rattle.graphs.specs.Circles.{active, circular_of}
use Rattle.graphs.specs.Image.{Image, edges_of, to, graph_of}
use Rattle.graphs.proofs.Nodes.{vertex-yes, edge-yes, link-of-edge}
use Rattle.graphs.proofs.Labels.{Labels, labels-few}
use Rattle.graphs.proofs.Sound.{head0, Sound}
use Rattle.graphs.proofs.Places.{Frame, frame, parent, Above, Placed, of-done, of-rest}
use Rattle.graphs.proofs.Results.{marks-now-label, marks-now-test, marks-now-active, marks-now-scan}
use Rattle.graphs.proofs.Circles.{circular-tree}
use Rattle.folding.specs.Machine.{Config, walking, finished, rolling_back, rolled_back, target, forward, fresh, Step, tree, nontree, relink, retreat, finish, undo_tree, undo_open, pick_step, step_of, closed, upward, unscanned, fits, Stepped, relinked, enact, can_step, step}
use Rattle.folding.proofs.Bent.{top, bend, bent_after, bent_tail, config_at, config_end}
use Rattle.folding.proofs.Links.{at-bend, put-bend, length-bend, length-bent_after, length-bent_tail, ahead-tail, off-vertex, next_word, ahead, below}

-- The step to come fits, and leads there.
pub record Goes (w : Config) (s : Stepped) : Type 0 where
  pub can : can_step w ≡ true
  pub is : step w ≡ s

pub goes_by : (w : Config) (k : Step) (s : Stepped) → step_of w ≡ k → fits w k ≡ true → enact w k ≡ s → Goes w s
goes_by w k s p q e = record { can = ap (fits w) p ∙ q; is = ap (enact w) p ∙ e }

step_is : (w : Config) {a b c d x : Bool} → forward w ≡ a → fresh w ≡ b → ltb w.n w.f ≡ c → eqb w.f 0 ≡ d → eqb w.phase rolling_back ≡ x → step_of w ≡ pick_step a b c d x
unfolding step_of
step_is w p q r s t = λ i. pick_step (p i) (q i) (r i) (s i) (t i)

module _ (g : Image) (S : Sound g) (start : ℕ) where
  -- ---- the words taken into e and f are in kind
  pub link-rest : (u : ℕ) (du ru : List ℕ) → Vertex g.n u → edges_of g u ≡ reverse_aux du ru → is_link g.n g.m (head0 ru) ≡ true
  link-rest u du [] hu e = refl
  link-rest u du (r ∷ ru) hu e = link-of-edge g.n g.m r (edge-yes g.n g.m r (S.edge u r hu (of-rest (graph_of g) u du (r ∷ ru) e r (here refl))))

  parent-node : (s : List Frame) (v : ℕ) → Above (graph_of g) start s v → parent s ≤ g.n
  parent-node [] v a = omega arith
  parent-node (frame u du r ru ∷ s) v a = a.1.1

  pub node-top : (u : ℕ) (du ru : List ℕ) (s : List Frame) → Vertex g.n u → edges_of g u ≡ reverse_aux du ru → Above (graph_of g) start s u → is_node g.n g.m (top du (parent s)) ≡ true
  node-top u [] ru s hu e a = le-leb (parent s) (g.n + g.m) (omega (arith, parent-node s u a))
  node-top u (d ∷ ds) ru s hu e a = le-leb d (g.n + g.m) (S.edge u d hu (of-done (graph_of g) u (d ∷ ds) ru e d (here refl))).1

  -- ---- a place
  -- a(v), put back while v has no edge passed.
  reopened : (v : ℕ) (rest : List ℕ) (s : List Frame) (stale : ℕ) → Placed (graph_of g) start v [] rest s → put 0 (put 0 (bent_after g s) v stale) v (head0 rest) ≡ bent_after g s
  reopened v rest s stale P =
      put-put 0 (bent_after g s) v stale (head0 rest)
      ∙ ap (put 0 (bent_after g s) v) (sym (below g S start v s P.vertex P.above P.distinct ∙ ap head0 P.list))
      ∙ put-at 0 (bent_after g s) v

  -- The place below.
  pub down : (v u : ℕ) (rest du : List ℕ) (r : ℕ) (ru : List ℕ) (s : List Frame) → Placed (graph_of g) start v [] rest (frame u du r ru ∷ s) → Placed (graph_of g) start u du (r ∷ ru) s
  down v u rest du r ru s P = record { vertex = P.above.1; list = P.above.2; above = P.above.3; distinct = P.distinct.1 }

  pub ahead-edge : (v : ℕ) (done : List ℕ) (r : ℕ) (rs : List ℕ) (s : List Frame) → Placed (graph_of g) start v done (r ∷ rs) s → Edge g.n g.m r
  ahead-edge v done r rs s P = S.edge v r P.vertex (of-rest (graph_of g) v done (r ∷ rs) P.list r (here refl))

  -- The numbers of elements stay below 32,767.
  pub few-labels : (before : List ℕ) (h : History) → Labels g.n (known before h) → length (labelled h) ≤ 1000
  few-labels before h L = omega (arith, labels-few g.n (known before h) L, length-append (labelled h) before, S.few_vertices)

  module _ (before area : List ℕ) where
    -- ---- forward
    -- "Marked" is asked of t(e) as the step reads it.
    mark_of : (v : ℕ) (done : List ℕ) (r : ℕ) (rs : List ℕ) (s : List Frame) (stale : ℕ) (h : History) (b : Bool) → Placed (graph_of g) start v done (r ∷ rs) s → memb (to g r) (known before h) ≡ b → eqb (at 0 (marks_now (g.n + g.m) before h area) (at g.n (bent_tail g s) r)) 0 ≡ not b
    mark_of v done r rs s stale h b P k =
        let hx : Vertex g.n (to g r) = S.target r (ahead-edge v done r rs s P) in
        ap (λ (x : ℕ). eqb (at 0 (marks_now (g.n + g.m) before h area) x) 0) (ahead-tail g S start v done (r ∷ rs) s P r (here refl))
        ∙ marks-now-test (g.n + g.m) before h area (to g r) hx.0 (omega arith)
        ∙ ap not k

    -- So is "labelled and not yet scanned".
    circling-of : (v : ℕ) (done : List ℕ) (r : ℕ) (rs : List ℕ) (s : List Frame) (h : History) → Placed (graph_of g) start v done (r ∷ rs) s → Labels g.n (known before h)
        → unscanned (at 0 (marks_now (g.n + g.m) before h area) (at g.n (bent_tail g s) r)) ≡ active (to g r) h
    circling-of v done r rs s h P L =
        let hx : Vertex g.n (to g r) = S.target r (ahead-edge v done r rs s P) in
        ap (λ (x : ℕ). unscanned (at 0 (marks_now (g.n + g.m) before h area) x)) (ahead-tail g S start v done (r ∷ rs) s P r (here refl))
        ∙ marks-now-active (g.n + g.m) before h area (few-labels before h L) (to g r) (λ m k. nodup-apart (labelled h) before L.once (to g r) k m) hx.0 (omega arith)

    -- The scan of v leaves its number.
    scanned-marks : (v : ℕ) (h : History) → Vertex g.n v → (Mem v before → ⊥) → Labels g.n (known before h)
        → put 0 (marks_now (g.n + g.m) before h area) v (at 0 (marks_now (g.n + g.m) before h area) v % active_mark) ≡ marks_now (g.n + g.m) before (h ▸ event scan 0 v) area
    scanned-marks v h hv off L = marks-now-scan (g.n + g.m) before h area (few-labels before h L) v off hv.0 (omega arith)

    pub nontree-goes : (v : ℕ) (done : List ℕ) (r : ℕ) (rs : List ℕ) (s : List Frame) (stale : ℕ) (h : History) → Placed (graph_of g) start v done (r ∷ rs) s → Labels g.n (known before h) → memb (to g r) (known before h) ≡ true
        → Goes (config_at g before start area walking v done (r ∷ rs) s stale h) (record { config = config_at g before start area walking v (r ∷ done) rs s stale (h ▸ event advance_nontree r v ▸ event retreat_nontree r v); events = event advance_nontree r v ∷ event retreat_nontree r v ∷ [] })
    unfolding fits enact
    nontree-goes v done r rs s stale h P L k =
        let w = config_at g before start area walking v done (r ∷ rs) s stale h in
        let ed : Edge g.n g.m r = ahead-edge v done r rs s P in
        let tl : target w r ≡ to g r = ahead-tail g S start v done (r ∷ rs) s P r (here refl) in
        let word : at 0 w.after r ≡ head0 rs = ahead g S start v done (r ∷ rs) s stale P r (here refl) ∙ next_word g S start v done r rs P.vertex P.list in
        goes_by w nontree _
        (step_is w (ap not (zero_test r (omega arith))) (mark_of v done r rs s stale h true P k) refl refl refl)
        (and-true
        (ap (is_vertex g.n) tl ∙ vertex-yes g.n (to g r) (S.target r ed))
        (ap (is_link g.n g.m) word ∙ link-rest v (r ∷ done) rs P.vertex P.list))
        (λ i. record {
          config = record { n = g.n; m = g.m; start = start; v = v; e = word i; f = r; phase = walking; next = suc (length (labelled h)); circular = cond (circling-of v done r rs s h P L i) 1 (circular_of (graph_of g) h); after = bend (r ∷ done) (parent s) (put 0 (bent_after g s) v stale); tail = bent_tail g s; marks = marks_now (g.n + g.m) before h area };
          events = event advance_nontree r v ∷ event retreat_nontree r v ∷ [];
        })

    pub tree-goes : (v : ℕ) (done : List ℕ) (r : ℕ) (rs : List ℕ) (s : List Frame) (stale : ℕ) (h : History) → Placed (graph_of g) start v done (r ∷ rs) s → memb (to g r) (known before h) ≡ false → (Mem (to g r) before → ⊥) → (Mem (to g r) (scanned h) → ⊥) → Labels g.n (to g r ∷ known before h) → Placed (graph_of g) start (to g r) [] (edges_of g (to g r)) (frame v done r rs ∷ s)
        → Goes (config_at g before start area walking v done (r ∷ rs) s stale h) (record { config = config_at g before start area walking (to g r) [] (edges_of g (to g r)) (frame v done r rs ∷ s) (at 0 (bent_after g (frame v done r rs ∷ s)) (to g r)) (h ▸ event advance_tree r v ▸ event label 0 (to g r)); events = event advance_tree r v ∷ event label 0 (to g r) ∷ [] })
    unfolding fits enact
    tree-goes v done r rs s stale h P k off new L Q =
        let w = config_at g before start area walking v done (r ∷ rs) s stale h in
        let ed : Edge g.n g.m r = ahead-edge v done r rs s P in
        let tl : target w r ≡ to g r = ahead-tail g S start v done (r ∷ rs) s P r (here refl) in
        let hv : Vertex g.n v = P.vertex in
        let hx : Vertex g.n (to g r) = Q.vertex in
        let shut : closed w ≡ bent_after g (frame v done r rs ∷ s) =
        put-bend done (parent s) (put 0 (bent_after g s) v stale) v r hv.0 (off-vertex g S start v done (r ∷ rs) hv P.list)
        ∙ ap (bend done (parent s)) (put-put 0 (bent_after g s) v stale r) in
        let word : at 0 (closed w) (target w r) ≡ head0 (edges_of g (to g r)) =
        (λ i. at 0 (shut i) (tl i)) ∙ below g S start (to g r) (frame v done r rs ∷ s) hx Q.above Q.distinct in
        let few : suc (length (labelled h)) ≤ g.n = (omega (arith, labels-few g.n (to g r ∷ known before h) L, length-append (labelled h) before)) in
        let labels : put 0 (marks_now (g.n + g.m) before h area) (target w r) (active_mark + suc (length (labelled h))) ≡ marks_now (g.n + g.m) before (h ▸ event advance_tree r v ▸ event label 0 (to g r)) area =
        ap (λ (x : ℕ). put 0 (marks_now (g.n + g.m) before h area) x (active_mark + suc (length (labelled h)))) tl ∙ marks-now-label (g.n + g.m) before h area (to g r) off new hx.0 (omega arith) in
        let figure : circular_of (graph_of g) h ≡ circular_of (graph_of g) (h ▸ event advance_tree r v) = sym (circular-tree (graph_of g) r v h (λ m. memb-false (to g r) (known before h) k (mem-left before m))) in
        let opened : closed w ≡ put 0 (bent_after g (frame v done r rs ∷ s)) (to g r) (at 0 (bent_after g (frame v done r rs ∷ s)) (to g r)) = shut ∙ sym (put-at 0 (bent_after g (frame v done r rs ∷ s)) (to g r)) in
        goes_by w tree _
        (step_is w (ap not (zero_test r (omega arith))) (mark_of v done r rs s stale h false P k) refl refl refl)
        (and-true
        (ap (is_vertex g.n) tl ∙ vertex-yes g.n (to g r) hx)
        (and-true
        (le-leb (suc (length (labelled h))) g.n few)
        (ap (is_link g.n g.m) word ∙ link-rest (to g r) [] (edges_of g (to g r)) hx refl)))
        (λ i. record {
          config = record { n = g.n; m = g.m; start = start; v = tl i; e = word i; f = v; phase = walking; next = suc (suc (length (labelled h))); circular = figure i; after = opened i; tail = bent_tail g (frame v done r rs ∷ s); marks = labels i };
          events = event advance_tree r v ∷ event label 0 (tl i) ∷ [];
        })

    -- ---- back
    -- f is an edge: in phase 2 or 4, or in phase 1 with nothing ahead.
    pub relink-goes : (ph : ℕ) (b : Bool) (v d : ℕ) (ds rest : List ℕ) (s : List Frame) (stale : ℕ) (h : History) → (eqb ph walking && not (eqb (head0 rest) 0)) ≡ false → eqb ph rolling_back ≡ b → Placed (graph_of g) start v (d ∷ ds) rest s
        → Goes (config_at g before start area ph v (d ∷ ds) rest s stale h) (record { config = config_at g before start area (relinked b) v ds (d ∷ rest) s stale h; events = [] })
    unfolding fits enact
    relink-goes ph b v d ds rest s stale h back roll P =
        let w = config_at g before start area ph v (d ∷ ds) rest s stale h in
        let under = bend ds (parent s) (put 0 (bent_after g s) v stale) in
        let Q : Placed (graph_of g) start v ds (d ∷ rest) s = record { vertex = P.vertex; list = P.list; above = P.above; distinct = P.distinct } in
        let ed : Edge g.n g.m d = ahead-edge v ds d rest s Q in
        let long : length (bend ds (parent s) (put 0 (bent_after g s) v stale)) ≡ length g.after =
        length-bend ds (parent s) (put 0 (bent_after g s) v stale) ∙ length-put 0 (bent_after g s) v stale ∙ length-bent_after g s in
        let word : at 0 w.after d ≡ top ds (parent s) = at-put 0 (bend ds (parent s) (put 0 (bent_after g s) v stale)) d (top ds (parent s)) (omega arith) (omega (arith, S.long_after)) in
        let old : at 0 (bend ds (parent s) (put 0 (bent_after g s) v stale)) d ≡ head0 rest = ahead g S start v ds (d ∷ rest) s stale Q d (here refl) ∙ next_word g S start v ds d rest P.vertex P.list in
        let restored : put 0 w.after d (head0 rest) ≡ bend ds (parent s) (put 0 (bent_after g s) v stale) =
        put-put 0 (bend ds (parent s) (put 0 (bent_after g s) v stale)) d (top ds (parent s)) (head0 rest)
        ∙ ap (put 0 (bend ds (parent s) (put 0 (bent_after g s) v stale)) d) (sym old)
        ∙ put-at 0 (bend ds (parent s) (put 0 (bent_after g s) v stale)) d in
        goes_by w relink _
        (step_is w back refl (lt-ltb g.n d ed.0) refl refl)
        (ap (is_node g.n g.m) word ∙ node-top v ds (d ∷ rest) s P.vertex P.list P.above)
        (λ i. record {
          config = record { n = g.n; m = g.m; start = start; v = v; e = d; f = word i; phase = relinked (roll i); next = suc (length (labelled h)); circular = circular_of (graph_of g) h; after = restored i; tail = bent_tail g s; marks = marks_now (g.n + g.m) before h area };
          events = [];
        })

    -- f is a vertex u: what a close reads.
    record Back (w : Config) (v u : ℕ) (du : List ℕ) (r : ℕ) (ru : List ℕ) (s : List Frame) : Type 0 where
      shut : closed w ≡ bent_after g (frame u du r ru ∷ s)
      up : upward w ≡ r
      trail : target w (upward w) ≡ top du (parent s)
      word : at 0 (closed w) (upward w) ≡ head0 ru
      tail-back : put g.n (bent_tail g (frame u du r ru ∷ s)) (upward w) v ≡ bent_tail g s

    back_at : (ph v u : ℕ) (rest du : List ℕ) (r : ℕ) (ru : List ℕ) (s : List Frame) (stale : ℕ) (h : History) → Placed (graph_of g) start v [] rest (frame u du r ru ∷ s)
        → Back (config_at g before start area ph v [] rest (frame u du r ru ∷ s) stale h) v u du r ru s
    back_at ph v u rest du r ru s stale h P =
        let w = config_at g before start area ph v [] rest (frame u du r ru ∷ s) stale h in
        let Q : Placed (graph_of g) start u du (r ∷ ru) s = down v u rest du r ru s P in
        let ed : Edge g.n g.m r = ahead-edge u du r ru s Q in
        let hu : Vertex g.n u = Q.vertex in
        let shut : closed w ≡ bent_after g (frame u du r ru ∷ s) = reopened v rest (frame u du r ru ∷ s) stale P in
        let at-u : at 0 (bent_after g (frame u du r ru ∷ s)) u ≡ r =
        at-bend du (parent s) (put 0 (bent_after g s) u r) u hu.0 (off-vertex g S start u du (r ∷ ru) hu Q.list)
        ∙ at-put 0 (bent_after g s) u r hu.0 (omega (arith, length-bent_after g s, S.long_after)) in
        let up : upward w ≡ r = ap (λ (l : List ℕ). at 0 l u) shut ∙ at-u in
        record {
          shut = shut;
          up = up;
          trail = ap (at g.n (bent_tail g (frame u du r ru ∷ s))) up ∙ at-put g.n (bent_tail g s) r (top du (parent s)) ed.0 (omega (arith, length-bent_tail g s, S.long_tail));
          word = (λ i. at 0 (shut i) (up i)) ∙ ahead g S start u du (r ∷ ru) s r Q r (here refl) ∙ next_word g S start u du r ru hu Q.list;
          tail-back =
              ap (λ (y : ℕ). put g.n (bent_tail g (frame u du r ru ∷ s)) y v) up
              ∙ put-put g.n (bent_tail g s) r (top du (parent s)) v
              ∙ ap (put g.n (bent_tail g s) r) (sym (ahead-tail g S start u du (r ∷ ru) s Q r (here refl) ∙ P.above.0))
              ∙ put-at g.n (bent_tail g s) r;
        }

    pub retreat-goes : (ph v u : ℕ) (rest du : List ℕ) (r : ℕ) (ru : List ℕ) (s : List Frame) (stale : ℕ) (h : History) → (eqb ph walking && not (eqb (head0 rest) 0)) ≡ false → eqb ph rolling_back ≡ false → Placed (graph_of g) start v [] rest (frame u du r ru ∷ s) → (Mem v before → ⊥) → Labels g.n (known before h)
        → Goes (config_at g before start area ph v [] rest (frame u du r ru ∷ s) stale h) (record { config = config_at g before start area walking u (r ∷ du) ru s r (h ▸ event scan 0 v ▸ event retreat_tree r u); events = event scan 0 v ∷ event retreat_tree r u ∷ [] })
    unfolding fits enact
    retreat-goes ph v u rest du r ru s stale h bk roll P off L =
        let w = config_at g before start area ph v [] rest (frame u du r ru ∷ s) stale h in
        let K : Back w v u du r ru s = back_at ph v u rest du r ru s stale h P in
        let Q : Placed (graph_of g) start u du (r ∷ ru) s = down v u rest du r ru s P in
        let hu : Vertex g.n u = Q.vertex in
        goes_by w retreat _
        (step_is w bk refl (le-ltb g.n u hu.1) (zero_test u hu.0) roll)
        (and-true
        (ap (is_edge g.n g.m) K.up ∙ edge-yes g.n g.m r (ahead-edge u du r ru s Q))
        (and-true
        (ap (is_node g.n g.m) K.trail ∙ node-top u du (r ∷ ru) s hu Q.list Q.above)
        (ap (is_link g.n g.m) K.word ∙ link-rest u (r ∷ du) ru hu Q.list)))
        (λ i. record {
          config = record { n = g.n; m = g.m; start = start; v = u; e = K.word i; f = K.up i; phase = walking; next = suc (length (labelled h)); circular = circular_of (graph_of g) h; after = put 0 (K.shut i) (K.up i) (K.trail i); tail = K.tail-back i; marks = scanned-marks v h P.vertex off L i };
          events = event scan 0 v ∷ event retreat_tree (K.up i) u ∷ [];
        })

    pub undo-tree-goes : (v u : ℕ) (rest du : List ℕ) (r : ℕ) (ru : List ℕ) (s : List Frame) (stale : ℕ) (h : History) → Placed (graph_of g) start v [] rest (frame u du r ru ∷ s)
        → Goes (config_at g before start area rolling_back v [] rest (frame u du r ru ∷ s) stale h) (record { config = config_at g before start area rolling_back u du (r ∷ ru) s r h; events = [] })
    unfolding fits enact
    undo-tree-goes v u rest du r ru s stale h P =
        let w = config_at g before start area rolling_back v [] rest (frame u du r ru ∷ s) stale h in
        let K : Back w v u du r ru s = back_at rolling_back v u rest du r ru s stale h P in
        let Q : Placed (graph_of g) start u du (r ∷ ru) s = down v u rest du r ru s P in
        let hu : Vertex g.n u = Q.vertex in
        goes_by w undo_tree _
        (step_is w refl refl (le-ltb g.n u hu.1) (zero_test u hu.0) refl)
        (and-true
        (ap (is_edge g.n g.m) K.up ∙ edge-yes g.n g.m r (ahead-edge u du r ru s Q))
        (ap (is_node g.n g.m) K.trail ∙ node-top u du (r ∷ ru) s hu Q.list Q.above))
        (λ i. record {
          config = record { n = g.n; m = g.m; start = start; v = u; e = K.up i; f = K.trail i; phase = rolling_back; next = suc (length (labelled h)); circular = circular_of (graph_of g) h; after = K.shut i; tail = K.tail-back i; marks = marks_now (g.n + g.m) before h area };
          events = [];
        })

    -- f is null: the last close.
    pub finish-goes : (ph v : ℕ) (rest : List ℕ) (stale : ℕ) (h : History) → (eqb ph walking && not (eqb (head0 rest) 0)) ≡ false → eqb ph rolling_back ≡ false → Placed (graph_of g) start v [] rest [] → (Mem v before → ⊥) → Labels g.n (known before h)
        → Goes (config_at g before start area ph v [] rest [] stale h) (record { config = config_end g start finished (head0 rest) (marks_now (g.n + g.m) before (h ▸ event scan 0 v) area) (h ▸ event scan 0 v); events = event scan 0 v ∷ [] })
    unfolding fits enact
    finish-goes ph v rest stale h bk roll P off L =
        let w = config_at g before start area ph v [] rest [] stale h in
        goes_by w finish _
        (step_is w bk refl (le-ltb g.n 0 (omega arith)) refl roll)
        (eq-eqb v start P.above)
        (λ i. record {
          config = record { n = g.n; m = g.m; start = start; v = P.above i; e = head0 rest; f = 0; phase = finished; next = suc (length (labelled h)); circular = circular_of (graph_of g) h; after = reopened v rest [] stale P i; tail = g.tail; marks = scanned-marks v h P.vertex off L i };
          events = event scan 0 v ∷ [];
        })

    pub undo-open-goes : (v : ℕ) (rest : List ℕ) (stale : ℕ) (h : History) → Placed (graph_of g) start v [] rest []
        → Goes (config_at g before start area rolling_back v [] rest [] stale h) (record { config = config_end g start rolled_back (head0 rest) (marks_rest g.n (marks_now (g.n + g.m) before h area)) h; events = [] })
    unfolding fits enact
    undo-open-goes v rest stale h P =
        let w = config_at g before start area rolling_back v [] rest [] stale h in
        goes_by w undo_open _
        (step_is w refl refl (le-ltb g.n 0 (omega arith)) refl refl)
        (eq-eqb v start P.above)
        (λ i. record {
          config = record { n = g.n; m = g.m; start = start; v = P.above i; e = head0 rest; f = 0; phase = rolled_back; next = suc (length (labelled h)); circular = circular_of (graph_of g) h; after = reopened v rest [] stale P i; tail = g.tail; marks = marks_rest g.n (marks_now (g.n + g.m) before h area) };
          events = [];
        })
