-- Every call keeps the invariant of line B, taken or refused; so every list of calls does.
-- Under the invariant a call meets no condition but 3 for its event area and 9, and a refused call changes nothing.
use Rattle.std.proofs.Common.{◌≡◌, refl, sym, ap, ◌∙◌, subst, Bool, true, false, cond, ◌&&◌, ◌||◌, not, List, [], ◌∷◌, ◌++◌, append-nil, reverse, ℕ, suc, ◌+◌, ◌*◌, ◌≤◌, arith, add-zero, length, length-append, ltb, leb, le-leb, le-ltb, ne_eqb}
use mathlib.Core.List.{reverse_aux}
use borrow.Author.Tests.{eqb-false}
use Rattle.lists.specs.Members.{Mem, here}
use Rattle.lists.specs.Words.{at, put}
use Rattle.lists.proofs.Tests.{clash, or-true, or-none}
use Rattle.lists.proofs.Members.{mem-nil}
use Rattle.lists.proofs.Words.{length-put, put-at, length-filled}
use Rattle.graphs.specs.Nodes.{Vertex}
use Rattle.graphs.specs.Events.{Event, event, label, History, ◌▸◌, labelled}
use Rattle.graphs.specs.Results.{unless_blank, marks_first, marks_now}
use Rattle.graphs.specs.Image.{Image, edges_of, graph_of}
use Rattle.graphs.specs.Refusals.{Refusal, refuse, first_of, vertices_out, edges_out, vertex_out}
use Rattle.graphs.proofs.Nodes.{vertex-yes}
use Rattle.graphs.proofs.Labels.{Labels, labels-few}
use Rattle.graphs.proofs.Sound.{Sound}
use Rattle.graphs.proofs.Blanks.{Listed}
use Rattle.graphs.proofs.Room.{profile-ready}
use Rattle.graphs.proofs.Places.{Frame, parent, finishing, scene-first}
use Rattle.graphs.proofs.Results.{marks-now-first, marks-now-length}
use Rattle.graphs.proofs.Circles.{circular-bit}
use Rattle.folding.specs.Machine.{Config, walking, restoring, finished, rolling_back, rolled_back, can_step, step}
use Rattle.folding.specs.Calls.{Reason, ended, spent, stuck, Answer, ran, refused, refusing, unless, over, fields_in, state_number, work_areas, step_refusals, in_phase, run, Call, run_for, single, roll_back, area_of, number_of, perform, serve, opened_at, run_number, step_number, roll_back_number}
use Rattle.folding.specs.Lines.{Line, orders, add_if, noted, calls, folded}
use Rattle.folding.specs.Claims.{Faultless}
use Rattle.folding.proofs.Bent.{bent_after, config_at, config_end}
use Rattle.folding.proofs.Links.{length-bend, length-bent_after, length-bent_tail}
use Rattle.folding.proofs.Steps.{link-rest, node-top}
use Rattle.folding.proofs.Future.{all_of, Short, short, in_order}
use Rattle.folding.proofs.Invariant.{Trace, tick, Scene, Closed, Holds, at-walking, at-restoring, at-rolling, at-end, at-undone, Moves, move}
use Rattle.folding.proofs.Fields.{fields-yes}
use Rattle.folding.proofs.Running.{since_none, Calm, calm_more, Free, Ran, run_holds}

-- A line as a trace, its events the last of them first.
abbrev pub trace_of : Line → History → Trace
trace_of l h = record { config = l.config; history = h; steps = l.steps; rolling = l.rolling; since = l.since }

module _ (g : Image) (S : Sound g) (before : List ℕ) (start : ℕ) (hs : Vertex g.n start) (blank : Listed g.n before start) (area : List ℕ) (long : g.n + g.m ≤ length area) where
  pub record Held (l : Line) : Type 0 where
    pub history : History
    pub events : l.events ≡ reverse history
    pub holds : Holds g before start area (trace_of l history)
    pub calm : Calm (trace_of l history)
    pub faultless : Faultless l.answers

  -- ---- no number before 9, the event area apart
  record Sized (w : Config) : Type 0 where
    n-in : vertices_out w.n ≡ false
    m-in : edges_out w.m ≡ false
    after-long : ltb (length w.after) (w.n + w.m) ≡ false
    tail-long : ltb (length w.tail) w.m ≡ false
    marks-long : ltb (length w.marks) (w.n + w.m) ≡ false
    start-in : vertex_out w.n w.start ≡ false
    fields : fields_in w ≡ true

  sized-at : (w : Config) → w.n ≡ g.n → w.m ≡ g.m → w.start ≡ start → length w.after ≡ length g.after → length w.tail ≡ length g.tail → length w.marks ≡ length area → fields_in w ≡ true → Sized w
  sized-at w en em es la lt lm k =
      let fv = S.few_vertices in
      let fe = S.few_edges in
      let oa = S.long_after in
      let ot = S.long_tail in
      record {
        n-in = (λ i. ne_eqb w.n 0 (λ e. (let z : w.n ≡ 0 = e in omega arith)) i || le-ltb 1000 w.n (omega arith) i);
        m-in = le-ltb 4000 w.m (omega arith);
        after-long = le-ltb (length w.after) (w.n + w.m) (omega arith);
        tail-long = le-ltb (length w.tail) w.m (omega arith);
        marks-long = le-ltb (length w.marks) (w.n + w.m) (omega arith);
        start-in = ap not (vertex-yes w.n w.start (omega arith, omega arith));
        fields = k;
      }

  -- The next label number is in 2 to n + 1.
  next-in : (ls : List ℕ) (v : ℕ) → Labels g.n (ls ++ before) → Mem v ls → (2 ≤ suc (length ls)) × (suc (length ls) ≤ suc g.n)
  next-in [] v L m = absurd (mem-nil m)
  next-in (x ∷ ls) v L m = let h = labels-few g.n (x ∷ (ls ++ before)) L in let l = length-append ls before in omega arith

  scene-sized : (ph : ℕ) (t : Trace) (v : ℕ) (done rest : List ℕ) (s : List Frame) (stale : ℕ) → (ltb 0 ph && leb ph 6) ≡ true → Scene g before start area ph t v done rest s stale → Sized t.config
  scene-sized ph t v done rest s stale k C =
      let P = C.placed in
      let h = t.history in
      let n = next-in (labelled h) v C.labels (C.seen v (here refl)) in
      subst Sized (sym C.is-config)
      (sized-at (config_at g before start area ph v done rest s stale h) refl refl refl
      (length-bend done (parent s) (put 0 (bent_after g s) v stale) ∙ length-put 0 (bent_after g s) v stale ∙ length-bent_after g s)
      (length-bent_tail g s)
      (marks-now-length (g.n + g.m) before h area long)
      (fields-yes (config_at g before start area ph v done rest s stale h) (record { v-in = vertex-yes g.n v P.vertex; e-in = link-rest g S start v done rest P.vertex P.list; f-in = node-top g S start v done rest s P.vertex P.list P.above; phase-in = k; next_low = n.0; next_high = n.1; circular-in = circular-bit (graph_of g) h })))

  closed-sized : (ph : ℕ) (marks : List ℕ) (t : Trace) → (ltb 0 ph && leb ph 6) ≡ true → length marks ≡ length area → Closed g before start area ph marks t → Sized t.config
  closed-sized ph marks t k lm K =
      let h = t.history in
      let n = next-in (labelled h) start K.labels K.seen in
      subst Sized (sym K.is-config)
      (sized-at (config_end g start ph K.e marks h) refl refl refl refl refl lm
      (fields-yes (config_end g start ph K.e marks h) (record { v-in = vertex-yes g.n start hs; e-in = K.link; f-in = le-leb 0 (g.n + g.m) (omega arith); phase-in = k; next_low = n.0; next_high = n.1; circular-in = circular-bit (graph_of g) h })))

  sized : (t : Trace) → Holds g before start area t → Sized t.config
  sized t (at-walking v done rest s stale C fut calm cnt) = scene-sized walking t v done rest s stale refl C
  sized t (at-restoring v done rest s stale C fut calm cnt) = scene-sized restoring t v done rest s stale refl C
  sized t (at-rolling v done rest s stale C sh ro cnt) = scene-sized rolling_back t v done rest s stale refl C
  sized t (at-end K e calm cnt) = closed-sized finished (marks_now (g.n + g.m) before t.history area) t refl (marks-now-length (g.n + g.m) before t.history area long) K
  sized t (at-undone K e ro cnt) = closed-sized rolled_back (marks_first (g.n + g.m) before area) t refl (length-filled (unless_blank before (λ x. 0)) (g.n + g.m) area long) K

  -- The number of a call that is lent links and marks: 3 where its event area is short, else its own.
  work-number : (w : Config) (k : ℕ) (events : List ℕ) (own : List Refusal) (b : Bool) → Sized w → ltb (length events) k ≡ b → state_number w (work_areas w k events) own ≡ cond b 3 (first_of own)
  work-number w k events own b Z e =
      let room : (ltb (length events) k || false) ≡ b = or-none (ltb (length events) k) ∙ e in
      λ i. first_of (refuse 1 (Z.n-in i) ∷ refuse 2 (Z.m-in i) ∷ refuse 3 (Z.after-long i || (Z.tail-long i || (Z.marks-long i || room i))) ∷ refuse 4 (Z.start-in i) ∷ refuse 8 (not (Z.fields i)) ∷ own)

  order-number : (w : Config) (own : List Refusal) → Sized w → state_number w [] own ≡ first_of own
  order-number w own Z = λ i. first_of (refuse 1 (Z.n-in i) ∷ refuse 2 (Z.m-in i) ∷ refuse 3 false ∷ refuse 4 (Z.start-in i) ∷ refuse 8 (not (Z.fields i)) ∷ own)

  -- The number of a call that is lent no area is its own.
  pub own-number : (l : Line) (own : List Refusal) → Held l → state_number l.config [] own ≡ first_of own
  own-number l own H = order-number l.config own (sized (trace_of l H.history) H.holds)

  -- ---- a refused call
  refused-held : (l : Line) (c : Call) (k : ℕ) (room : List ℕ) → (k ≡ 8 → ⊥) → orders c (refused k) ≡ false → Held l → Held (noted l c (refusing k l.config room))
  refused-held l c k room ne o H = record {
    history = H.history;
    events = append-nil l.events ∙ H.events;
    holds = subst (Holds g before start area) (sym same) H.holds;
    calm = λ e. calm_more (trace_of l H.history) 0 (sym (or-none l.rolling) ∙ ap (λ (b : Bool). l.rolling || b) (sym o) ∙ e);
    faultless = (ne, H.faultless);
  }
    where
      same : trace_of (noted l c (refusing k l.config room)) H.history ≡ trace_of l H.history
      same = λ i. record { config = l.config; history = H.history; steps = add-zero l.steps i; rolling = (ap (λ (b : Bool). l.rolling || b) o ∙ or-none l.rolling) i; since = since_none l.rolling l.since H.calm i }

  -- ---- a run
  free-faultless : (why : Reason) (rest : List Answer) → Free why → Faultless rest → Faultless (ran why ∷ rest)
  free-faultless ended rest f h = h
  free-faultless spent rest f h = h
  free-faultless stuck rest f h = f

  run-held : (l : Line) (k : ℕ) (room : List ℕ) → Held l → Held (noted l (run_for k room) (perform l.config (run_for k room)))
  run-held l k room H =
      let r = run k l.config in
      let t = trace_of l H.history in
      let R : Ran g S before start area (trace_of l H.history) (run k l.config) = run_holds g S before start area k (trace_of l H.history) H.holds H.calm in
      record {
        history = reverse_aux r.events H.history;
        events = ap (λ (es : List Event). es ++ r.events) H.events ∙ in_order r.events H.history;
        holds = subst (Holds g before start area) (λ i. record { config = r.config; history = reverse_aux r.events H.history; steps = l.steps + r.steps; rolling = sym (or-none l.rolling) i; since = add_if l.rolling l.since r.steps }) R.holds;
        calm = λ e. calm_more (trace_of l H.history) r.steps (sym (or-none l.rolling) ∙ e);
        faultless = free-faultless r.reason l.answers R.free H.faultless;
      }

  -- ---- a single step
  step-held : (l : Line) (room : List ℕ) (H : Held l) (M : Moves g before start area (trace_of l H.history)) → Held (noted l (single room) (perform l.config (single room)))
  step-held l room H M =
      let s = step l.config in
      let e : M.next ≡ step l.config = sym M.goes.is in
      let one : suc l.steps ≡ l.steps + 1 = omega arith in
      record {
        history = reverse_aux s.events H.history;
        events = ap (λ (es : List Event). es ++ s.events) H.events ∙ in_order s.events H.history;
        holds = subst (Holds g before start area)
            ((λ i. tick (trace_of l H.history) (e i))
            ∙ (λ i. record { config = s.config; history = reverse_aux s.events H.history; steps = one i; rolling = sym (or-none l.rolling) i; since = add_if l.rolling l.since 1 }))
            M.holds;
        calm = λ q. calm_more (trace_of l H.history) 1 (sym (or-none l.rolling) ∙ q);
        faultless = H.faultless;
      }

  -- ---- a roll-back order
  -- The trace once it is taken.
  abbrev ordered : Trace → Trace
  ordered t = record { config = in_phase rolling_back t.config; history = t.history; steps = t.steps + 0; rolling = t.rolling || true; since = add_if t.rolling t.since 0 }

  order-scene : (ph : ℕ) (t : Trace) (v : ℕ) (done rest : List ℕ) (s : List Frame) (stale : ℕ) → Scene g before start area ph t v done rest s stale → Scene g before start area rolling_back (ordered t) v done rest s stale
  order-scene ph t v done rest s stale C = record { placed = C.placed; labels = C.labels; seen = C.seen; scans = C.scans; is-config = ap (in_phase rolling_back) C.is-config; light = C.light }

  order-first : (ph : ℕ) (t : Trace) (v : ℕ) (done rest ahead : List ℕ) (s : List Frame) (stale : ℕ) → Scene g before start area ph t v done rest s stale → finishing (graph_of g) before s v ahead t.history ≡ all_of g before start → t.rolling ≡ false → Holds g before start area (ordered t)
  order-first ph t v done rest ahead s stale C fut calm =
      let sh : Short t.history (all_of g before start) = subst (Short t.history) fut (short g before s v ahead t.history) in
      let k = C.light in
      at-rolling v done rest s stale (order-scene ph t v done rest s stale C) sh (or-true t.rolling) (rw calm (omega arith))

  order-holds : (t : Trace) → Holds g before start area t → over t.config ≡ false → Holds g before start area (ordered t)
  order-holds t (at-walking v done rest s stale C fut calm cnt) o = order-first walking t v done rest rest s stale C fut calm
  order-holds t (at-restoring v done rest s stale C fut calm cnt) o = order-first restoring t v done rest [] s stale C fut calm
  order-holds t (at-rolling v done rest s stale C sh ro cnt) o = at-rolling v done rest s stale (order-scene rolling_back t v done rest s stale C) sh (or-true t.rolling) (rw ro (omega arith))
  order-holds t (at-end K e calm cnt) o = clash (sym (ap over K.is-config) ∙ o)
  order-holds t (at-undone K e ro cnt) o = clash (sym (ap over K.is-config) ∙ o)

  order-held : (l : Line) (H : Held l) → over l.config ≡ false → Held (noted l roll_back (perform l.config roll_back))
  order-held l H o = record {
    history = H.history;
    events = append-nil l.events ∙ H.events;
    holds = order-holds (trace_of l H.history) H.holds o;
    calm = λ e. clash (sym (or-true l.rolling) ∙ e);
    faultless = H.faultless;
  }

  -- ---- any call
  by_number : (l : Line) (c : Call) (k : ℕ) → number_of l.config c ≡ k → Held (noted l c (unless k l.config (area_of c) (perform l.config c))) → Held (noted l c (serve l.config c))
  unfolding serve
  by_number l c k e H = subst (λ (x : ℕ). Held (noted l c (unless x l.config (area_of c) (perform l.config c)))) (sym e) H

  -- A run with room for its events is not refused.
  pub run-number : (l : Line) (k : ℕ) (room : List ℕ) → Held l → 6 * k ≤ length room → number_of l.config (run_for k room) ≡ 0
  unfolding run_number
  run-number l k room H e = work-number l.config (6 * k) room [] false (sized (trace_of l H.history) H.holds) (le-ltb (length room) (6 * k) e)

  run-called : (l : Line) (k : ℕ) (room : List ℕ) → Held l → (b : Bool) → ltb (length room) (6 * k) ≡ b → Held (noted l (run_for k room) (serve l.config (run_for k room)))
  unfolding run_number
  run-called l k room H true e = by_number l (run_for k room) 3 (work-number l.config (6 * k) room [] true (sized (trace_of l H.history) H.holds) e) (refused-held l (run_for k room) 3 room (eqb-false 3 8 refl) refl H)
  run-called l k room H false e = by_number l (run_for k room) 0 (work-number l.config (6 * k) room [] false (sized (trace_of l H.history) H.holds) e) (run-held l k room H)

  single-called : (l : Line) (room : List ℕ) → Held l → (b o : Bool) → ltb (length room) 6 ≡ b → over l.config ≡ o → Held (noted l (single room) (serve l.config (single room)))
  unfolding step_number
  single-called l room H true o e f = by_number l (single room) 3 (work-number l.config 6 room (step_refusals l.config) true (sized (trace_of l H.history) H.holds) e) (refused-held l (single room) 3 room (eqb-false 3 8 refl) refl H)
  single-called l room H false true e f =
      by_number l (single room) 9
      (work-number l.config 6 room (step_refusals l.config) false (sized (trace_of l H.history) H.holds) e
      ∙ (λ i. first_of (refuse 8 (not (f i) && not (can_step l.config)) ∷ refuse 9 (f i) ∷ [])))
      (refused-held l (single room) 9 room (eqb-false 9 8 refl) refl H)
  single-called l room H false false e f =
      let M : Moves g before start area (trace_of l H.history) = move g before start area S (trace_of l H.history) H.holds f in
      by_number l (single room) 0
      (work-number l.config 6 room (step_refusals l.config) false (sized (trace_of l H.history) H.holds) e
      ∙ (λ i. first_of (refuse 8 (not (f i) && not (M.goes.can i)) ∷ refuse 9 (f i) ∷ [])))
      (step-held l room H M)

  order-called : (l : Line) → Held l → (o : Bool) → over l.config ≡ o → Held (noted l roll_back (serve l.config roll_back))
  unfolding roll_back_number
  order-called l H true f = by_number l roll_back 9 (order-number l.config (refuse 9 (over l.config) ∷ []) (sized (trace_of l H.history) H.holds) ∙ (λ i. first_of (refuse 9 (f i) ∷ []))) (refused-held l roll_back 9 [] (eqb-false 9 8 refl) refl H)
  order-called l H false f = by_number l roll_back 0 (order-number l.config (refuse 9 (over l.config) ∷ []) (sized (trace_of l H.history) H.holds) ∙ (λ i. first_of (refuse 9 (f i) ∷ []))) (order-held l H f)

  pub call-held : (l : Line) (c : Call) → Held l → Held (noted l c (serve l.config c))
  call-held l (run_for k room) H = run-called l k room H (ltb (length room) (6 * k)) refl
  call-held l (single room) H = single-called l room H (ltb (length room) 6) (over l.config) refl refl
  call-held l roll_back H = order-called l H (over l.config) refl

  pub calls-held : (l : Line) (cs : List Call) → Held l → Held (calls folded l cs)
  unfolding calls
  calls-held l [] H = H
  calls-held l (c ∷ cs) H = calls-held (noted l c (serve l.config c)) cs (call-held l c H)

  -- ---- the opening
  pub opened-held : (l : Line) → l.config ≡ opened_at g before start area → l.events ≡ event label 0 start ∷ [] → l.steps ≡ 0 → l.rolling ≡ false → l.since ≡ 0 → Faultless l.answers → Held l
  opened-held l ec ee es er ez f =
      let F = scene-first (graph_of g) before start (profile-ready g S before start hs blank) in
      record {
        history = [] ▸ event label 0 start;
        events = ee;
        holds =
            at-walking start [] (edges_of g start) [] (at 0 g.after start)
            (record {
              placed = F.placed;
              labels = F.labels;
              seen = F.seen;
              scans = λ x m. absurd (mem-nil m);
              is-config = ec ∙ (λ i. record { n = g.n; m = g.m; start = start; v = start; e = S.first start hs i; f = 0; phase = walking; next = 2; circular = 0; after = sym (put-at 0 g.after start) i; tail = g.tail; marks = marks-now-first (g.n + g.m) before area start blank.start_fresh hs.0 (omega arith) i });
              light = omega arith;
            })
            F.future
            er (omega arith);
        calm = λ e. ez;
        faultless = f;
      }
