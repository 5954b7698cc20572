-- Demand 3, and demand 2 of the folded search: what line B's invariant says of the line.
-- By the phase; line A's advances are the references met, its scans the elements reached.
use Rattle.std.proofs.Common.{◌≡◌, refl, sym, ap, ◌∙◌, subst, ◌↔◌, ◌⊎◌, inl, inr, Bool, true, false, cond, List, [], ◌∷◌, ◌++◌, append-nil, reverse, ℕ, ◌+◌, ◌*◌, ◌≤◌, ◌<◌, arith, length, eqb, eqb-true}
use mathlib.Core.List.{reverse-reverse, IsPrefix}
use borrow.Author.Tests.{eqb-false}
use Rattle.lists.specs.Members.{Mem, Same}
use Rattle.lists.specs.Words.{at}
use Rattle.lists.proofs.Tests.{clash, or-none}
use Rattle.lists.proofs.Counts.{same_sum, same_length}
use Rattle.graphs.specs.Nodes.{Vertex}
use Rattle.graphs.specs.Graph.{Reached, met}
use Rattle.graphs.specs.Events.{Event, event, label, scan, History, known, labelled, scanned}
use Rattle.graphs.specs.Depth.{DepthFirst}
use Rattle.graphs.specs.Results.{marks_left, marks_now}
use Rattle.graphs.specs.Circles.{circular_of}
use Rattle.graphs.specs.Image.{Image, SameLinks, graph_of}
use Rattle.graphs.specs.Refusals.{lent}
use Rattle.graphs.specs.Claims.{Ready}
use Rattle.graphs.proofs.Refusals.{long}
use Rattle.graphs.proofs.Sound.{Sound, Profile, profile_sound}
use Rattle.graphs.proofs.Blanks.{Listed}
use Rattle.graphs.proofs.Owned.{met-most, image-owned}
use Rattle.graphs.proofs.Labels.{Labels, labels-few, reached-labels}
use Rattle.graphs.proofs.Results.{named-length, marks-first-blank, marks-now-blank, marks-now-end}
use Rattle.graphs.proofs.Circles.{circular}
use Rattle.graphs.proofs.Depth.{depth-first, depth-relates}
use Rattle.graphs.proofs.Room.{profile-ready}
use Rattle.graphs.proofs.Stated.{same-links}
use Rattle.graphs.proofs.Places.{Frame, finishing}
use Rattle.folding.specs.Machine.{Config, walking, restoring, finished, rolling_back, rolled_back}
use Rattle.folding.specs.Calls.{Reason, ended, spent, stuck, Reply, unless, over, run, Call, run_for, perform, serve, opening, open_number, unopened, opened_at, open_reply}
use Rattle.folding.specs.Lines.{Walker, Line, add_if, noted, begun, calls, line_a, line_b, folded}
use Rattle.folding.specs.Claims.{stop_reason, Faultless, Labelling, Ended, Demand2, Agrees, Agreement}
use Rattle.folding.proofs.Steps.{few-labels}
use Rattle.folding.proofs.Future.{all_of, advances, scans, Short, short, prefix-of}
use Rattle.folding.proofs.Invariant.{Trace, Scene, Holds, at-walking, at-restoring, at-rolling, at-end, at-undone, weight}
use Rattle.folding.proofs.Runs.{run-stops}
use Rattle.folding.proofs.Running.{Free, advance, Ran, run_holds}
use Rattle.folding.proofs.Calls.{trace_of, Held, run-number, calls-held, opened-held}

-- ---- line A's counts
module _ (g : Image) (before : List ℕ) (start : ℕ) (R : Ready (graph_of g) before start) (vs : List ℕ) (E : Reached (graph_of g) before start vs) where
  -- Two lists of the reached vertices have the same members.
  same-reached : (us : List ℕ) → Reached (graph_of g) before start us → Same us vs
  same-reached us F x = (λ m. (E.exact x).1 ((F.exact x).0 m), λ m. (F.exact x).1 ((E.exact x).0 m))

  met-is : advances (all_of g before start) ≡ met (graph_of g) vs
  met-is =
      let D = depth-first (graph_of g) before start R in
      D.advances ∙ same_sum (λ u. length ((graph_of g).out u)) (labelled (all_of g before start)) vs D.complete.labels.once E.once (same-reached (labelled (all_of g before start)) D.complete.labels)

  reached-is : scans (all_of g before start) ≡ length vs
  reached-is =
      let D = depth-first (graph_of g) before start R in
      sym (named-length scan (all_of g before start)) ∙ same_length (scanned (all_of g before start)) vs D.complete.scans.once E.once (same-reached (scanned (all_of g before start)) D.complete.scans)

-- ---- what the invariant says
module _ (g : Image) (S : Sound g) (before : List ℕ) (start : ℕ) (hs : Vertex g.n start) (blank : Listed g.n before start) (area : List ℕ) (lm : g.n + g.m ≤ length area) where
  R : Ready (graph_of g) before start
  R = profile-ready g S before start hs blank

  -- The phase of a place.
  phase-is : (ph k : ℕ) (t : Trace) (v : ℕ) (done rest : List ℕ) (s : List Frame) (stale : ℕ) → Scene g before start area ph t v done rest s stale → (ph ≡ k → ⊥)
      → t.config.phase ≡ k → ⊥
  phase-is ph k t v done rest s stale C ne e = ne (sym (ap (λ (w : Config). w.phase) C.is-config) ∙ e)

  -- There is a step to come, so nothing is said of the links.
  not-closed : {A : Type 0} (w : Config) → (w.phase ≡ finished → ⊥) → (w.phase ≡ rolled_back → ⊥) → (w.phase ≡ finished) ⊎ (w.phase ≡ rolled_back) → A
  not-closed w x3 x5 (inl e) = absurd (x3 e)
  not-closed w x3 x5 (inr e) = absurd (x5 e)

  history-is : (l : Line) (H : Held g S before start hs blank area lm l) → reverse l.events ≡ H.history
  history-is l H = ap reverse H.events ∙ reverse-reverse H.history

  agrees-open : (ph : ℕ) (l : Line) (H : Held g S before start hs blank area lm l) (v : ℕ) (done rest ahead : List ℕ) (s : List Frame) (stale : ℕ) (vs : List ℕ)
      → Reached (graph_of g) before start vs → (ph ≡ finished → ⊥) → (ph ≡ rolled_back → ⊥)
      → Scene g before start area ph (trace_of l H.history) v done rest s stale → finishing (graph_of g) before s v ahead H.history ≡ all_of g before start → l.rolling ≡ false → l.steps + weight done s ≡ 2 * advances H.history + scans H.history → Agrees g vs (line_a g before start) l
  agrees-open ph l H v done rest ahead s stale vs E n3 n5 C fut calm cnt =
      let sh : Short H.history (all_of g before start) = subst (Short H.history) fut (short g before s v ahead H.history) in
      let x3 : l.config.phase ≡ finished → ⊥ = phase-is ph finished (trace_of l H.history) v done rest s stale C n3 in
      let x5 : l.config.phase ≡ rolled_back → ⊥ = phase-is ph rolled_back (trace_of l H.history) v done rest s stale C n5 in
      let a = met-is g before start R vs E in
      let b = reached-is g before start R vs E in
      record {
        first = subst (λ (es : List Event). IsPrefix es (line_a g before start)) (sym H.events) (prefix-of sh.first);
        ends = λ z. (λ e. absurd (x3 e), λ e. (let q : l.steps ≡ 2 * met (graph_of g) vs + length vs = e in absurd (omega arith)));
        all = λ z e. absurd (x3 e);
        bound = λ z. clash (sym z ∙ calm);
        below = λ z y. clash (sym z ∙ calm);
        restored = not-closed l.config x3 x5;
        faultless = H.faultless;
      }

  agrees-of : (l : Line) (H : Held g S before start hs blank area lm l) → Holds g before start area (trace_of l H.history) → (vs : List ℕ) → Reached (graph_of g) before start vs
      → Agrees g vs (line_a g before start) l
  agrees-of l H (at-walking v done rest s stale C fut calm cnt) vs E = agrees-open walking l H v done rest rest s stale vs E (eqb-false walking finished refl) (eqb-false walking rolled_back refl) C fut calm cnt
  agrees-of l H (at-restoring v done rest s stale C fut calm cnt) vs E = agrees-open restoring l H v done rest [] s stale vs E (eqb-false restoring finished refl) (eqb-false restoring rolled_back refl) C fut calm cnt
  agrees-of l H (at-rolling v done rest s stale C sh ro cnt) vs E =
      let x3 : l.config.phase ≡ finished → ⊥ = phase-is rolling_back finished (trace_of l H.history) v done rest s stale C (eqb-false rolling_back finished refl) in
      let x5 : l.config.phase ≡ rolled_back → ⊥ = phase-is rolling_back rolled_back (trace_of l H.history) v done rest s stale C (eqb-false rolling_back rolled_back refl) in
      let a = met-is g before start R vs E in
      let b = reached-is g before start R vs E in
      record {
        first = subst (λ (es : List Event). IsPrefix es (line_a g before start)) (sym H.events) (prefix-of sh.first);
        ends = λ z. clash (sym ro ∙ z);
        all = λ z e. absurd (x3 e);
        bound = λ z. omega arith;
        below = λ z y. omega arith;
        restored = not-closed l.config x3 x5;
        faultless = H.faultless;
      }
  agrees-of l H (at-end K e calm cnt) vs E =
      let all : l.events ≡ line_a g before start = H.events ∙ ap reverse e in
      let tot : 2 * advances (all_of g before start) + scans (all_of g before start) ≡ 2 * met (graph_of g) vs + length vs = λ i. 2 * met-is g before start R vs E i + reached-is g before start R vs E i in
      record {
        first = ([], append-nil l.events ∙ all);
        ends = λ z. (λ q. cnt ∙ tot, λ q. ap (λ (w : Config). w.phase) K.is-config);
        all = λ z q. all;
        bound = λ z. clash (sym z ∙ calm);
        below = λ z y. clash (sym z ∙ calm);
        restored = λ q. (ap (λ (w : Config). w.after) K.is-config, ap (λ (w : Config). w.tail) K.is-config);
        faultless = H.faultless;
      }
  agrees-of l H (at-undone K x ro cnt) vs E =
      let a = met-is g before start R vs E in
      let b = reached-is g before start R vs E in
      record {
        first = subst (λ (es : List Event). IsPrefix es (line_a g before start)) (sym H.events) (prefix-of x);
        ends = λ z. clash (sym ro ∙ z);
        all = λ z q. clash (sym ro ∙ z);
        bound = λ z. omega arith;
        below = λ z y. absurd (y (ap (λ (w : Config). w.phase) K.is-config));
        restored = λ q. (ap (λ (w : Config). w.after) K.is-config, ap (λ (w : Config). w.tail) K.is-config);
        faultless = H.faultless;
      }

  -- ---- labels
  -- Which marks are 65,535, while B is not rolled back.
  blanks-now : (l : Line) (h : History) → l.config.marks ≡ marks_now (g.n + g.m) before h area → Labels g.n (known before h) → (x : ℕ) → 0 < x → x ≤ g.n
      → (at 0 l.config.marks x ≡ 65535) ↔ Mem x before
  blanks-now l h e L x p q =
      let B : (at 0 (marks_now (g.n + g.m) before h area) x ≡ 65535) ↔ Mem x before = marks-now-blank (g.n + g.m) before h area (few-labels g S start before h L) x p (omega arith) in
      rw e B

  -- What a place says: nothing has ended, and circular is what the events say.
  labelling-open : (ph : ℕ) (l : Line) (H : Held g S before start hs blank area lm l) (v : ℕ) (done rest : List ℕ) (s : List Frame) (stale : ℕ) → (ph ≡ finished → ⊥)
      → (ph ≡ rolled_back → ⊥) → Scene g before start area ph (trace_of l H.history) v done rest s stale → Labelling g before start area l
  labelling-open ph l H v done rest s stale n3 n5 C = record {
    events = λ e. absurd (phase-is ph finished (trace_of l H.history) v done rest s stale C n3 e);
    labels = λ e. absurd (phase-is ph finished (trace_of l H.history) v done rest s stale C n3 e);
    no_labels = λ e. absurd (phase-is ph rolled_back (trace_of l H.history) v done rest s stale C n5 e);
    marks_now = λ n. ap (λ (w : Config). w.marks) C.is-config ∙ ap (λ (h : History). marks_now (g.n + g.m) before h area) (sym (history-is l H));
    circle = λ e. absurd (phase-is ph finished (trace_of l H.history) v done rest s stale C n3 e);
    circular = ap (λ (w : Config). w.circular) C.is-config ∙ ap (circular_of (graph_of g)) (sym (history-is l H));
    blanks = blanks-now l H.history (ap (λ (w : Config). w.marks) C.is-config) C.labels;
  }

  -- Line A scans all that it labels.
  abbrev AllScanned : History → Type 0
  AllScanned h = (x : ℕ) → Mem x (labelled h) → Mem x (scanned h)

  all-scanned : AllScanned (all_of g before start)
  all-scanned x m =
      let D = (depth-first (graph_of g) before start R).complete in
      (D.scans.exact x).1 ((D.labels.exact x).0 m)

  labelling-of : (l : Line) (H : Held g S before start hs blank area lm l) → Holds g before start area (trace_of l H.history) → Labelling g before start area l
  labelling-of l H (at-walking v done rest s stale C fut calm cnt) = labelling-open walking l H v done rest s stale (eqb-false walking finished refl) (eqb-false walking rolled_back refl) C
  labelling-of l H (at-restoring v done rest s stale C fut calm cnt) = labelling-open restoring l H v done rest s stale (eqb-false restoring finished refl) (eqb-false restoring rolled_back refl) C
  labelling-of l H (at-rolling v done rest s stale C sh ro cnt) = labelling-open rolling_back l H v done rest s stale (eqb-false rolling_back finished refl) (eqb-false rolling_back rolled_back refl) C
  labelling-of l H (at-end K e calm cnt) =
      let figure : l.config.circular ≡ circular_of (graph_of g) (all_of g before start) = ap (λ (w : Config). w.circular) K.is-config ∙ ap (circular_of (graph_of g)) e in
      let C = (circular (graph_of g) before start R).0 in
      record {
        events = λ q. subst (DepthFirst (graph_of g) before start) (sym (history-is l H ∙ e)) (depth-relates (graph_of g) before start R);
        labels = λ q. ap (λ (w : Config). w.marks) K.is-config ∙ marks-now-end (g.n + g.m) before H.history area (subst AllScanned (sym e) all-scanned) ∙ ap (λ (h : History). marks_left (g.n + g.m) before h area) (sym (history-is l H));
        no_labels = λ q. absurd (eqb-false finished rolled_back refl (sym (ap (λ (w : Config). w.phase) K.is-config) ∙ q));
        marks_now = λ n. ap (λ (w : Config). w.marks) K.is-config ∙ ap (λ (h : History). marks_now (g.n + g.m) before h area) (sym (history-is l H));
        circular = ap (λ (w : Config). w.circular) K.is-config ∙ ap (circular_of (graph_of g)) (sym (history-is l H));
        circle = λ q. (λ c. C.0 (sym figure ∙ c), λ c. figure ∙ C.1 c);
        blanks = blanks-now l H.history (ap (λ (w : Config). w.marks) K.is-config) K.labels;
      }
  labelling-of l H (at-undone K x ro cnt) =
      record {
        events = λ q. absurd (eqb-false rolled_back finished refl (sym (ap (λ (w : Config). w.phase) K.is-config) ∙ q));
        labels = λ q. absurd (eqb-false rolled_back finished refl (sym (ap (λ (w : Config). w.phase) K.is-config) ∙ q));
        no_labels = λ q. ap (λ (w : Config). w.marks) K.is-config;
        marks_now = λ n. absurd (n (ap (λ (w : Config). w.phase) K.is-config));
        circular = ap (λ (w : Config). w.circular) K.is-config ∙ ap (circular_of (graph_of g)) (sym (history-is l H));
        circle = λ q. absurd (eqb-false rolled_back finished refl (sym (ap (λ (w : Config). w.phase) K.is-config) ∙ q));
        blanks = λ x p q. rw (ap (λ (w : Config). w.marks) K.is-config) (marks-first-blank (g.n + g.m) before area x p (omega arith));
      }

  -- ---- a run that is long enough
  -- While no order was taken: ended, or a step is to come and fewer were made than in all.
  under-way : (t : Trace) → Holds g before start area t → t.rolling ≡ false
      → (t.config.phase ≡ finished) ⊎ ((over t.config ≡ false) × (t.steps < 2 * advances (all_of g before start) + scans (all_of g before start)))
  under-way t (at-walking v done rest s stale C fut calm cnt) z = let sh = subst (Short t.history) fut (short g before s v rest t.history) in inr (ap over C.is-config, omega (arith, sh.advanced, sh.to-scan))
  under-way t (at-restoring v done rest s stale C fut calm cnt) z = let sh = subst (Short t.history) fut (short g before s v [] t.history) in inr (ap over C.is-config, omega (arith, sh.advanced, sh.to-scan))
  under-way t (at-rolling v done rest s stale C sh ro cnt) z = clash (sym ro ∙ z)
  under-way t (at-end K e calm cnt) z = inl (ap (λ (w : Config). w.phase) K.is-config)
  under-way t (at-undone K x ro cnt) z = clash (sym ro ∙ z)

  -- Once one was taken: rolled back, or a step is to come and fewer were made since than may be.
  rolling-way : (t : Trace) → Holds g before start area t → t.rolling ≡ true
      → (t.config.phase ≡ rolled_back) ⊎ ((over t.config ≡ false) × (t.since < advances (all_of g before start) + scans (all_of g before start)))
  rolling-way t (at-walking v done rest s stale C fut calm cnt) z = clash (sym z ∙ calm)
  rolling-way t (at-restoring v done rest s stale C fut calm cnt) z = clash (sym z ∙ calm)
  rolling-way t (at-rolling v done rest s stale C sh ro cnt) z = inr (ap over C.is-config, omega arith)
  rolling-way t (at-end K e calm cnt) z = clash (sym z ∙ calm)
  rolling-way t (at-undone K x ro cnt) z = inl (ap (λ (w : Config). w.phase) K.is-config)

  -- Ended: no order was taken.
  pub calm-at : (t : Trace) → Holds g before start area t → t.config.phase ≡ finished → t.rolling ≡ false
  calm-at t (at-walking v done rest s stale C fut calm cnt) e = calm
  calm-at t (at-restoring v done rest s stale C fut calm cnt) e = calm
  calm-at t (at-rolling v done rest s stale C sh ro cnt) e = absurd (phase-is rolling_back finished t v done rest s stale C (eqb-false rolling_back finished refl) e)
  calm-at t (at-end K q calm cnt) e = calm
  calm-at t (at-undone K x ro cnt) e = absurd (eqb-false rolled_back finished refl (sym (ap (λ (w : Config). w.phase) K.is-config) ∙ e))

  -- Line A's advances are at most m, its scans at most n.
  pub counts-most : (advances (all_of g before start) ≤ g.m) × (scans (all_of g before start) ≤ g.n)
  counts-most =
      let E = (depth-first (graph_of g) before start R).complete.labels in
      let L = reached-labels (graph_of g) before start R (labelled (all_of g before start)) E in
      let a = met-is g before start R (labelled (all_of g before start)) E in
      let b = reached-is g before start R (labelled (all_of g before start)) E in
      let p = met-most (image-owned g S) (labelled (all_of g before start)) L in
      let q = labels-few g.n (labelled (all_of g before start)) L in
      (omega arith, omega arith)

  -- All steps are at most 2 m + n.
  total-most : 2 * advances (all_of g before start) + scans (all_of g before start) ≤ 2 * g.m + g.n
  total-most = omega (arith, counts-most.0, counts-most.1)

  -- A run that says spent or ended, and is not over, has spent its budget.
  spent_all : (k made : ℕ) (w : Config) (why : Reason) → why ≡ stop_reason k made w → Free why → over w ≡ false → made ≡ k
  spent_all k made w why e f o = go (eqb made k) refl
    where
      go : (b : Bool) → eqb made k ≡ b → made ≡ k
      go true q = eqb-true made k q
      go false q = absurd (subst Free (e ∙ (λ i. cond (o i) ended (cond (q i) spent stuck))) f)

  -- So a run that is long enough leaves no step to come.
  module _ (l : Line) (k : ℕ) (H : Held g S before start hs blank area lm l) (big : 2 * g.m + g.n ≤ k) where
    ran : Ran g S before start area (trace_of l H.history) (run k l.config)
    ran = run_holds g S before start area k (trace_of l H.history) H.holds H.calm

    all-spent : over (run k l.config).config ≡ false → (run k l.config).steps ≡ k
    all-spent o = spent_all k (run k l.config).steps (run k l.config).config (run k l.config).reason (run-stops k l.config).reason ran.free o

    run_ends : l.rolling ≡ false → (run k l.config).config.phase ≡ finished
    run_ends calm = go (under-way (advance (trace_of l H.history) (run k l.config)) ran.holds calm)
      where
        go : ((run k l.config).config.phase ≡ finished) ⊎ ((over (run k l.config).config ≡ false) × (l.steps + (run k l.config).steps < 2 * advances (all_of g before start) + scans (all_of g before start))) → (run k l.config).config.phase ≡ finished
        go (inl e) = e
        go (inr q) = absurd (omega (arith, all-spent q.0, q.1, total-most))

    run-undoes : l.rolling ≡ true → (run k l.config).config.phase ≡ rolled_back
    run-undoes ro = go (rolling-way (advance (trace_of l H.history) (run k l.config)) ran.holds ro)
      where
        go : ((run k l.config).config.phase ≡ rolled_back) ⊎ ((over (run k l.config).config ≡ false) × (add_if l.rolling l.since (run k l.config).steps < advances (all_of g before start) + scans (all_of g before start))) → (run k l.config).config.phase ≡ rolled_back
        go (inl e) = e
        go (inr q) = absurd (omega (arith, all-spent q.0, rw ro at q.1, total-most))

-- ---- the claims
-- What an opening taken leaves meets the invariant, and so does every list of calls.
module _ (g : Image) (before : List ℕ) (start : ℕ) (marks area : List ℕ) (h : open_number g before start marks area ≡ 0) where
  pub profile : Profile g before start (lent (g.n + g.m) marks ∷ lent 3 area ∷ [])
  unfolding open_number
  profile = profile_sound g before start (lent (g.n + g.m) marks ∷ lent 3 area ∷ []) h

  pub marks-long : g.n + g.m ≤ length marks
  marks-long = (long (g.n + g.m) marks (lent 3 area ∷ []) profile.areas-long).0

  pub held : (cs : List Call) → Held g profile.sound before start profile.start_vertex profile.listed marks marks-long (line_b folded g before start marks area cs)
  unfolding opening
  held cs =
      calls-held g profile.sound before start profile.start_vertex profile.listed marks marks-long (begun (opening g before start marks area)) cs
      (opened-held g profile.sound before start profile.start_vertex profile.listed marks marks-long (begun (opening g before start marks area))
      (reply (λ r. r.config ≡ opened_at g before start marks) refl)
      (reply (λ r. r.events ≡ event label 0 start ∷ []) refl)
      refl refl refl
      (reply (λ r. Faultless (r.answer ∷ [])) tt))
    where
      reply : (P : Reply → Type 0) → P (open_reply g before start marks area) → P (opening g before start marks area)
      reply P p = subst (λ (k : ℕ). P (unless k (unopened g start marks) area (open_reply g before start marks area))) (sym h) p

-- Once B has ended, no roll-back order was taken.
pub ended-calm : (g : Image) (before : List ℕ) (start : ℕ) (marks area : List ℕ) → open_number g before start marks area ≡ 0 → (cs : List Call)
    → (line_b folded g before start marks area cs).config.phase ≡ finished → (line_b folded g before start marks area cs).rolling ≡ false
ended-calm g before start marks area h cs e =
    let H = held g before start marks area h cs in
    let P = profile g before start marks area h in
    calm-at g P.sound before start P.start_vertex P.listed marks (marks-long g before start marks area h) (trace_of (line_b folded g before start marks area cs) H.history) H.holds e

-- Line A has the same events on any image with the same links.
same_line : (a g : Image) → SameLinks a g → (before : List ℕ) (start : ℕ) (marks area : List ℕ) → open_number g before start marks area ≡ 0
    → line_a g before start ≡ line_a a before start
unfolding open_number
same_line a g L before start marks area h = ap reverse ((same-links g a (sym L)).depth before start (lent (g.n + g.m) marks ∷ lent 3 area ∷ []) h)

pub agreement : Agreement folded
agreement a g L before start marks area h vs E cs =
    let H = held g before start marks area h cs in
    let P = profile g before start marks area h in
    subst (λ (es : List Event). Agrees g vs es (line_b folded g before start marks area cs)) (same_line a g L before start marks area h)
    (agrees-of g P.sound before start P.start_vertex P.listed marks (marks-long g before start marks area h) (line_b folded g before start marks area cs) H H.holds vs E)

-- One call more behind a list of them.
calls_last : (W : Walker) (l : Line) (cs : List Call) (c : Call) → calls W l (cs ++ (c ∷ [])) ≡ noted (calls W l cs) c (W.serves (calls W l cs).config c)
unfolding calls
calls_last W l [] c = refl
calls_last W l (d ∷ ds) c = calls_last W (noted l d (W.serves l.config d)) ds c

-- A run that is long enough, behind any list of calls.
module _ (g : Image) (before : List ℕ) (start : ℕ) (marks area : List ℕ) (h : open_number g before start marks area ≡ 0) (cs : List Call) (k : ℕ) (room : List ℕ) (big : 2 * g.m + g.n ≤ k) (roomy : 6 * k ≤ length room) where
  abbrev l : Line
  l = line_b folded g before start marks area cs

  -- It is not refused, and leads where its steps lead.
  leads : (serve l.config (run_for k room)).config.phase ≡ (run k l.config).config.phase
  unfolding serve
  leads =
      let P = profile g before start marks area h in
      let n = run-number g P.sound before start P.start_vertex P.listed marks (marks-long g before start marks area h) l k room (held g before start marks area h cs) roomy in
      ap (λ (x : ℕ). (unless x l.config room (perform l.config (run_for k room))).config.phase) n

  pub enough : (l.rolling ≡ false → (serve l.config (run_for k room)).config.phase ≡ finished) × (l.rolling ≡ true → (serve l.config (run_for k room)).config.phase ≡ rolled_back)
  enough =
      let P = profile g before start marks area h in
      let L = marks-long g before start marks area h in
      let H = held g before start marks area h cs in
      (λ calm. leads ∙ run_ends g P.sound before start P.start_vertex P.listed marks L l k H big calm, λ ro. leads ∙ run-undoes g P.sound before start P.start_vertex P.listed marks L l k H big ro)

  ending : Ended (line_b folded g before start marks area (cs ++ (run_for k room ∷ [])))
  ending =
      subst Ended (sym (calls_last folded (begun (opening g before start marks area)) cs (run_for k room)))
      (record { finished_calm = λ calm. enough.0 (sym (or-none l.rolling) ∙ calm); undone_rolling = λ ro. enough.1 (sym (or-none l.rolling) ∙ ro) })

pub demand2 : Demand2 folded
demand2 = record {
  labelling = λ g before start marks area h cs.
      let H = held g before start marks area h cs in
      let P = profile g before start marks area h in
      labelling-of g P.sound before start P.start_vertex P.listed marks (marks-long g before start marks area h) (line_b folded g before start marks area cs) H H.holds;
  ending = ending;
}
