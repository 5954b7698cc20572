-- What holds of the folded search between two steps, and that each step keeps it.
-- One case for each phase: the place, what is left of the recursive search from it, and the balance of the steps made.
use Rattle.std.proofs.Common.{◌≡◌, refl, sym, ap, ◌∙◌, subst, Bool, true, false, ◌&&◌, not, List, [], ◌∷◌, ℕ, suc, ◌+◌, ◌*◌, ◌≤◌, arith, length, eqb}
use mathlib.Core.List.{reverse_aux, IsSuffix}
use Rattle.lists.specs.Members.{Mem, here, there, memb}
use Rattle.lists.specs.Words.{at}
use Rattle.lists.proofs.Tests.{clash}
use Rattle.lists.proofs.Members.{each-cons, mem-left, mem-right, memb-false, nodup-apart}
use Rattle.graphs.specs.Nodes.{Vertex, is_link}
use Rattle.graphs.specs.Events.{event, label, advance_tree, advance_nontree, retreat_nontree, retreat_tree, scan, History, ◌▸◌, known, labelled, scanned}
use Rattle.graphs.specs.Search.{recorder, cross, walk_edges}
use Rattle.graphs.specs.Results.{marks_now, marks_first, marks_rest}
use Rattle.graphs.specs.Image.{Image, edges_of, to, graph_of}
use Rattle.graphs.proofs.Labels.{Labels, label-ok}
use Rattle.graphs.proofs.Sound.{head0, Sound, graph-closed}
use Rattle.graphs.proofs.Places.{Frame, frame, path, Placed, deep, finishing, deep-unroll}
use Rattle.graphs.proofs.Results.{marks-now-rest}
use Rattle.folding.specs.Machine.{Config, walking, restoring, finished, rolling_back, rolled_back, Stepped}
use Rattle.folding.specs.Calls.{over}
use Rattle.folding.specs.Lines.{add_if}
use Rattle.folding.proofs.Bent.{bent_after, config_at, config_end}
use Rattle.folding.proofs.Steps.{Goes, link-rest, down, few-labels, ahead-edge, nontree-goes, tree-goes, relink-goes, retreat-goes, undo-tree-goes, finish-goes, undo-open-goes}
use Rattle.folding.proofs.Future.{all_of, advances, scans, Short}

-- The steps to relink and retreat that a place still owes.
abbrev pub frames_weight : List Frame → ℕ
frames_weight [] = 0
frames_weight (frame u du r ru ∷ s) = suc (length du + frames_weight s)

abbrev pub weight : List ℕ → List Frame → ℕ
weight done s = length done + frames_weight s

-- A search under way: its configuration, its events, its steps, whether a roll-back order was taken, the steps since.
pub record Trace : Type 0 where
  pub config : Config
  pub history : History
  pub steps : ℕ
  pub rolling : Bool
  pub since : ℕ

-- One step further.
abbrev pub tick : Trace → Stepped → Trace
tick t s = record { config = s.config; history = reverse_aux s.events t.history; steps = suc t.steps; rolling = t.rolling; since = add_if t.rolling t.since 1 }

module _ (g : Image) (before : List ℕ) (start : ℕ) (area : List ℕ) where
  -- At a place, in a phase.
  pub record Scene (ph : ℕ) (t : Trace) (v : ℕ) (done rest : List ℕ) (s : List Frame) (stale : ℕ) : Type 0 where
    pub placed : Placed (graph_of g) start v done rest s
    pub labels : Labels g.n (known before t.history)
    pub seen : (x : ℕ) → Mem x (v ∷ path s) → Mem x (labelled t.history)
    pub scans : (x : ℕ) → Mem x (scanned t.history) → Mem x (labelled t.history)
    pub is-config : t.config ≡ config_at g before start area ph v done rest s stale t.history
    pub light : weight done s ≤ advances t.history

  -- The vertex being scanned is not on the blank.
  off-blank : {ph : ℕ} {t : Trace} {v : ℕ} {done rest : List ℕ} {s : List Frame} {stale : ℕ} → Scene ph t v done rest s stale → Mem v before → ⊥
  off-blank {t = t} {v = v} C m = nodup-apart (labelled t.history) before C.labels.once v (C.seen v (here refl)) m

  -- No step to come.
  pub record Closed (ph : ℕ) (marks : List ℕ) (t : Trace) : Type 0 where
    pub e : ℕ
    pub link : is_link g.n g.m e ≡ true
    pub labels : Labels g.n (known before t.history)
    pub seen : Mem start (labelled t.history)
    pub is-config : t.config ≡ config_end g start ph e marks t.history

  pub data Holds (t : Trace) : Type 0 where
    at-walking : (v : ℕ) (done rest : List ℕ) (s : List Frame) (stale : ℕ) → Scene walking t v done rest s stale → finishing (graph_of g) before s v rest t.history ≡ all_of g before start → t.rolling ≡ false → t.steps + weight done s ≡ 2 * advances t.history + scans t.history → Holds t
    at-restoring : (v : ℕ) (done rest : List ℕ) (s : List Frame) (stale : ℕ) → Scene restoring t v done rest s stale → finishing (graph_of g) before s v [] t.history ≡ all_of g before start → t.rolling ≡ false → t.steps + weight done s ≡ 2 * advances t.history + scans t.history → Holds t
    at-rolling : (v : ℕ) (done rest : List ℕ) (s : List Frame) (stale : ℕ) → Scene rolling_back t v done rest s stale → Short t.history (all_of g before start) → t.rolling ≡ true → t.since + suc (weight done s) ≤ advances (all_of g before start) + scans (all_of g before start) → Holds t
    at-end : Closed finished (marks_now (g.n + g.m) before t.history area) t → t.history ≡ all_of g before start → t.rolling ≡ false → t.steps ≡ 2 * advances (all_of g before start) + scans (all_of g before start) → Holds t
    at-undone : Closed rolled_back (marks_first (g.n + g.m) before area) t → IsSuffix t.history (all_of g before start) → t.rolling ≡ true → t.since ≤ advances (all_of g before start) + scans (all_of g before start) → Holds t

  pub record Moves (t : Trace) : Type 0 where
    pub next : Stepped
    pub goes : Goes t.config next
    pub holds : Holds (tick t next)

  -- The step of a configuration is the step of one that it equals.
  goes-from : {w x : Config} {s : Stepped} → w ≡ x → Goes x s → Goes w s
  goes-from {s = s} e G = subst (λ (y : Config). Goes y s) (sym e) G

  module _ (S : Sound g) where
    -- One edge relinked: the same place, with the edge ahead again.
    relink-scene : (ph ph' : ℕ) (t : Trace) (v d : ℕ) (ds rest : List ℕ) (s : List Frame) (stale : ℕ) → Scene ph t v (d ∷ ds) rest s stale → Scene ph' (tick t (record { config = config_at g before start area ph' v ds (d ∷ rest) s stale t.history; events = [] })) v ds (d ∷ rest) s stale
    relink-scene ph ph' t v d ds rest s stale C =
        let P = C.placed in
        let k = C.light in
        record { placed = record { vertex = P.vertex; list = P.list; above = P.above; distinct = P.distinct }; labels = C.labels; seen = C.seen; scans = C.scans; is-config = refl; light = omega arith }

    -- Restoring, or walking with nothing ahead.
    back-move : (ph : ℕ) (t : Trace) (v : ℕ) (done rest : List ℕ) (s : List Frame) (stale : ℕ) → (eqb ph walking && not (eqb (head0 rest) 0)) ≡ false → eqb ph rolling_back ≡ false
        → Scene ph t v done rest s stale → finishing (graph_of g) before s v [] t.history ≡ all_of g before start → t.rolling ≡ false → t.steps + weight done s ≡ 2 * advances t.history + scans t.history → Moves t
    unfolding walk_edges
    back-move ph t v (d ∷ ds) rest s stale bk ro C fut calm cnt = record {
      next = record { config = config_at g before start area restoring v ds (d ∷ rest) s stale t.history; events = [] };
      goes = goes-from C.is-config (relink-goes g S start before area ph false v d ds rest s stale t.history bk ro C.placed);
      holds = at-restoring v ds (d ∷ rest) s stale (relink-scene ph restoring t v d ds rest s stale C) fut calm (omega arith);
    }
    back-move ph t v [] rest [] stale bk ro C fut calm cnt = record {
      next = record { config = config_end g start finished (head0 rest) (marks_now (g.n + g.m) before (t.history ▸ event scan 0 v) area) (t.history ▸ event scan 0 v); events = event scan 0 v ∷ [] };
      goes = goes-from C.is-config (finish-goes g S start before area ph v rest stale t.history bk ro C.placed (off-blank C) C.labels);
      holds = at-end
          (record { e = head0 rest; link = link-rest g S start v [] rest C.placed.vertex C.placed.list; labels = C.labels; seen = subst (λ (x : ℕ). Mem x (labelled t.history)) C.placed.above (C.seen v (here refl)); is-config = refl })
          fut calm
          (let a : advances t.history ≡ advances (all_of g before start) = ap advances fut in
          let b : suc (scans t.history) ≡ scans (all_of g before start) = ap scans fut in
          omega arith);
    }
    back-move ph t v [] rest (frame u du r ru ∷ s) stale bk ro C fut calm cnt = record {
      next = record { config = config_at g before start area walking u (r ∷ du) ru s r (t.history ▸ event scan 0 v ▸ event retreat_tree r u); events = event scan 0 v ∷ event retreat_tree r u ∷ [] };
      goes = goes-from C.is-config (retreat-goes g S start before area ph v u rest du r ru s stale t.history bk ro C.placed (off-blank C) C.labels);
      holds =
          let P = down g S start v u rest du r ru s C.placed in
          let k = C.light in
          at-walking u (r ∷ du) ru s r
          (record { placed = record { vertex = P.vertex; list = P.list; above = P.above; distinct = P.distinct }; labels = C.labels; seen = λ x m. C.seen x (there m); scans = each-cons (λ x. Mem x (labelled t.history)) v (scanned t.history) (C.seen v (here refl)) C.scans; is-config = refl; light = omega arith })
          fut calm (omega arith);
    }

    -- An edge r ahead, to a vertex labelled or not.
    front-move : (t : Trace) (v : ℕ) (done : List ℕ) (r : ℕ) (rs : List ℕ) (s : List Frame) (stale : ℕ) (b : Bool) → memb (to g r) (known before t.history) ≡ b
        → Scene walking t v done (r ∷ rs) s stale → finishing (graph_of g) before s v rs (cross (recorder before) (graph_of g) (deep (graph_of g) before) v r b t.history) ≡ all_of g before start → t.rolling ≡ false → t.steps + weight done s ≡ 2 * advances t.history + scans t.history → Moves t
    front-move t v done r rs s stale true k C fut calm cnt = record {
      next = record { config = config_at g before start area walking v (r ∷ done) rs s stale (t.history ▸ event advance_nontree r v ▸ event retreat_nontree r v); events = event advance_nontree r v ∷ event retreat_nontree r v ∷ [] };
      goes = goes-from C.is-config (nontree-goes g S start before area v done r rs s stale t.history C.placed C.labels k);
      holds =
          let P = C.placed in
          let l = C.light in
          at-walking v (r ∷ done) rs s stale
          (record { placed = record { vertex = P.vertex; list = P.list; above = P.above; distinct = P.distinct }; labels = C.labels; seen = C.seen; scans = C.scans; is-config = refl; light = omega arith })
          fut calm (omega arith);
    }
    front-move t v done r rs s stale false k C fut calm cnt =
        let P = C.placed in
        let h = t.history in
        let hx : Vertex g.n (to g r) = S.target r (ahead-edge g S start v done r rs s P) in
        let new : Mem (to g r) (known before h) → ⊥ = memb-false (to g r) (known before h) k in
        let L : Labels g.n (to g r ∷ known before h) = label-ok g.n (to g r) (known before h) hx new C.labels in
        let Q : Placed (graph_of g) start (to g r) [] (edges_of g (to g r)) (frame v done r rs ∷ s) = record { vertex = hx; list = refl; above = (refl, P.vertex, P.list, P.above); distinct = (λ m. new (mem-left before (C.seen (to g r) m)), P.distinct) } in
        let l = C.light in
        record {
          next = record { config = config_at g before start area walking (to g r) [] (edges_of g (to g r)) (frame v done r rs ∷ s) (at 0 (bent_after g (frame v done r rs ∷ s)) (to g r)) (h ▸ event advance_tree r v ▸ event label 0 (to g r)); events = event advance_tree r v ∷ event label 0 (to g r) ∷ [] };
          goes = goes-from C.is-config (tree-goes g S start before area v done r rs s stale h P k (λ m. new (mem-right (labelled h) m)) (λ m. new (mem-left before (C.scans (to g r) m))) L Q);
          holds =
              at-walking (to g r) [] (edges_of g (to g r)) (frame v done r rs ∷ s) (at 0 (bent_after g (frame v done r rs ∷ s)) (to g r))
              (record { placed = Q; labels = L; seen = each-cons (λ x. Mem x (to g r ∷ labelled h)) (to g r) (v ∷ path s) (here refl) (λ x m. there (C.seen x m)); scans = λ x m. there (C.scans x m); is-config = refl; light = omega arith })
              (sym (ap (λ (i : History). finishing (graph_of g) before s v rs (i ▸ event retreat_tree r v)) (deep-unroll (graph_of g) before (graph-closed g S) (to g r) (h ▸ event advance_tree r v) hx new C.labels)) ∙ fut)
              calm (omega arith);
        }

    roll-move : (t : Trace) (v : ℕ) (done rest : List ℕ) (s : List Frame) (stale : ℕ) → Scene rolling_back t v done rest s stale → Short t.history (all_of g before start) → t.rolling ≡ true → t.since + suc (weight done s) ≤ advances (all_of g before start) + scans (all_of g before start) → Moves t
    roll-move t v (d ∷ ds) rest s stale C sh ro cnt = record {
      next = record { config = config_at g before start area rolling_back v ds (d ∷ rest) s stale t.history; events = [] };
      goes = goes-from C.is-config (relink-goes g S start before area rolling_back true v d ds rest s stale t.history refl refl C.placed);
      holds = at-rolling v ds (d ∷ rest) s stale (relink-scene rolling_back rolling_back t v d ds rest s stale C) sh ro (rw ro (omega arith));
    }
    roll-move t v [] rest [] stale C sh ro cnt = record {
      next = record { config = config_end g start rolled_back (head0 rest) (marks_rest g.n (marks_now (g.n + g.m) before t.history area)) t.history; events = [] };
      goes = goes-from C.is-config (undo-open-goes g S start before area v rest stale t.history C.placed);
      holds = at-undone
          (record { e = head0 rest; link = link-rest g S start v [] rest C.placed.vertex C.placed.list; labels = C.labels; seen = subst (λ (x : ℕ). Mem x (labelled t.history)) C.placed.above (C.seen v (here refl)); is-config = ap (λ (m : List ℕ). config_end g start rolled_back (head0 rest) m t.history) (marks-now-rest g.n g.m before t.history area (few-labels g S start before t.history C.labels) (λ x m. C.labels.all x (mem-left before m))) })
          sh.first ro (rw ro (omega arith));
    }
    roll-move t v [] rest (frame u du r ru ∷ s) stale C sh ro cnt = record {
      next = record { config = config_at g before start area rolling_back u du (r ∷ ru) s r t.history; events = [] };
      goes = goes-from C.is-config (undo-tree-goes g S start before area v u rest du r ru s stale t.history C.placed);
      holds =
          let k = C.light in
          at-rolling u du (r ∷ ru) s r
          (record { placed = down g S start v u rest du r ru s C.placed; labels = C.labels; seen = λ x m. C.seen x (there m); scans = C.scans; is-config = refl; light = omega arith })
          sh ro (rw ro (omega arith));
    }

    walk-move : (t : Trace) (v : ℕ) (done rest : List ℕ) (s : List Frame) (stale : ℕ) → Scene walking t v done rest s stale → finishing (graph_of g) before s v rest t.history ≡ all_of g before start → t.rolling ≡ false → t.steps + weight done s ≡ 2 * advances t.history + scans t.history → Moves t
    unfolding walk_edges
    walk-move t v done [] s stale C fut calm cnt = back-move walking t v done [] s stale refl refl C fut calm cnt
    walk-move t v done (r ∷ rs) s stale C fut calm cnt = front-move t v done r rs s stale (memb (to g r) (known before t.history)) refl C fut calm cnt

    pub move : (t : Trace) → Holds t → over t.config ≡ false → Moves t
    move t (at-walking v done rest s stale C fut calm cnt) o = walk-move t v done rest s stale C fut calm cnt
    move t (at-restoring v done rest s stale C fut calm cnt) o = back-move restoring t v done rest s stale refl refl C fut calm cnt
    move t (at-rolling v done rest s stale C sh ro cnt) o = roll-move t v done rest s stale C sh ro cnt
    move t (at-end K e calm cnt) o = clash (sym (ap over K.is-config) ∙ o)
    move t (at-undone K e ro cnt) o = clash (sym (ap over K.is-config) ∙ o)
