-- On any words at all, sound or not: a step that fits leaves every state field in kind, every area as long as it was, and every word past
-- the stated lengths; so does a run, and the words of its events fit its area.
-- Each store of a step is at a node that the step has judged, or that a state field in kind names.
use Rattle.std.proofs.Common.{◌≡◌, refl, sym, ◌∙◌, Bool, true, false, cond, ◌&&◌, not, ℕ, zero, suc, ◌+◌, ◌*◌, ◌≤◌, arith, length, drop, length-append, eqb, ltb, leb, ltb-false, leb-true, lt-ltb, le-leb}
use borrow.Author.Tests.{eqb-false, not-true}
use Rattle.lists.specs.Words.{at}
use Rattle.lists.proofs.Tests.{and-true, both}
use Rattle.lists.proofs.Words.{length-put, length-filled, put-past, filled-past}
use Rattle.graphs.specs.Nodes.{Vertex, is_vertex, is_edge, is_link, is_node}
use Rattle.graphs.specs.Results.{rest_mark}
use Rattle.graphs.proofs.Nodes.{vertex-is, edge-is, link-of-edge, link-not-null, link-node}
use Rattle.folding.specs.Machine.{Config, walking, rolling_back, target, forward, fresh, tree, nontree, relink, retreat, finish, undo_tree, undo_open, pick_step, step_of, closed, upward, label_mark, scan_mark, circling, scanned_marks, fits, Stepped, relinked, enact, can_step, step}
use Rattle.folding.specs.Calls.{over, Run, proceed, run}
use Rattle.folding.specs.Claims.{Within, KeepClaim}
use Rattle.folding.proofs.Fields.{Fields, fields-yes, fields-are}

pub within-refl : (w : Config) → Within w w
within-refl w = record { same_n = refl; same_m = refl; same_start = refl; after_length = refl; tail_length = refl; marks_length = refl; after_past = refl; tail_past = refl; marks_past = refl }

within-trans : (w x y : Config) → Within w x → Within x y → Within w y
within-trans w x y a b = record {
  same_n = b.same_n ∙ a.same_n;
  same_m = b.same_m ∙ a.same_m;
  same_start = b.same_start ∙ a.same_start;
  after_length = b.after_length ∙ a.after_length;
  tail_length = b.tail_length ∙ a.tail_length;
  marks_length = b.marks_length ∙ a.marks_length;
  after_past = (λ i. drop (sym a.same_n i + sym a.same_m i) y.after) ∙ b.after_past ∙ (λ i. drop (a.same_n i + a.same_m i) x.after) ∙ a.after_past;
  tail_past = (λ i. drop (sym a.same_m i) y.tail) ∙ b.tail_past ∙ (λ i. drop (a.same_m i) x.tail) ∙ a.tail_past;
  marks_past = (λ i. drop (sym a.same_n i + sym a.same_m i) y.marks) ∙ b.marks_past ∙ (λ i. drop (a.same_n i + a.same_m i) x.marks) ∙ a.marks_past;
}

-- What a step keeps.
pub record Kept (w : Config) (s : Stepped) : Type 0 where
  pub fields : Fields s.config
  pub within : Within w s.config
  pub few : length s.events ≤ 2

module _ (w : Config) (K : Fields w) (L : w.n ≤ length w.marks) where
  v-is : Vertex w.n w.v
  v-is = vertex-is w.n w.v K.v-in

  -- The store a(v) := e.
  closed-length : length (closed w) ≡ length w.after
  closed-length = length-put 0 w.after w.v w.e

  closed-past : drop (w.n + w.m) (closed w) ≡ drop (w.n + w.m) w.after
  closed-past = let v = v-is in put-past 0 (w.n + w.m) w.after w.v w.e v.0 (omega arith)

  -- The store of a scan.
  marked-length : length (scanned_marks w) ≡ length w.marks
  marked-length = length-put 0 w.marks w.v (scan_mark (at 0 w.marks w.v))

  marked-past : drop (w.n + w.m) (scanned_marks w) ≡ drop (w.n + w.m) w.marks
  marked-past = let v = v-is in put-past 0 (w.n + w.m) w.marks w.v (scan_mark (at 0 w.marks w.v)) v.0 (omega arith)

  tree-kept : (w.e ≡ 0 → ⊥) → fits w tree ≡ true → Kept w (enact w tree)
  unfolding fits enact
  tree-kept ne h =
      let a = both (is_vertex w.n (target w w.e)) (leb w.next w.n && is_link w.n w.m (at 0 (closed w) (target w w.e))) h in
      let b = both (leb w.next w.n) (is_link w.n w.m (at 0 (closed w) (target w w.e))) a.1 in
      let v = v-is in
      let x = vertex-is w.n (target w w.e) a.0 in
      let e = link-not-null w.n w.m w.e K.e-in ne in
      let n = leb-true w.next w.n b.0 in
      let lo = K.next_low in
      record {
        fields = record { v-in = a.0; e-in = b.1; f-in = le-leb w.v (w.n + w.m) (omega arith); phase-in = K.phase-in; next_low = omega arith; next_high = omega arith; circular-in = K.circular-in };
        within = record { same_n = refl; same_m = refl; same_start = refl; after_length = closed-length; tail_length = length-put w.n w.tail w.e w.f; marks_length = length-put 0 w.marks (target w w.e) (label_mark w.next); after_past = closed-past; tail_past = put-past w.n w.m w.tail w.e w.f e.0 e.1; marks_past = put-past 0 (w.n + w.m) w.marks (target w w.e) (label_mark w.next) x.0 (omega arith) };
        few = omega arith;
      }

  -- The figure stays 0 or 1.
  circled : (b : Bool) → cond b 1 w.circular ≤ 1
  circled true = omega arith
  circled false = K.circular-in

  nontree-kept : (w.e ≡ 0 → ⊥) → fits w nontree ≡ true → Kept w (enact w nontree)
  unfolding fits enact
  nontree-kept ne h =
      let a = both (is_vertex w.n (target w w.e)) (is_link w.n w.m (at 0 w.after w.e)) h in
      let e = link-not-null w.n w.m w.e K.e-in ne in
      record {
        fields = record { v-in = K.v-in; e-in = a.1; f-in = link-node w.n w.m w.e K.e-in; phase-in = K.phase-in; next_low = K.next_low; next_high = K.next_high; circular-in = circled (circling w) };
        within = record { same_n = refl; same_m = refl; same_start = refl; after_length = length-put 0 w.after w.e w.f; tail_length = refl; marks_length = refl; after_past = put-past 0 (w.n + w.m) w.after w.e w.f (omega arith) (omega arith); tail_past = refl; marks_past = refl };
        few = omega arith;
      }

  relinked-in : (b : Bool) → (ltb 0 (relinked b) && leb (relinked b) 6) ≡ true
  relinked-in true = refl
  relinked-in false = refl

  relink-kept : ltb w.n w.f ≡ true → fits w relink ≡ true → Kept w (enact w relink)
  unfolding fits enact
  relink-kept c h =
      let f = edge-is w.n w.m w.f (and-true c K.f-in) in
      record {
        fields = record { v-in = K.v-in; e-in = link-of-edge w.n w.m w.f (and-true c K.f-in); f-in = h; phase-in = relinked-in (eqb w.phase rolling_back); next_low = K.next_low; next_high = K.next_high; circular-in = K.circular-in };
        within = record { same_n = refl; same_m = refl; same_start = refl; after_length = length-put 0 w.after w.f w.e; tail_length = refl; marks_length = refl; after_past = put-past 0 (w.n + w.m) w.after w.f w.e (omega arith) (omega arith); tail_past = refl; marks_past = refl };
        few = omega arith;
      }

  finish-kept : Kept w (enact w finish)
  unfolding enact
  finish-kept = record {
    fields = record { v-in = K.v-in; e-in = K.e-in; f-in = K.f-in; phase-in = refl; next_low = K.next_low; next_high = K.next_high; circular-in = K.circular-in };
    within = record { same_n = refl; same_m = refl; same_start = refl; after_length = closed-length; tail_length = refl; marks_length = marked-length; after_past = closed-past; tail_past = refl; marks_past = marked-past };
    few = omega arith;
  }

  undo-open-kept : Kept w (enact w undo_open)
  unfolding enact
  undo-open-kept = record {
    fields = record { v-in = K.v-in; e-in = K.e-in; f-in = K.f-in; phase-in = refl; next_low = K.next_low; next_high = K.next_high; circular-in = K.circular-in };
    within = record { same_n = refl; same_m = refl; same_start = refl; after_length = closed-length; tail_length = refl; marks_length = length-filled (λ x. rest_mark (at 0 w.marks x)) w.n w.marks L; after_past = closed-past; tail_past = refl; marks_past = filled-past (λ x. rest_mark (at 0 w.marks x)) w.n w.m w.marks };
    few = omega arith;
  }

  -- A trailer that is no edge and not null is a vertex.
  f-vertex : ltb w.n w.f ≡ false → eqb w.f 0 ≡ false → is_vertex w.n w.f ≡ true
  f-vertex c d =
      let a = ltb-false w.n w.f c in
      let b : w.f ≡ 0 → ⊥ = eqb-false w.f 0 d in
      and-true (lt-ltb 0 w.f (omega arith)) (le-leb w.f w.n a)

  retreat-kept : ltb w.n w.f ≡ false → eqb w.f 0 ≡ false → fits w retreat ≡ true → Kept w (enact w retreat)
  unfolding fits enact
  retreat-kept c d h =
      let a = both (is_edge w.n w.m (upward w)) (is_node w.n w.m (target w (upward w)) && is_link w.n w.m (at 0 (closed w) (upward w))) h in
      let b = both (is_node w.n w.m (target w (upward w))) (is_link w.n w.m (at 0 (closed w) (upward w))) a.1 in
      let r = edge-is w.n w.m (upward w) a.0 in
      record {
        fields = record { v-in = f-vertex c d; e-in = b.1; f-in = le-leb (upward w) (w.n + w.m) r.1; phase-in = refl; next_low = K.next_low; next_high = K.next_high; circular-in = K.circular-in };
        within = record { same_n = refl; same_m = refl; same_start = refl; after_length = length-put 0 (closed w) (upward w) (target w (upward w)) ∙ closed-length; tail_length = length-put w.n w.tail (upward w) w.v; marks_length = marked-length; after_past = put-past 0 (w.n + w.m) (closed w) (upward w) (target w (upward w)) (omega arith) (omega arith) ∙ closed-past; tail_past = put-past w.n w.m w.tail (upward w) w.v r.0 r.1; marks_past = marked-past };
        few = omega arith;
      }

  undo-tree-kept : ltb w.n w.f ≡ false → eqb w.f 0 ≡ false → fits w undo_tree ≡ true → Kept w (enact w undo_tree)
  unfolding fits enact
  undo-tree-kept c d h =
      let a = both (is_edge w.n w.m (upward w)) (is_node w.n w.m (target w (upward w))) h in
      let r = edge-is w.n w.m (upward w) a.0 in
      record {
        fields = record { v-in = f-vertex c d; e-in = link-of-edge w.n w.m (upward w) a.0; f-in = a.1; phase-in = K.phase-in; next_low = K.next_low; next_high = K.next_high; circular-in = K.circular-in };
        within = record { same_n = refl; same_m = refl; same_start = refl; after_length = closed-length; tail_length = length-put w.n w.tail (upward w) w.v; marks_length = refl; after_past = closed-past; tail_past = put-past w.n w.m w.tail (upward w) w.v r.0 r.1; marks_past = refl };
        few = omega arith;
      }

  kept_at : (a b c d x : Bool) → (a ≡ true → w.e ≡ 0 → ⊥) → ltb w.n w.f ≡ c → eqb w.f 0 ≡ d → fits w (pick_step a b c d x) ≡ true → Kept w (enact w (pick_step a b c d x))
  kept_at true true c d x ne p q h = tree-kept (ne refl) h
  kept_at true false c d x ne p q h = nontree-kept (ne refl) h
  kept_at false b true d x ne p q h = relink-kept p h
  kept_at false b false true false ne p q h = finish-kept
  kept_at false b false true true ne p q h = undo-open-kept
  kept_at false b false false false ne p q h = retreat-kept p q h
  kept_at false b false false true ne p q h = undo-tree-kept p q h

  -- Going forward, e is not null.
  not_null : forward w ≡ true → w.e ≡ 0 → ⊥
  not_null h = eqb-false w.e 0 (not-true (eqb w.e 0) (both (eqb w.phase walking) (not (eqb w.e 0)) h).1)

  pub step_kept : can_step w ≡ true → Kept w (step w)
  unfolding step_of
  step_kept = kept_at (forward w) (fresh w) (ltb w.n w.f) (eqb w.f 0) (eqb w.phase rolling_back) not_null refl refl

pub keeps : KeepClaim
keeps w h L c = let K : Kept w (step w) = step_kept w (fields-are w h) L c in (fields-yes (step w).config K.fields, K.within)

-- ---- a run
pub record RunKept (w : Config) (r : Run) : Type 0 where
  pub fields : Fields r.config
  pub within : Within w r.config
  pub few : length r.events ≤ 2 * r.steps

pub run-kept : (k : ℕ) (w : Config) → Fields w → w.n ≤ length w.marks → RunKept w (run k w)
unfolding run
run-kept zero w K L = record { fields = K; within = within-refl w; few = omega arith }
run-kept (suc k) w K L = go (over w) (can_step w) refl (λ S. run-kept k (step w).config S.fields (let n = S.within.same_n in let m = S.within.marks_length in omega arith))
  where
    go : (a b : Bool) → can_step w ≡ b → (Kept w (step w) → RunKept (step w).config (run k (step w).config)) → RunKept w (proceed (run k) a b w)
    go true b e ih = record { fields = K; within = within-refl w; few = omega arith }
    go false false e ih = record { fields = K; within = within-refl w; few = omega arith }
    go false true e ih =
        let S : Kept w (step w) = step_kept w K L e in
        let R = ih S in
        record { fields = R.fields; within = within-trans w (step w).config (run k (step w).config).config S.within R.within; few = omega (arith, S.few, R.few, length-append (step w).events (run k (step w).config).events) }
