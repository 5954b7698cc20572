-- An opening and every call depend on the stated words of links and marks alone.
-- On the stated words alone a step reads what it reads on the whole areas, or the same word has already put it out of kind; its stores are the
-- same. So a run makes the same steps, and every call has the same number.
use Rattle.std.proofs.Common.{◌≡◌, refl, sym, ap, ◌∙◌, subst, Bool, true, false, cond, ◌&&◌, ◌||◌, not, List, [], ◌∷◌, ◌++◌, ℕ, zero, suc, ◌+◌, ◌*◌, ◌≤◌, ◌<◌, arith, length, take, drop, take_at, take-take, eqb, ltb, leb, ltb-false}
use borrow.Author.Tests.{eqb-false, not-true}
use Rattle.lists.specs.Words.{at, put, overlay, values_from}
use Rattle.lists.proofs.Tests.{clash, both, and-true}
use Rattle.lists.proofs.Words.{at_take, take_put, take-filled, filled-same, length-values}
use Rattle.graphs.specs.Nodes.{Vertex, Edge, is_vertex, is_edge, is_link, is_node}
use Rattle.graphs.specs.Events.{event, advance_tree, advance_nontree, retreat_nontree, retreat_tree, label, scan, words}
use Rattle.graphs.specs.Results.{unless_blank, marks_first, rest_mark, marks_rest}
use Rattle.graphs.specs.Image.{Image, stated, SameLinks}
use Rattle.graphs.specs.Refusals.{Refusal, refuse, first_of, Lent, short, vertices_out, edges_out, vertex_out}
use Rattle.graphs.proofs.Nodes.{vertex-is, edge-is, link-not-null}
use Rattle.graphs.proofs.Sound.{profile_sound}
use Rattle.graphs.proofs.Stated.{short-stated, same-links}
use Rattle.folding.specs.Machine.{Config, walking, finished, rolling_back, rolled_back, target, forward, fresh, mark_ahead, Step, tree, nontree, relink, retreat, finish, undo_tree, undo_open, pick_step, step_of, closed, upward, label_mark, scan_mark, unscanned, scanned_marks, fits, Stepped, relinked, enact, can_step, step}
use Rattle.folding.specs.Calls.{Answer, ran, taken, Reply, unless, over, fields_in, state_number, work_areas, step_refusals, run_number, step_number, roll_back_number, Run, onward, proceed, run, Call, run_for, single, roll_back, area_of, number_of, perform, serve, unopened, open_number, opened_at, open_reply, opening}
use Rattle.folding.specs.Lines.{Line, orders, add_if, noted, calls, begun, folded}
use Rattle.folding.specs.Stated.{stated_in, SameCall, SameCalls, SameReply, SameLine, open_areas, SameLinksClaim}
use Rattle.folding.proofs.Fields.{Fields, fields-are}
use Rattle.folding.proofs.Passed.{passed, lengths}
use Rattle.folding.proofs.Confined.{Kept, step_kept}
use Rattle.folding.proofs.AnyInput.{fits-of}

-- The second of two tests matters only where the first is passed.
and_same : (a b : Bool) {x y : Bool} → a ≡ b → (b ≡ true → x ≡ y) → (a && x) ≡ (b && y)
and_same true true e h = h refl
and_same true false e h = clash e
and_same false true e h = clash (sym e)
and_same false false e h = refl

-- The same sizes and start, with these fields, links and marks.
abbrev placed : Config → (v e f phase next circular : ℕ) (after tail marks : List ℕ) → Config
placed w v e f phase next circular after tail marks = record {
  n = w.n;
  m = w.m;
  start = w.start;
  v = v;
  e = e;
  f = f;
  phase = phase;
  next = next;
  circular = circular;
  after = after;
  tail = tail;
  marks = marks;
}

-- ---- a step
module _ (w : Config) (K : Fields w) where
  v-is : Vertex w.n w.v
  v-is = vertex-is w.n w.v K.v-in

  -- What is read.
  same_after : (x : ℕ) → 0 < x → x ≤ w.n + w.m → at 0 (stated_in w).after x ≡ at 0 w.after x
  same_after x p q = at_take 0 (w.n + w.m) w.after x p (omega arith)

  same-mark : (x : ℕ) → Vertex w.n x → at 0 (stated_in w).marks x ≡ at 0 w.marks x
  same-mark x h = at_take 0 (w.n + w.m) w.marks x h.0 (omega arith)

  same_target : (r : ℕ) → Edge w.n w.m r → target (stated_in w) r ≡ target w r
  same_target r e = at_take w.n w.m w.tail r e.0 e.1

  same-closed : closed (stated_in w) ≡ take (w.n + w.m) (closed w)
  same-closed = sym (take_put 0 (w.n + w.m) w.after w.v w.e)

  read-closed : (x : ℕ) → 0 < x → x ≤ w.n + w.m → at 0 (closed (stated_in w)) x ≡ at 0 (closed w) x
  read-closed x p q = ap (λ (l : List ℕ). at 0 l x) same-closed ∙ at_take 0 (w.n + w.m) (closed w) x p (omega arith)

  same-scanned : scanned_marks (stated_in w) ≡ take (w.n + w.m) (scanned_marks w)
  same-scanned =
      ap (λ (k : ℕ). put 0 (take (w.n + w.m) w.marks) w.v (scan_mark k)) (same-mark w.v v-is)
      ∙ sym (take_put 0 (w.n + w.m) w.marks w.v (scan_mark (at 0 w.marks w.v)))

  same_rest : marks_rest w.n (stated_in w).marks ≡ take (w.n + w.m) (marks_rest w.n w.marks)
  same_rest =
      filled-same (λ x. rest_mark (at 0 (stated_in w).marks x)) (λ x. rest_mark (at 0 w.marks x)) w.n (stated_in w).marks (λ x p q. ap rest_mark (same-mark x (p, q)))
      ∙ sym (take-filled (λ x. rest_mark (at 0 w.marks x)) w.n w.m w.marks)

  -- A step of this kind is in kind on the stated words exactly where it is, and then does the same to them.
  record SameStep (s : Step) : Type 0 where
    kind : fits (stated_in w) s ≡ fits w s
    does : fits w s ≡ true → enact (stated_in w) s ≡ record { config = stated_in (enact w s).config; events = (enact w s).events }

  -- Going forward, t(e) is read first.
  module _ (ne : w.e ≡ 0 → ⊥) where
    e-is : Edge w.n w.m w.e
    e-is = link-not-null w.n w.m w.e K.e-in ne

    ahead : target (stated_in w) w.e ≡ target w w.e
    ahead = same_target w.e e-is

    tree-same : SameStep tree
    unfolding fits enact
    tree-same = record {
      kind = and_same (is_vertex w.n (target (stated_in w) w.e)) (is_vertex w.n (target w w.e)) (ap (is_vertex w.n) ahead) (λ h i. leb w.next w.n && is_link w.n w.m (link h i));
      does = λ h. (
          let x = (both (is_vertex w.n (target w w.e)) (leb w.next w.n && is_link w.n w.m (at 0 (closed w) (target w w.e))) h).0 in
          λ i. record {
            config = placed w (ahead i) (link x i) w.v w.phase (suc w.next) w.circular (same-closed i) (tails i) (marks i);
            events = event advance_tree w.e w.v ∷ event label 0 (ahead i) ∷ [];
          }
          );
    }
      where
        link : is_vertex w.n (target w w.e) ≡ true → at 0 (closed (stated_in w)) (target (stated_in w) w.e) ≡ at 0 (closed w) (target w w.e)
        link h = let x = vertex-is w.n (target w w.e) h in ap (at 0 (closed (stated_in w))) ahead ∙ read-closed (target w w.e) x.0 (omega arith)

        tails : put w.n (take w.m w.tail) w.e w.f ≡ take w.m (put w.n w.tail w.e w.f)
        tails = sym (take_put w.n w.m w.tail w.e w.f)

        marks : put 0 (take (w.n + w.m) w.marks) (target (stated_in w) w.e) (label_mark w.next) ≡ take (w.n + w.m) (put 0 w.marks (target w w.e) (label_mark w.next))
        marks = ap (λ (x : ℕ). put 0 (take (w.n + w.m) w.marks) x (label_mark w.next)) ahead ∙ sym (take_put 0 (w.n + w.m) w.marks (target w w.e) (label_mark w.next))

    mark-ahead : is_vertex w.n (target w w.e) ≡ true → mark_ahead (stated_in w) ≡ mark_ahead w
    mark-ahead h = ap (at 0 (stated_in w).marks) ahead ∙ same-mark (target w w.e) (vertex-is w.n (target w w.e) h)

    nontree-same : SameStep nontree
    unfolding fits enact
    nontree-same = record {
      kind = and_same (is_vertex w.n (target (stated_in w) w.e)) (is_vertex w.n (target w w.e)) (ap (is_vertex w.n) ahead) (λ h. ap (is_link w.n w.m) next-link);
      does = λ h. (
          let x = (both (is_vertex w.n (target w w.e)) (is_link w.n w.m (at 0 w.after w.e)) h).0 in
          λ i. record {
            config = placed w w.v (next-link i) w.e w.phase w.next (cond (unscanned (mark-ahead x i)) 1 w.circular) (links i) (take w.m w.tail) (take (w.n + w.m) w.marks);
            events = event advance_nontree w.e w.v ∷ event retreat_nontree w.e w.v ∷ [];
          }
          );
    }
      where
        next-link : at 0 (stated_in w).after w.e ≡ at 0 w.after w.e
        next-link = let z = e-is in same_after w.e (omega arith) z.1

        links : put 0 (take (w.n + w.m) w.after) w.e w.f ≡ take (w.n + w.m) (put 0 w.after w.e w.f)
        links = sym (take_put 0 (w.n + w.m) w.after w.e w.f)

  relink-same : ltb w.n w.f ≡ true → SameStep relink
  unfolding fits enact
  relink-same c = record {
    kind = ap (is_node w.n w.m) next-node;
    does = λ h i. record {
      config = placed w w.v w.f (next-node i) (relinked (eqb w.phase rolling_back)) w.next w.circular (links i) (take w.m w.tail) (take (w.n + w.m) w.marks);
      events = [];
    };
  }
    where
      next-node : at 0 (stated_in w).after w.f ≡ at 0 w.after w.f
      next-node = let f = edge-is w.n w.m w.f (and-true c K.f-in) in same_after w.f (omega arith) f.1

      links : put 0 (take (w.n + w.m) w.after) w.f w.e ≡ take (w.n + w.m) (put 0 w.after w.f w.e)
      links = sym (take_put 0 (w.n + w.m) w.after w.f w.e)

  finish-same : SameStep finish
  unfolding fits enact
  finish-same = record {
    kind = refl;
    does = λ h i. record {
      config = placed w w.v w.e w.f finished w.next w.circular (same-closed i) (take w.m w.tail) (same-scanned i);
      events = event scan 0 w.v ∷ [];
    };
  }

  undo-open-same : SameStep undo_open
  unfolding fits enact
  undo-open-same = record {
    kind = refl;
    does = λ h i. record {
      config = placed w w.v w.e w.f rolled_back w.next w.circular (same-closed i) (take w.m w.tail) (same_rest i);
      events = [];
    };
  }

  -- A close with f not null: f is a vertex, and a(f) is read first.
  module _ (c : ltb w.n w.f ≡ false) (d : eqb w.f 0 ≡ false) where
    up : upward (stated_in w) ≡ upward w
    up = let a = ltb-false w.n w.f c in let b : w.f ≡ 0 → ⊥ = eqb-false w.f 0 d in read-closed w.f (omega arith) (omega arith)

    parent-word : is_edge w.n w.m (upward w) ≡ true → target (stated_in w) (upward (stated_in w)) ≡ target w (upward w)
    parent-word h = ap (target (stated_in w)) up ∙ same_target (upward w) (edge-is w.n w.m (upward w) h)

    next-link : is_edge w.n w.m (upward w) ≡ true → at 0 (closed (stated_in w)) (upward (stated_in w)) ≡ at 0 (closed w) (upward w)
    next-link h = let r = edge-is w.n w.m (upward w) h in ap (at 0 (closed (stated_in w))) up ∙ read-closed (upward w) (omega arith) r.1

    tails : put w.n (take w.m w.tail) (upward (stated_in w)) w.v ≡ take w.m (put w.n w.tail (upward w) w.v)
    tails = ap (λ (r : ℕ). put w.n (take w.m w.tail) r w.v) up ∙ sym (take_put w.n w.m w.tail (upward w) w.v)

    retreat-same : SameStep retreat
    unfolding fits enact
    retreat-same = record {
      kind = and_same (is_edge w.n w.m (upward (stated_in w))) (is_edge w.n w.m (upward w)) (ap (is_edge w.n w.m) up) (λ h i. is_node w.n w.m (parent-word h i) && is_link w.n w.m (next-link h i));
      does = λ h. (
          let x = (both (is_edge w.n w.m (upward w)) (is_node w.n w.m (target w (upward w)) && is_link w.n w.m (at 0 (closed w) (upward w))) h).0 in
          λ i. record {
            config = placed w w.f (next-link x i) (up i) walking w.next w.circular (links x i) (tails i) (same-scanned i);
            events = event scan 0 w.v ∷ event retreat_tree (up i) w.f ∷ [];
          }
          );
    }
      where
        links : is_edge w.n w.m (upward w) ≡ true
            → put 0 (closed (stated_in w)) (upward (stated_in w)) (target (stated_in w) (upward (stated_in w))) ≡ take (w.n + w.m) (put 0 (closed w) (upward w) (target w (upward w)))
        links h = (λ i. put 0 (same-closed i) (up i) (parent-word h i)) ∙ sym (take_put 0 (w.n + w.m) (closed w) (upward w) (target w (upward w)))

    undo-tree-same : SameStep undo_tree
    unfolding fits enact
    undo-tree-same = record {
      kind = and_same (is_edge w.n w.m (upward (stated_in w))) (is_edge w.n w.m (upward w)) (ap (is_edge w.n w.m) up) (λ h. ap (is_node w.n w.m) (parent-word h));
      does = λ h. (
          let x = (both (is_edge w.n w.m (upward w)) (is_node w.n w.m (target w (upward w))) h).0 in
          λ i. record {
            config = placed w w.f (up i) (parent-word x i) w.phase w.next w.circular (same-closed i) (tails i) (take (w.n + w.m) w.marks);
            events = [];
          }
          );
    }

  -- The step to come, but for whether t(e) is unmarked.
  picked_same : (b c d x : Bool) → ltb w.n w.f ≡ c → eqb w.f 0 ≡ d → SameStep (pick_step false b c d x)
  picked_same b true d x p q = relink-same p
  picked_same b false true false p q = finish-same
  picked_same b false true true p q = undo-open-same
  picked_same b false false false p q = retreat-same p q
  picked_same b false false true p q = undo-tree-same p q

  -- Where t(e) is no element, neither step forward is in kind.
  unfit-ahead : (x : Config) (b c d r : Bool) → is_vertex x.n (target x x.e) ≡ false → fits x (pick_step true b c d r) ≡ false
  unfolding fits
  unfit-ahead x true c d r h = ap (λ (z : Bool). z && (leb x.next x.n && is_link x.n x.m (at 0 (closed x) (target x x.e)))) h
  unfit-ahead x false c d r h = ap (λ (z : Bool). z && is_link x.n x.m (at 0 x.after x.e)) h

  -- Stepping backward, nothing is asked of the mark of t(e).
  unasked : (a b c d x : Bool) → pick_step false a c d x ≡ pick_step false b c d x
  unasked a b true d x = refl
  unasked a b false true true = refl
  unasked a b false true false = refl
  unasked a b false false true = refl
  unasked a b false false false = refl

  -- The steps r on the stated words and s on the areas: in kind alike, and then the same.
  record SameSteps (r s : Step) : Type 0 where
    kind : fits (stated_in w) r ≡ fits w s
    does : fits w s ≡ true → enact (stated_in w) r ≡ record { config = stated_in (enact w s).config; events = (enact w s).events }

  ahead-same : (w.e ≡ 0 → ⊥) → (a b c d x : Bool) → fresh (stated_in w) ≡ a → fresh w ≡ b → (v : Bool) → is_vertex w.n (target w w.e) ≡ v
      → SameSteps (pick_step true a c d x) (pick_step true b c d x)
  ahead-same ne a b c d x p q true h = go b (sym p ∙ ap (λ (k : ℕ). eqb k 0) (mark-ahead ne h) ∙ q)
    where
      same : (y : Bool) → SameStep (pick_step true y c d x)
      same true = tree-same ne
      same false = nontree-same ne

      go : (y : Bool) → a ≡ y → SameSteps (pick_step true a c d x) (pick_step true y c d x)
      go y e = subst (λ (z : Bool). SameSteps (pick_step true z c d x) (pick_step true y c d x)) (sym e) (record { kind = (same y).kind; does = (same y).does })
  ahead-same ne a b c d x p q false h = record {
    kind = unfit-ahead (stated_in w) a c d x (ap (is_vertex w.n) (ahead ne) ∙ h) ∙ sym (unfit-ahead w b c d x h);
    does = λ f. clash (sym f ∙ unfit-ahead w b c d x h);
  }

  -- The step to come is in kind on the stated words exactly where it is, and is then the same step.
  to-come : SameSteps (step_of (stated_in w)) (step_of w)
  unfolding step_of
  to-come = go (forward w) refl
    where
      go : (a : Bool) → forward w ≡ a
          → SameSteps (pick_step a (fresh (stated_in w)) (ltb w.n w.f) (eqb w.f 0) (eqb w.phase rolling_back)) (pick_step a (fresh w) (ltb w.n w.f) (eqb w.f 0) (eqb w.phase rolling_back))
      go true f =
          ahead-same (eqb-false w.e 0 (not-true (eqb w.e 0) (both (eqb w.phase walking) (not (eqb w.e 0)) f).1))
          (fresh (stated_in w)) (fresh w) (ltb w.n w.f) (eqb w.f 0) (eqb w.phase rolling_back) refl refl (is_vertex w.n (target w w.e)) refl
      go false f =
          let S = picked_same (fresh w) (ltb w.n w.f) (eqb w.f 0) (eqb w.phase rolling_back) refl refl in
          subst (λ (r : Step). SameSteps r (pick_step false (fresh w) (ltb w.n w.f) (eqb w.f 0) (eqb w.phase rolling_back)))
          (unasked (fresh w) (fresh (stated_in w)) (ltb w.n w.f) (eqb w.f 0) (eqb w.phase rolling_back))
          (record { kind = S.kind; does = S.does })

  pub can-same : can_step (stated_in w) ≡ can_step w
  can-same = to-come.kind

  pub step_same : can_step w ≡ true → step (stated_in w) ≡ record { config = stated_in (step w).config; events = (step w).events }
  step_same = to-come.does

-- ---- a run
-- What a run leaves, of the stated words.
abbrev cut : Run → Run
cut r = record { reason = r.reason; steps = r.steps; events = r.events; config = stated_in r.config }

run-same : (k : ℕ) (w : Config) → Fields w → w.n ≤ length w.marks → run k (stated_in w) ≡ cut (run k w)
unfolding run
run-same zero w K L = refl
run-same (suc k) w K L =
    ap (λ (b : Bool). proceed (run k) (over w) b (stated_in w)) (can-same w K)
    ∙ go (over w) (can_step w) refl (λ S. run-same k (step w).config S.fields (let n = S.within.same_n in let m = S.within.marks_length in omega arith))
  where
    go : (a b : Bool) → can_step w ≡ b → (Kept w (step w) → run k (stated_in (step w).config) ≡ cut (run k (step w).config))
        → proceed (run k) a b (stated_in w) ≡ cut (proceed (run k) a b w)
    go true b e ih = refl
    go false false e ih = refl
    go false true e ih =
        ap (λ (s : Stepped). onward s.events (run k s.config)) (step_same w K e)
        ∙ ap (onward (step w).events) (ih (step_kept w K L e))

-- ---- a call
-- The areas are as long as stated exactly where their stated words are as many.
areas-same : (w : Config) (k : ℕ) (area : List ℕ) → short (work_areas (stated_in w) k area) ≡ short (work_areas w k area)
areas-same w k area = λ i. short-stated (w.n + w.m) w.after i || (short-stated w.m w.tail i || (short-stated (w.n + w.m) w.marks i || (ltb (length area) k || false)))

-- A state out of kind is refused before its own conditions are looked at.
own_same : (w : Config) (others own : List Refusal) → (Fields w → first_of others ≡ first_of own)
    → first_of (refuse 8 (not (fields_in w)) ∷ others) ≡ first_of (refuse 8 (not (fields_in w)) ∷ own)
own_same w others own h = go (fields_in w) refl
  where
    go : (b : Bool) → fields_in w ≡ b → cond (not b) 8 (first_of others) ≡ cond (not b) 8 (first_of own)
    go true e = h (fields-are w e)
    go false e = refl

state-same : (w : Config) (areas others : List Lent) (own less : List Refusal) → short others ≡ short areas → (Fields w → first_of less ≡ first_of own)
    → state_number (stated_in w) others less ≡ state_number w areas own
unfolding fields_in
state-same w areas others own less a h =
    (λ i. first_of (refuse 1 (vertices_out w.n) ∷ refuse 2 (edges_out w.m) ∷ refuse 3 (a i) ∷ refuse 4 (vertex_out w.n w.start) ∷ refuse 8 (not (fields_in w)) ∷ less))
    ∙ ap (λ (k : ℕ). cond (vertices_out w.n) 1 (cond (edges_out w.m) 2 (cond (short areas) 3 (cond (vertex_out w.n w.start) 4 k)))) (own_same w less own h)

number_same : (w : Config) (c : Call) → number_of (stated_in w) c ≡ number_of w c
unfolding run_number step_number roll_back_number
number_same w (run_for k area) = state-same w (work_areas w (6 * k) area) (work_areas (stated_in w) (6 * k) area) [] [] (areas-same w (6 * k) area) (λ K. refl)
number_same w (single area) =
    state-same w (work_areas w 6 area) (work_areas (stated_in w) 6 area) (step_refusals w) (step_refusals (stated_in w)) (areas-same w 6 area)
    (λ K. ap (λ (b : Bool). first_of (refuse 8 (not (over w) && not b) ∷ refuse 9 (over w) ∷ [])) (can-same w K))
number_same w roll_back = state-same w [] [] (refuse 9 (over w) ∷ []) (refuse 9 (over w) ∷ []) refl (λ K. refl)

-- What a call leaves, of the stated words.
abbrev shown : Reply → Reply
shown r = record { answer = r.answer; steps = r.steps; events = r.events; config = stated_in r.config; area = r.area }

perform-same : (w : Config) (c : Call) → number_of w c ≡ 0 → perform (stated_in w) c ≡ shown (perform w c)
unfolding run_number step_number
perform-same w (run_for k area) h =
    let P = passed w (work_areas w (6 * k) area) [] h in
    let Z = lengths w (6 * k) area P.areas-long in
    ap (λ (r : Run). record { answer = ran r.reason; steps = r.steps; events = r.events; config = r.config; area = overlay (words r.events) area }) (run-same k w P.fields (omega (arith, Z.marks-long)))
perform-same w (single area) h =
    let P = passed w (work_areas w 6 area) (step_refusals w) h in
    ap (λ (s : Stepped). record { answer = taken; steps = 1; events = s.events; config = s.config; area = overlay (words s.events) area }) (step_same w P.fields (fits-of w P.own-false))
perform-same w roll_back h = refl

serve-same : (w : Config) (c : Call) → serve (stated_in w) c ≡ shown (serve w c)
unfolding serve
serve-same w c = ap (λ (k : ℕ). unless k (stated_in w) (area_of c) (perform (stated_in w) c)) (number_same w c) ∙ go (number_of w c) refl
  where
    go : (k : ℕ) → number_of w c ≡ k → unless k (stated_in w) (area_of c) (perform (stated_in w) c) ≡ shown (unless k w (area_of c) (perform w c))
    go zero e = perform-same w c e
    go (suc k) e = refl

-- ---- two calls that differ in their event areas
-- The conditions up to 3, where b says whether the event area is short.
abbrev sizes : Config → Bool → List Refusal → List Refusal
sizes w b own =
    refuse 1 (vertices_out w.n) ∷ refuse 2 (edges_out w.m)
    ∷ refuse 3 (ltb (length w.after) (w.n + w.m) || (ltb (length w.tail) w.m || (ltb (length w.marks) (w.n + w.m) || b))) ∷ own

alike-areas : (w : Config) (own : List Refusal) {a b : Bool} → a ≡ b → first_of (sizes w a own) ≡ first_of (sizes w b own)
alike-areas w own e = ap (λ (b : Bool). first_of (sizes w b own)) e

alike-number : (w : Config) (c d : Call) → SameCall c d → number_of w c ≡ number_of w d
unfolding run_number step_number
alike-number w (run_for k area) (run_for j other) (e, s) = alike-areas w (refuse 4 (vertex_out w.n w.start) ∷ refuse 8 (not (fields_in w)) ∷ []) s
alike-number w (single area) (single other) s = alike-areas w (refuse 4 (vertex_out w.n w.start) ∷ refuse 8 (not (fields_in w)) ∷ step_refusals w) s
alike-number w roll_back roll_back s = refl
alike-number w (run_for k area) (single other) s = elim s [ ]
alike-number w (run_for k area) roll_back s = elim s [ ]
alike-number w (single area) (run_for j other) s = elim s [ ]
alike-number w (single area) roll_back s = elim s [ ]
alike-number w roll_back (run_for j other) s = elim s [ ]
alike-number w roll_back (single other) s = elim s [ ]

alike-perform : (w : Config) (c d : Call) → SameCall c d → SameReply (perform w c) (perform w d)
alike-perform w (run_for k area) (run_for j other) (e, s) = record {
  answer = ap (λ (x : ℕ). ran (run x w).reason) e;
  steps = ap (λ (x : ℕ). (run x w).steps) e;
  events = ap (λ (x : ℕ). (run x w).events) e;
  config = ap (λ (x : ℕ). stated_in (run x w).config) e;
}
alike-perform w (single area) (single other) s = record { answer = refl; steps = refl; events = refl; config = refl }
alike-perform w roll_back roll_back s = record { answer = refl; steps = refl; events = refl; config = refl }
alike-perform w (run_for k area) (single other) s = elim s [ ]
alike-perform w (run_for k area) roll_back s = elim s [ ]
alike-perform w (single area) (run_for j other) s = elim s [ ]
alike-perform w (single area) roll_back s = elim s [ ]
alike-perform w roll_back (run_for j other) s = elim s [ ]
alike-perform w roll_back (single other) s = elim s [ ]

alike-serve : (w : Config) (c d : Call) → SameCall c d → SameReply (serve w c) (serve w d)
unfolding serve
alike-serve w c d s = subst (λ (k : ℕ). SameReply (unless (number_of w c) w (area_of c) (perform w c)) (unless k w (area_of d) (perform w d))) (alike-number w c d s) (go (number_of w c))
  where
    go : (k : ℕ) → SameReply (unless k w (area_of c) (perform w c)) (unless k w (area_of d) (perform w d))
    go zero = alike-perform w c d s
    go (suc k) = record { answer = refl; steps = refl; events = refl; config = refl }

-- Cutting an area twice is cutting it once.
stated-twice : (w : Config) → stated_in (stated_in w) ≡ stated_in w
stated-twice w = λ i. record {
  n = w.n;
  m = w.m;
  start = w.start;
  v = w.v;
  e = w.e;
  f = w.f;
  phase = w.phase;
  next = w.next;
  circular = w.circular;
  after = take-take (w.n + w.m) (w.n + w.m) w.after (omega arith) i;
  tail = take-take w.m w.m w.tail (omega arith) i;
  marks = take-take (w.n + w.m) (w.n + w.m) w.marks (omega arith) i;
}

call_same : (w x : Config) → stated_in w ≡ stated_in x → (c d : Call) → SameCall c d → SameReply (serve w c) (serve x d)
call_same w x e c d s =
    let A = alike-serve (stated_in x) c d s in
    let p = sym (serve-same w c) ∙ ap (λ (y : Config). serve y c) e in
    let q = serve-same x d in
    let left = sym (stated-twice (serve w c).config) in
    let right = stated-twice (serve x d).config in
    record {
      answer = ap (λ (r : Reply). r.answer) p ∙ A.answer ∙ ap (λ (r : Reply). r.answer) q;
      steps = ap (λ (r : Reply). r.steps) p ∙ A.steps ∙ ap (λ (r : Reply). r.steps) q;
      events = ap (λ (r : Reply). r.events) p ∙ A.events ∙ ap (λ (r : Reply). r.events) q;
      config = left ∙ ap (λ (r : Reply). stated_in r.config) p ∙ A.config ∙ ap (λ (r : Reply). stated_in r.config) q ∙ right;
    }

-- ---- an opening
-- A state just opened, with this first reference, these links and marks.
abbrev opened_with : Image → ℕ → ℕ → (after tail marks : List ℕ) → Config
opened_with g start e after tail marks = record {
  n = g.n;
  m = g.m;
  start = start;
  v = start;
  e = e;
  f = 0;
  phase = walking;
  next = 2;
  circular = 0;
  after = after;
  tail = tail;
  marks = marks;
}

-- What an opening leaves, of the stated words: it depends on those of the image alone, and not on the marks.
abbrev opened_from : Image → List ℕ → ℕ → Config
opened_from g before start = opened_with g start (at 0 g.after start) g.after g.tail (put 0 (values_from (unless_blank before (λ x. 0)) 0 (g.n + g.m)) start (label_mark 1))

opened-same : (g : Image) (before : List ℕ) (start : ℕ) (marks area : List ℕ) → open_number g before start marks area ≡ 0
    → stated_in (opened_at g before start marks) ≡ opened_from (stated g) before start
unfolding open_number
opened-same g before start marks area h =
    let s = (profile_sound g before start (open_areas g marks area) h).start_vertex in
    let first = sym (at_take 0 (g.n + g.m) g.after start s.0 (omega arith)) in
    let cleared = take_at (values_from (unless_blank before (λ x. 0)) 0 (g.n + g.m)) (drop (g.n + g.m) marks) (g.n + g.m) (length-values (unless_blank before (λ x. 0)) 0 (g.n + g.m)) in
    let marked = take_put 0 (g.n + g.m) (marks_first (g.n + g.m) before marks) start (label_mark 1) ∙ ap (λ (l : List ℕ). put 0 l start (label_mark 1)) cleared in
    λ i. opened_with g start (first i) (take (g.n + g.m) g.after) (take g.m g.tail) (marked i)

open-same : (g h : Image) → SameLinks g h → (before : List ℕ) (start : ℕ) (marks area others room : List ℕ) → open_number g before start marks area ≡ 0
    → open_number h before start others room ≡ 0 → SameReply (opening g before start marks area) (opening h before start others room)
unfolding opening
open-same g h L before start marks area others room p q =
    subst (λ (k : ℕ). SameReply (unless k (unopened g start marks) area (open_reply g before start marks area)) (opening h before start others room)) (sym p)
    (subst (λ (k : ℕ). SameReply (open_reply g before start marks area) (unless k (unopened h start others) room (open_reply h before start others room))) (sym q)
    (record { answer = refl; steps = refl; events = refl; config = opened-same g before start marks area p ∙ ap (λ (x : Image). opened_from x before start) L ∙ sym (opened-same h before start others room q) }))

-- ---- lists of calls
noted-same : (l m : Line) (c d : Call) (r s : Reply) → SameLine l m → SameCall c d → SameReply r s → SameLine (noted l c r) (noted m d s)
noted-same l m c d r s S k R = record {
  config = R.config;
  events = λ i. S.events i ++ R.events i;
  steps = λ i. S.steps i + R.steps i;
  rolling = λ i. S.rolling i || ordered c d k R.answer i;
  since = λ i. add_if (S.rolling i) (S.since i) (R.steps i);
  answers = λ i. R.answer i ∷ S.answers i;
}
  where
    ordered : (c d : Call) → SameCall c d → {a b : Answer} → a ≡ b → orders c a ≡ orders d b
    ordered (run_for k area) (run_for j other) q e = refl
    ordered (single area) (single other) q e = refl
    ordered roll_back roll_back q e = ap (orders roll_back) e
    ordered (run_for k area) (single other) q {a = a} {b = b} e = elim q [ ]
    ordered (run_for k area) roll_back q {a = a} {b = b} e = elim q [ ]
    ordered (single area) (run_for j other) q {a = a} {b = b} e = elim q [ ]
    ordered (single area) roll_back q {a = a} {b = b} e = elim q [ ]
    ordered roll_back (run_for j other) q {a = a} {b = b} e = elim q [ ]
    ordered roll_back (single other) q {a = a} {b = b} e = elim q [ ]

calls_same : (l m : Line) → SameLine l m → (cs ds : List Call) → SameCalls cs ds → SameLine (calls folded l cs) (calls folded m ds)
unfolding calls
calls_same l m S [] [] k = S
calls_same l m S [] (d ∷ ds) k = elim k [ ]
calls_same l m S (c ∷ cs) [] k = elim k [ ]
calls_same l m S (c ∷ cs) (d ∷ ds) (k, ks) =
    let r = serve l.config c in
    let s = serve m.config d in
    calls_same (noted l c r) (noted m d s) (noted-same l m c d r s S k (call_same l.config m.config S.config c d k)) cs ds ks

pub same-calls : SameLinksClaim folded
unfolding open_number
same-calls = record {
  opening_number = λ g h L before start marks area others room s. (same-links g h L).number before start (open_areas g marks area) (open_areas h others room) s;
  opening = open-same;
  call = call_same;
  lines = λ g h L before start marks area others room p q cs ds k. (
      let R = open-same g h L before start marks area others room p q in
      calls_same (begun (opening g before start marks area)) (begun (opening h before start others room))
      (record { config = R.config; events = R.events; steps = refl; rolling = refl; since = refl; answers = λ i. R.answer i ∷ [] }) cs ds k
      );
}
