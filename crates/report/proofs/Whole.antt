-- The whole walk of a profile: an opening that is taken, and one run of 9,000 moves or more on the part behind the opening's event.
-- The two are line B of folding/ with one call, which has ended; so its events, labels, links and moves are those of the depth-first search.
use Rattle.std.proofs.Common.{◌≡◌, refl, sym, ap, ◌∙◌, subst, inl, List, [], ◌∷◌, reverse, ℕ, suc, ◌+◌, ◌-◌, ◌*◌, ◌≤◌, arith, lit≤, length, drop, length-take, length-drop}
use mathlib.Core.List.{reverse-reverse}
use Rattle.std.specs.Prelude.{Some, Result, Ok, Err, IsOk}
use lib.ListN.{length-reverse}
use borrow.Rule.Slice.PartMut.{mid_of, put_mid}
use Rattle.lists.specs.Words.{overlay}
use Rattle.lists.proofs.Words.{length-overlay}
use Rattle.graphs.specs.Events.{Event, History, labelled, words}
use Rattle.graphs.specs.Circles.{circular_of}
use Rattle.graphs.specs.Image.{Image, graph_of}
use Rattle.graphs.specs.Results.{marks_left, events_left}
use Rattle.graphs.proofs.Results.{marks_length}
use Rattle.graphs.proofs.Room.{words-length, profile-ready}
use Rattle.graphs.proofs.Depth.{depth-first}
use Rattle.walks.specs.Promises.{depth_walk}
use Rattle.folding.specs.Machine.{Config, walking, finished}
use Rattle.folding.specs.Calls as defined
use Rattle.folding.specs.Calls.{Answer, unless, Call, run_for, serve, unopened, open_reply, opening}
use Rattle.folding.specs.Lines.{Line, begun, calls, line_a, line_b, folded}
use Rattle.folding.specs.Claims.{Agrees, Labelling}
use Rattle.folding.proofs.Agreement.{profile, marks-long, agreement, demand2}
use Rattle.folding.proofs.Totals.{steps-few, events-few, next-counts}
use Rattle.states.specs.declared.values.Reply.{Reply}
use Rattle.states.specs.Answers.{Seen, config_of, seen_of, told, told_taken}
use Rattle.refusals.specs.declared.Refusal.{Refusal}
use Rattle.scripts.specs.Script.{lent_to, seen_line, told_line, after_call}
use Rattle.scripts.specs.declared.order.Order.TheVariants.{Run}
use Rattle.scripts.specs.declared.play.Replayed.{Replayed}
use Rattle.scripts.proofs.Played.{run_more}
use Rattle.report.specs.Printed.{moves_of}
use Rattle.report.specs.Inside.{totals_in, CanWalk}

-- What is known of a run's answer and of the areas that it leaves, once it has walked a profile whole.
pub record Walked (g : Image) (start : ℕ) (marks area : List ℕ) (r : Reply) (after' tail' marks' area' : List ℕ) : Type 0 where
  pub few-events : r.events ≤ 10000
  pub few-moves : r.steps ≤ 14000
  pub some-label : 1 ≤ r.state.next
  pub totals : record { events = r.events + 1; elements = r.state.next - 1; moves = r.steps; circular = r.state.circular } ≡ totals_in g start
  pub links : after' ≡ g.after
  pub tails : tail' ≡ g.tail
  pub labels : marks' ≡ marks_left (g.n + g.m) [] (depth_walk g [] start) marks
  pub events : area' ≡ events_left (depth_walk g [] start) area
  pub same-marks : length marks' ≡ length marks
  pub same-events : length area' ≡ length area

-- 1 for an answer that refuses, else 0.
abbrev refuses : Answer → ℕ
refuses (defined.refused k) = 1
refuses defined.taken = 0
refuses (defined.ran why) = 0

-- What an opening has done, before any call.
abbrev begun_by : Reply → Replayed
begun_by o = record { last = Ok o.why; steps = o.steps; events = o.events; state = o.state }

module _ {g : Image} {start : ℕ} {marks area : List ℕ} (K : CanWalk g start marks area) (k : ℕ) (enough : 9000 ≤ k) (fits : 6 * k ≤ 54000) where
  -- The events of the walk.
  abbrev all : History
  all = depth_walk g [] start

  -- The line after the opening, and what the run is lent.
  abbrev first : Line
  first = begun (opening g [] start marks area)

  abbrev room : List ℕ
  room = lent_to area first 54000

  -- The run, and the line after it.
  abbrev list : List Call
  list = run_for k room ∷ []

  abbrev line : Line
  line = line_b folded g [] start marks area list

  -- The opening is taken.
  taken : opening g [] start marks area ≡ open_reply g [] start marks area
  unfolding opening
  taken = ap (λ (j : ℕ). unless j (unopened g start marks) area (open_reply g [] start marks area)) K.opens

  -- 54,000 words are left behind its event.
  room-long : 54000 ≤ length room
  room-long =
      let one : length first.events ≡ 1 = ap (λ (r : defined.Reply). length r.events) taken in
      let l = K.long in
      omega (arith, length-take 54000 (drop (length (words first.events)) area), length-drop (length (words first.events)) area, words-length first.events)

  -- k moves are enough: 2 m + n is at most 9,000.
  ended : line.config.phase ≡ finished
  unfolding calls
  ended =
      let S = (profile g [] start marks area K.opens).sound in
      (demand2.ending g [] start marks area K.opens [] k room (omega (arith, enough, S.few_vertices, S.few_edges)) (omega (arith, fits, room-long))).finished_calm refl

  -- The line beside line A; the elements reached are those that the walk labels.
  agrees : Agrees g (labelled all) (line_a g [] start) line
  agrees =
      let P = profile g [] start marks area K.opens in
      agreement g g refl [] start marks area K.opens (labelled all) (depth-first (graph_of g) [] start (profile-ready g P.sound [] start P.start_vertex P.listed)).complete.labels list

  -- The line has the labels of its events.
  labelling : Labelling g [] start marks line
  labelling = demand2.labelling g [] start marks area K.opens list

  -- Its events are those of the walk.
  events_are : line.events ≡ reverse all
  unfolding calls
  events_are = agrees.all refl ended

  history-is : reverse line.events ≡ all
  history-is = ap reverse events_are ∙ reverse-reverse all

  -- Its moves are twice the references met plus the elements reached.
  moves-are : line.steps ≡ moves_of (graph_of g) (labelled all)
  unfolding calls
  moves-are = (agrees.ends refl).0 ended

  -- The promise of `open`, on any areas: it answers a reply.
  opened : (a : Result Reply Refusal) (marks₁ area₁ : List ℕ) → told a (unopened g start marks₁) area₁ ≡ seen_of (opening g [] start marks area) → IsOk a
  opened (Ok o) marks₁ area₁ eo = refl
  opened (Err k) marks₁ area₁ eo = absurd (let z : ◌≡◌ {A = ℕ} 1 0 = ap (λ (s : Seen). refuses s.answer) (eo ∙ ap seen_of taken) in omega arith)

  -- Its promise, on any reply and areas.
  module _ (o : Reply) {marks₁ area₁ : List ℕ} (eo : told_taken o g.after g.tail marks₁ area₁ ≡ seen_of (opening g [] start marks area)) where
    -- It has made one event and no move.
    one : o.events ≡ 1
    one = ap (λ (s : Seen). s.count) (eo ∙ ap seen_of taken)

    none : o.steps ≡ 0
    none = ap (λ (s : Seen). s.steps) (eo ∙ ap seen_of taken)

    -- Its event stands in front of the area, which is as long as before.
    begins : told_line (begun_by o) g.after g.tail marks₁ area₁ ≡ seen_line area first
    begins = eo ∙ subst (λ (x : defined.Reply). seen_of x ≡ seen_line area (begun x)) (sym taken) refl

    same-long : length area₁ ≡ length area
    same-long =
        let l = K.long in
        ap (λ (s : Seen). length s.area) (eo ∙ ap seen_of taken) ∙ length-overlay (words (open_reply g [] start marks area).events) area (omega arith)

    -- The promise of `run`, on the part behind that event.
    module _ (b : Result Reply Refusal) (after' tail' marks' part : List ℕ) (er : told b (config_of o.state after' tail' marks') part ≡ seen_of (serve (config_of o.state g.after g.tail marks₁) (run_for k (mid_of 3 54000 area₁)))) where
      -- The opening and the run together, with the part put back.
      seen : told_line (after_call (begun_by o) b) after' tail' marks' (put_mid 3 54000 area₁ part) ≡ seen_line area line
      seen =
          let l = K.long in
          (λ i. told_line (after_call (begun_by o) b) after' tail' marks' (put_mid (3 * sym one i) 54000 area₁ part))
          ∙ run_more (begun_by o) g.after g.tail marks₁ area₁ area first begins {order = Some Run} k 54000 54000 b after' tail' marks' part refl (omega (arith, one, same-long)) refl
          (er ∙ (λ i. seen_of (serve (config_of o.state g.after g.tail marks₁) (run_for k (mid_of (3 * sym one i) 54000 area₁)))))

      -- The run answers a reply: one that is refused would leave the search walking.
      ran : IsOk b
      ran = go b seen
        where
          go : (x : Result Reply Refusal) → told_line (after_call (begun_by o) x) after' tail' marks' (put_mid 3 54000 area₁ part) ≡ seen_line area line → IsOk x
          go (Ok r) e = refl
          go (Err j) e = absurd (let p : o.state.phase ≡ walking = ap (λ (s : Seen). s.config.phase) (eo ∙ ap seen_of taken) in let q : o.state.phase ≡ finished = ap (λ (s : Seen). s.config.phase) e ∙ ended in omega arith)

    -- What it has walked, by its reply.
    module _ (r : Reply) {after' tail' marks' part : List ℕ} (er : told_taken r after' tail' marks' part ≡ seen_of (serve (config_of o.state g.after g.tail marks₁) (run_for k (mid_of 3 54000 area₁)))) where
      all-seen : told_line (after_call (begun_by o) (Ok r)) after' tail' marks' (put_mid 3 54000 area₁ part) ≡ seen_line area line
      all-seen = seen (Ok r) after' tail' marks' part er

      -- The line's state is the run's.
      config-is : config_of r.state after' tail' marks' ≡ line.config
      config-is = ap (λ (s : Seen). s.config) all-seen

      -- All that the walk returns and leaves.
      whole : Walked g start marks area r after' tail' marks' (put_mid 3 54000 area₁ part)
      whole =
          let made : o.events + r.events ≡ length line.events = ap (λ (s : Seen). s.count) all-seen in
          let steps : o.steps + r.steps ≡ line.steps = ap (λ (s : Seen). s.steps) all-seen in
          let few = events-few g [] start marks area K.opens list in
          let next : r.state.next ≡ suc (length (labelled all)) = ap (λ (w : Config). w.next) config-is ∙ next-counts g [] start marks area K.opens list ∙ ap (λ (h : History). suc (length (labelled h))) history-is in
          let many : r.events + 1 ≡ length all = omega (arith, one, made, ap length events_are, length-reverse all) in
          let elements : r.state.next - 1 ≡ length (labelled all) = omega arith in
          let moves : r.steps ≡ moves_of (graph_of g) (labelled all) = omega (arith, none, moves-are) in
          let circular : r.state.circular ≡ circular_of (graph_of g) all = ap (λ (w : Config). w.circular) config-is ∙ labelling.circular ∙ ap (circular_of (graph_of g)) history-is in
          let restored = agrees.restored (inl ended) in
          let labels : marks' ≡ marks_left (g.n + g.m) [] all marks = ap (λ (w : Config). w.marks) config-is ∙ labelling.labels ended ∙ ap (λ (h : History). marks_left (g.n + g.m) [] h marks) history-is in
          let events : put_mid 3 54000 area₁ part ≡ events_left all area = ap (λ (s : Seen). s.area) all-seen ∙ ap (λ (es : List Event). overlay (words es) area) events_are in
          let l = K.long in
          record {
            few-events = omega (arith, few);
            few-moves = omega (arith, steps-few g [] start marks area K.opens list);
            some-label = omega (arith, next);
            totals = λ i. record { events = many i; elements = elements i; moves = moves i; circular = circular i };
            links = ap (λ (w : Config). w.after) config-is ∙ restored.0;
            tails = ap (λ (w : Config). w.tail) config-is ∙ restored.1;
            labels = labels;
            events = events;
            same-marks = ap length labels ∙ marks_length (g.n + g.m) [] all marks (marks-long g [] start marks area K.opens);
            same-events = ap length events ∙ length-overlay (words (reverse all)) area (omega (arith, few, ap length events_are, words-length (reverse all)));
          }

-- What the two answer and leave, with the budget that the run was given.
module _ {g : Image} {start : ℕ} {marks area : List ℕ} (K : CanWalk g start marks area) (a : Result Reply Refusal) (marks₁ area₁ : List ℕ) (ea : told a (unopened g start marks₁) area₁ ≡ seen_of (opening g [] start marks area)) where
  -- The opening answers a reply.
  pub opens : IsOk a
  opens = opened K 9000 (lit≤ tt) (lit≤ tt) a marks₁ area₁ ea

  module _ (o : Reply) (is-o : a ≡ Ok o) (b : Result Reply Refusal) {k : ℕ} (after' tail' marks' part : List ℕ) (eb : told b (config_of o.state after' tail' marks') part ≡ seen_of (serve (config_of o.state g.after g.tail marks₁) (run_for k (mid_of 3 54000 area₁))))
      (enough : 9000 ≤ k) (fits : 6 * k ≤ 54000) where
    eo : told_taken o g.after g.tail marks₁ area₁ ≡ seen_of (opening g [] start marks area)
    eo = ap (λ (x : Result Reply Refusal). told x (unopened g start marks₁) area₁) (sym is-o) ∙ ea

    -- So does the run.
    pub runs : IsOk b
    runs = ran K k enough fits o eo b after' tail' marks' part eb

    pub walked : (r : Reply) → b ≡ Ok r → Walked g start marks area r after' tail' marks' (put_mid 3 54000 area₁ part)
    walked r is-r = whole K k enough fits o eo r (ap (λ (x : Result Reply Refusal). told x (config_of o.state after' tail' marks') part) (sym is-r) ∙ eb)
