-- What a walk taken may rely on, and what a walk taken and a walk refused promise.
-- The number of a walk is 0 only where the profile is sound and every area is as long as stated.
use Rattle.std.proofs.Common.{◌≡◌, refl, sym, ap, ◌∙◌, ◌≢◌, false, List, ◌∷◌, ◌++◌, ℕ, zero, suc, ◌+◌, ◌*◌, ◌≤◌, arith, length}
use Rattle.graphs.specs.Nodes.{Vertex}
use Rattle.graphs.specs.Events.{History}
use Rattle.graphs.specs.Image.{Image}
use Rattle.graphs.specs.Results.{marks_left, events_left}
use Rattle.graphs.specs.Refusals.{Lent, lent, short, unless_refused}
use Rattle.graphs.proofs.Refusals.{long, refused}
use Rattle.graphs.proofs.Blanks.{Listed}
use Rattle.graphs.proofs.Room.{room}
use Rattle.graphs.proofs.Sound.{Sound, profile_sound}
use Rattle.std.specs.Prelude.{Result, Ok, Err}
use Rattle.refusals.specs.declared.Refusal as refusals
use Rattle.refusals.specs.Numbers.{number_of, number_in}
use Rattle.walks.specs.Promises.{Walked, walked_of, written_areas, walk_number, depth_walk, breadth_walk, tallied, Promised}
use Rattle.walks.specs.Writing.{no_events, Held, Roomy}
use Rattle.walks.proofs.Events.{words-many}

-- ---- a walk taken
-- The profile is sound, and there is room for the events of either search; the walk's own areas are as long as stated.
pub record Begins (g : Image) (before : List ℕ) (start : ℕ) (marks events : List ℕ) (own : List Lent) : Type 0 where
  pub sound : Sound g
  pub start_vertex : Vertex g.n start
  pub listed : Listed g.n before start
  pub long_marks : g.n + g.m ≤ length marks
  pub long-events : 6 * (g.n + g.m) ≤ length events
  pub depth-room : Roomy (g.n + g.m) (depth_walk g before start) marks events
  pub breadth-room : Roomy (g.n + g.m) (breadth_walk g before start) marks events
  pub own-long : short own ≡ false

pub begins : (g : Image) (before : List ℕ) (start : ℕ) (marks events : List ℕ) (own : List Lent) → walk_number g before start marks events own ≡ 0 → Begins g before start marks events own
begins g before start marks events own e =
    let nodes : ℕ = g.n + g.m in
    let areas : List Lent = written_areas nodes marks events ++ own in
    let P = profile_sound g before start areas e in
    let S = P.sound in
    let a = long nodes marks (lent (6 * nodes) events ∷ own) P.areas-long in
    let b = long (6 * nodes) events own a.1 in
    let r = room g before start areas e in
    let few-n = S.few_vertices in
    let few-m = S.few_edges in
    record {
      sound = S;
      start_vertex = P.start_vertex;
      listed = P.listed;
      long_marks = a.0;
      long-events = b.0;
      depth-room = record { long_marks = a.0; room = omega (arith, r.0, words-many (depth_walk g before start), b.0); few = omega (arith, r.0, words-many (depth_walk g before start)) };
      breadth-room = record { long_marks = a.0; room = omega (arith, r.1, words-many (breadth_walk g before start), b.0); few = omega (arith, r.1, words-many (breadth_walk g before start)) };
      own-long = b.1;
    }

-- ---- what is promised
-- What a walk answers: its number, and no events where it is refused.
pub walked-number : (a : Result (List ℕ) refusals.Refusal) → (walked_of a).number ≡ number_in a
walked-number (Ok t) = refl
walked-number (Err r) = refl

pub walked-silent : (r : refusals.Refusal) → ((walked_of (Err r)).number ≡ number_of r) × ((walked_of (Err r)).tally ≡ no_events)
walked-silent r = (refl, refl)

zeros-tallied : (k : ℕ) (h : History) → k ≢ 0 → no_events ≡ tallied k h
zeros-tallied zero h ne = absurd (ne refl)
zeros-tallied (suc k) h ne = refl

module _ {k nodes : ℕ} {before : List ℕ} {h : History} {marks events : List ℕ} {r : Walked} where
  -- Of a walk refused, which leaves all as it was.
  pub refused-promised : {j : ℕ} → j ≡ k → j ≢ 0 → (r.number ≡ j) × (r.tally ≡ no_events) → Promised k nodes before h marks events r marks events
  refused-promised e ne f =
      let no : k ≢ 0 = λ z. ne (e ∙ z) in
      record { number_is = f.0 ∙ e; tally_is = f.1 ∙ zeros-tallied k h no; marks_are = refused k (marks_left nodes before h marks) marks no; events_are = refused k (events_left h events) events no }

  -- Of a walk taken, whose events are written.
  pub taken-promised : {marks' events' : List ℕ} → k ≡ 0 → r.number ≡ 0 → Held nodes before h marks events marks' events' r.tally → Promised k nodes before h marks events r marks' events'
  taken-promised e f H = record {
    number_is = f ∙ sym e;
    tally_is = H.counts ∙ ap (λ (j : ℕ). tallied j h) (sym e);
    marks_are = H.marked ∙ ap (λ (j : ℕ). unless_refused j (marks_left nodes before h marks) marks) (sym e);
    events_are = H.written ∙ ap (λ (j : ℕ). unless_refused j (events_left h events) events) (sym e);
  }

  -- By the number that it answers.
  pub answered : {j : ℕ} {marks' events' : List ℕ} → Promised k nodes before h marks events r marks' events' → r.number ≡ j
      → (r.tally ≡ tallied j h) × ((marks' ≡ unless_refused j (marks_left nodes before h marks) marks) × (events' ≡ unless_refused j (events_left h events) events))
  answered {j} P e =
      let is : k ≡ j = sym P.number_is ∙ e in (
        P.tally_is ∙ ap (λ (i : ℕ). tallied i h) is,
        (P.marks_are ∙ ap (λ (i : ℕ). unless_refused i (marks_left nodes before h marks) marks) is, P.events_are ∙ ap (λ (i : ℕ). unless_refused i (events_left h events) events) is),
      )
