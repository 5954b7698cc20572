-- The claims of specs/Claims, by citing what graphs/ has proved of searches.
use Rattle.std.proofs.Common.{◌≡◌, refl, sym, ap, ◌∙◌, false, List, [], ◌∷◌, ◌++◌, reverse, ℕ, ◌+◌, ◌*◌, ◌≤◌, le-ltb, arith, length, take, drop, take_at}
use lib.ListN.{length-reverse}
use Rattle.lists.specs.Counts.{sum_of, rank}
use Rattle.lists.specs.Words.{values_from}
use Rattle.lists.proofs.Words.{length-values}
use Rattle.graphs.specs.Events.{History, words, labelled, tally}
use Rattle.graphs.specs.Results.{unless_blank, marks_left, events_left}
use Rattle.graphs.specs.Image.{Image, SameLinks, graph_of}
use Rattle.graphs.specs.ArrayForm.{ArrayForm, array_graph, array_left}
use Rattle.graphs.specs.Refusals.{Lent, lent, short, blank_refusals, unless_refused}
use Rattle.graphs.proofs.Refusals.{taken-sound, checked-sound, none_first}
use Rattle.graphs.proofs.Results.{tally-sums}
use Rattle.graphs.proofs.Room.{words-length, profile-ready, array-ready}
use Rattle.graphs.proofs.Stated.{same-links}
use Rattle.graphs.proofs.Depth.{depth-first}
use Rattle.graphs.proofs.Breadth.{breadth-first}
use Rattle.graphs.proofs.Untouched.{untouched}
use Rattle.graphs.proofs.Arrays.{array_same}
use Rattle.graphs.proofs.Renamed.{converted-search}
use Rattle.walks.specs.Promises.{Walked}
use Rattle.walks.specs.Promises.{written_areas, tallied, Promised}
use Rattle.walkers.specs.Claims.{TakenClaim, Fits, WalkClaim, ArrayWalkClaim, ConvertedClaim, told_by, SameWalk, SameClaim, TurnedBackClaim}
use Rattle.walks.specs.Writing.{Roomy}
use Rattle.walks.proofs.Begins.{begins}
use Rattle.walks.proofs.Events.{words-many}
use Rattle.walks.proofs.Numbers.{array-list}
use Rattle.walks.proofs.ArrayBegins.{array-begins}

pub taken : TakenClaim
taken g before start marks events own = taken-sound g before start (written_areas (g.n + g.m) marks events ++ own)

-- Room for all events is room for their words.
fits : {k : ℕ} {h : History} {marks events : List ℕ} → Roomy k h marks events → Fits h events
fits {h = h} R = record { room = omega (arith, words-many h, R.room); number = tally-sums h }

pub walks-as-defined : WalkClaim
walks-as-defined g before start marks events own e =
    let B = begins g before start marks events own e in
    let R = profile-ready g B.sound before start B.start_vertex B.listed in
    let U = untouched (graph_of g) before start R in
    record { depth = depth-first (graph_of g) before start R; breadth = breadth-first (graph_of g) before start R; depth_blanks = U.0; breadth_blanks = U.1; depth_fits = fits B.depth-room; breadth_fits = fits B.breadth-room }

pub array-walk-as-defined : ArrayWalkClaim
array-walk-as-defined a before start marks increments events e =
    let B = array-begins a before start marks increments events e in
    let R = array-ready a B.sound before start B.start_vertex B.listed in
    (depth-first (array_graph a) before start R, (untouched (array_graph a) before start R).0, fits B.roomy)

-- What the walk of an array form writes is as long as stated.
written-long : (n m : ℕ) (marks increments events : List ℕ) → n + m ≤ length marks → 6 * (n + m) ≤ length events → n ≤ length increments
    → short (written_areas (n + m) marks events ++ lent n increments ∷ []) ≡ false
written-long n m marks increments events p q r = rw (le-ltb (length marks) (n + m) p, le-ltb (length events) (6 * (n + m)) q, le-ltb (length increments) n r)

pub converted : ConvertedClaim
converted g before start marks events increments own firsts tails numbers e long =
    let areas : List Lent = written_areas (g.n + g.m) marks events ++ own in
    let B = begins g before start marks events own e in
    let checks = (checked-sound g before start areas).0 e in
    let sound-image = checks.0 in
    let a : ArrayForm = array_left g firsts tails in (
      sym (array-list a before start marks increments events (written-long g.n g.m marks increments events B.long_marks B.long-events long) refl ((array_same g areas firsts tails numbers sound-image).taken start B.start_vertex))
          ∙ none_first (blank_refusals g.n before start) (checks.2, (checks.3, tt)),
      converted-search g areas firsts tails numbers before start sound-image B.start_vertex,
    )

-- ---- the walkers agree
-- What a walk that is taken leaves: the tally of its events, their words in front of the event area, and its marks.
module _ {nodes k : ℕ} {before : List ℕ} {h : History} {marks events marks' events' : List ℕ} {r : Walked} (P : Promised k nodes before h marks events r marks' events') (taken : r.number ≡ 0) where
  number-zero : k ≡ 0
  number-zero = sym P.number_is ∙ taken

  pub tally-taken : r.tally ≡ tally h
  tally-taken = P.tally_is ∙ ap (λ (j : ℕ). tallied j h) number-zero

  pub marks-taken : marks' ≡ marks_left nodes before h marks
  marks-taken = P.marks_are ∙ ap (λ (j : ℕ). unless_refused j (marks_left nodes before h marks) marks) number-zero

  pub events-taken : events' ≡ events_left h events
  events-taken = P.events_are ∙ ap (λ (j : ℕ). unless_refused j (events_left h events) events) number-zero

  pub told-taken : told_by r events' ≡ words (reverse h)
  told-taken =
      let many : 3 * sum_of (λ j. j) r.tally ≡ 3 * length h = ap (λ (j : ℕ). 3 * j) (ap (sum_of (λ j. j)) tally-taken ∙ tally-sums h) in
      let front : length (words (reverse h)) ≡ 3 * sum_of (λ j. j) r.tally = omega (arith, words-length (reverse h), length-reverse h) in
      ap (take (3 * sum_of (λ j. j) r.tally)) events-taken ∙ take_at (words (reverse h)) (drop (length (words (reverse h))) events) (3 * sum_of (λ j. j) r.tally) front

-- The marks of the nodes do not depend on what the area held.
marks-stated : (nodes : ℕ) (before : List ℕ) (h : History) (area : List ℕ)
    → take nodes (marks_left nodes before h area) ≡ values_from (unless_blank before (λ x. rank x (labelled h))) 0 nodes
marks-stated nodes before h area = take_at (values_from (unless_blank before (λ x. rank x (labelled h))) 0 nodes) (drop nodes area) nodes (length-values (unless_blank before (λ x. rank x (labelled h))) 0 nodes)

same_left : {k j nodes many : ℕ} {before : List ℕ} {h i : History} {marks events marks' events' others room others' room' : List ℕ} {r s : Walked} → many ≡ nodes → h ≡ i
    → Promised k many before h marks events r marks' events' → Promised j nodes before i others room s others' room' → r.number ≡ 0 → s.number ≡ 0 → SameWalk nodes r s marks' events' others' room'
same_left {nodes = nodes} {before = before} {h = h} {i = i} {marks = marks} {others = others} n e P Q p q = record {
  tallies = tally-taken P p ∙ ap tally e ∙ sym (tally-taken Q q);
  events_told = told-taken P p ∙ ap (λ (x : History). words (reverse x)) e ∙ sym (told-taken Q q);
  marks_left =
      ap (take nodes) (marks-taken P p) ∙ (λ z. take nodes (marks_left (n z) before (e z) marks)) ∙ marks-stated nodes before i marks
      ∙ sym (ap (take nodes) (marks-taken Q q) ∙ marks-stated nodes before i others);
}

-- Images with the same links have as many nodes.
same_nodes : (a g : Image) → SameLinks a g → a.n + a.m ≡ g.n + g.m
same_nodes a g L = ap (λ (x : Image). x.n + x.m) L

pub same_walks : SameClaim
same_walks = record {
  depth = λ a g L before start own more marks events marks' events' others room others' room' r s P Q p q.
      same_left (same_nodes a g L) ((same-links a g L).depth before start (written_areas (a.n + a.m) marks events ++ own) (number-zero P p)) P Q p q;
  breadth = λ a g L before start own more marks events marks' events' others room others' room' r s P Q p q.
      same_left (same_nodes a g L) ((same-links a g L).breadth before start (written_areas (a.n + a.m) marks events ++ own) (number-zero P p)) P Q p q;
}

pub turned-back : TurnedBackClaim
turned-back g before start own firsts tails numbers increments marks events marks' events' marks'' events'' r s long P p Q =
    let C = converted g before start marks events increments own firsts tails numbers (number-zero P p) long in
    let q = Q.number_is ∙ C.0 in
    let S = C.1 in
    (tally-taken P p ∙ sym S.tallies ∙ sym (tally-taken Q q), (marks-taken P p ∙ sym (S.marks (g.n + g.m) marks) ∙ sym (marks-taken Q q), events-taken P p ∙ ap (λ (h : History). events_left h events) (sym S.events)))
