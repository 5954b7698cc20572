-- What the walkers promise: the order of their refusals, and what they leave (document 01, "Events" and "Turned back").
use Rattle.std.specs.Prelude.{◌≡◌, List, [], ◌∷◌, ◌++◌, ℕ, zero, suc, ◌+◌, ◌*◌, Result, Ok, Err}
use Rattle.graphs.specs.Events.{History, tally}
use Rattle.graphs.specs.Results.{marks_left, events_left}
use Rattle.graphs.specs.Search.{depth_first, breadth_first}
use Rattle.graphs.specs.Image.{Image, graph_of}
use Rattle.graphs.specs.ArrayForm.{ArrayForm, array_graph}
use Rattle.graphs.specs.Refusals.{Lent, lent, search_number, array_search_number, unless_refused}
use Rattle.refusals.specs.declared.Refusal as code
use Rattle.refusals.specs.Numbers.{number_of}
use Rattle.walks.specs.Writing.{no_events}

-- ---- refusals
-- The areas that every walk writes: n + m marks and 6 (n + m) event words.
abbrev pub written_areas : ℕ → List ℕ → List ℕ → List Lent
written_areas nodes marks events = lent nodes marks ∷ lent (6 * nodes) events ∷ []

-- The number of a walk of a linked image, with the elements already on the blank; `own` are the areas of this walk alone.
abbrev pub walk_number : Image → List ℕ → ℕ → List ℕ → List ℕ → List Lent → ℕ
walk_number g before start marks events own = search_number g before start (written_areas (g.n + g.m) marks events ++ own)

-- The number of a walk of an array form: besides, n increments.
abbrev pub array_walk_number : ArrayForm → List ℕ → ℕ → List ℕ → List ℕ → List ℕ → ℕ
array_walk_number a before start marks increments events = array_search_number a before start (written_areas (a.n + a.m) marks events ++ lent a.n increments ∷ [])

-- ---- events
-- The events of a depth-first walk of an image, of one of an array form, and of a breadth-first walk; the elements on the blank are
-- labelled before.
abbrev pub depth_walk : Image → List ℕ → ℕ → History
depth_walk g before start = depth_first (graph_of g) before start

abbrev pub array_walk : ArrayForm → List ℕ → ℕ → History
array_walk a before start = depth_first (array_graph a) before start

abbrev pub breadth_walk : Image → List ℕ → ℕ → History
breadth_walk g before start = breadth_first (graph_of g) before start

-- ---- answers
-- A walker's answer: the number of its refusal, else 0, and its events by kind.
pub record Walked : Type 0 where
  pub number : ℕ
  pub tally : List ℕ

-- A refused walk has emitted nothing.
abbrev pub walked_of : Result (List ℕ) code.Refusal → Walked
walked_of (Ok t) = record { number = 0; tally = t }
walked_of (Err r) = record { number = number_of r; tally = no_events }

-- The tally of a call: that of its events, seven zeros where it is refused.
abbrev pub tallied : ℕ → History → List ℕ
tallied zero h = tally h
tallied (suc k) h = no_events

-- What every walker promises, where its number is k and its events are h: its answer, and the two areas that all walkers write, marks of so
-- many nodes and event words, lent as `marks` and `events` and left as `marks'` and `events'`.
pub record Promised (k nodes : ℕ) (before : List ℕ) (h : History) (marks events : List ℕ) (r : Walked) (marks' events' : List ℕ) : Type 0 where
  pub number_is : r.number ≡ k
  pub tally_is : r.tally ≡ tallied k h
  pub marks_are : marks' ≡ unless_refused k (marks_left nodes before h marks) marks
  pub events_are : events' ≡ unless_refused k (events_left h events) events

-- A depth-first walk of a linked image, a breadth-first walk of one, and a depth-first walk of an array form.
abbrev pub DepthPromise : Image → (before : List ℕ) → ℕ → List Lent → (marks events : List ℕ) → Walked → (marks' events' : List ℕ) → Type 0
DepthPromise g before start own marks events r marks' events' =
    Promised (walk_number g before start marks events own) (g.n + g.m) before (depth_walk g before start) marks events r marks' events'

abbrev pub BreadthPromise : Image → (before : List ℕ) → ℕ → List Lent → (marks events : List ℕ) → Walked → (marks' events' : List ℕ) → Type 0
BreadthPromise g before start own marks events r marks' events' =
    Promised (walk_number g before start marks events own) (g.n + g.m) before (breadth_walk g before start) marks events r marks' events'

abbrev pub ArrayPromise : ArrayForm → (before : List ℕ) → ℕ → (increments marks events : List ℕ) → Walked → (marks' events' : List ℕ) → Type 0
ArrayPromise a before start increments marks events r marks' events' =
    Promised (array_walk_number a before start marks increments events) (a.n + a.m) before (array_walk a before start) marks events r marks' events'
