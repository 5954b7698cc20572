-- Opening, runs, single steps (single moves) and roll-back orders (winding orders), on any input: what each answers and leaves.
use Rattle.std.specs.Prelude.{Bool, true, false, cond, ◌&&◌, ◌||◌, not, List, [], ◌∷◌, ◌++◌, ℕ, zero, suc, ◌+◌, ◌*◌, eqb, ltb, leb}
use Rattle.lists.specs.Words.{at, put, overlay}
use Rattle.graphs.specs.Nodes.{is_vertex, is_link, is_node}
use Rattle.graphs.specs.Events.{Event, event, label, words}
use Rattle.graphs.specs.Results.{marks_first}
use Rattle.graphs.specs.Image.{Image}
use Rattle.graphs.specs.Refusals.{Refusal, refuse, first_of, Lent, lent, size_refusals, vertex_out, figure_out, search_number}
use Rattle.folding.specs.Machine.{Config, walking, restoring, finished, rolling_back, rolled_back, accepted, label_mark, can_step, step}

-- Why a run stops.
pub data Reason : Type 0 where
  ended spent stuck : Reason

-- A run taken, with its reason; another call taken; a call refused, with its number.
pub data Answer : Type 0 where
  ran : Reason → Answer
  taken : Answer
  refused : ℕ → Answer

-- What a call answers and leaves; `area` is the area lent for events.
pub record Reply : Type 0 where
  pub answer : Answer
  pub steps : ℕ
  pub events : List Event
  pub config : Config
  pub area : List ℕ

-- A refused call changes nothing.
abbrev pub refusing : ℕ → Config → List ℕ → Reply
refusing k w area = record { answer = refused k; steps = 0; events = []; config = w; area = area }

-- The reply, unless the call is refused.
abbrev pub unless : ℕ → Config → List ℕ → Reply → Reply
unless zero w area r = r
unless (suc k) w area r = refusing (suc k) w area

-- ---- which calls are refused
-- Phase 3, 5 or 6: there is no step to come.
abbrev pub over : Config → Bool
over w = eqb w.phase finished || (eqb w.phase rolled_back || eqb w.phase accepted)

-- Every state field is in kind; else the number is 8.
unfoldable pub fields_in : Config → Bool
fields_in w =
    is_vertex w.n w.v && (is_link w.n w.m w.e && (is_node w.n w.m w.f
    && ((ltb 0 w.phase && leb w.phase 6) && ((leb 2 w.next && leb w.next (suc w.n)) && leb w.circular 1))))

-- The order of a call with a state: 1, 2, 3, 4, 8, and then its own.
abbrev pub state_number : Config → List Lent → List Refusal → ℕ
state_number w areas own = first_of (size_refusals w.n w.m areas ++ refuse 4 (vertex_out w.n w.start) ∷ refuse 8 (not (fields_in w)) ∷ own)

-- The links and marks that a run or a single step is lent, with an area for events.
abbrev pub work_areas : Config → ℕ → List ℕ → List Lent
work_areas w k area = lent (w.n + w.m) w.after ∷ lent w.m w.tail ∷ lent (w.n + w.m) w.marks ∷ lent k area ∷ []

-- The number of a run, which is lent 6 words for each step of its budget: 1, 2, 3, 4, 8.
unfoldable pub run_number : Config → ℕ → List ℕ → ℕ
run_number w k area = state_number w (work_areas w (6 * k) area) []

-- A single step's own: 8 where a word that it reads is out of kind, 9 where there is none to come.
abbrev pub step_refusals : Config → List Refusal
step_refusals w = refuse 8 (not (over w) && not (can_step w)) ∷ refuse 9 (over w) ∷ []

-- The number of a single step, which is lent 6 words.
unfoldable pub step_number : Config → List ℕ → ℕ
step_number w area = state_number w (work_areas w 6 area) (step_refusals w)

-- The number of a roll-back order (winding order): it is lent no areas; 9 where there is no step to come.
unfoldable pub roll_back_number : Config → ℕ
roll_back_number w = state_number w [] (refuse 9 (over w) ∷ [])

-- Accepting's own, by the phase and the panel's figure: 9 in phase 5 or 6, 10 in phase 1, 2 or 4, then 11.
abbrev pub accept_refusals : ℕ → ℕ → List Refusal
accept_refusals p figure = refuse 9 (eqb p rolled_back || eqb p accepted) ∷ refuse 10 (eqb p walking || (eqb p restoring || eqb p rolling_back)) ∷ refuse 11 (figure_out figure) ∷ []

-- The number of accepting a state, with the panel's figure. It is lent no areas.
unfoldable pub accept_number : Config → ℕ → ℕ
accept_number w figure = state_number w [] (accept_refusals w.phase figure)

-- ---- what the calls do
-- The same state in another phase: 4 by a roll-back order, 6 by accepting.
abbrev pub in_phase : ℕ → Config → Config
in_phase p w = record { n = w.n; m = w.m; start = w.start; v = w.v; e = w.e; f = w.f; phase = p; next = w.next; circular = w.circular; after = w.after; tail = w.tail; marks = w.marks }

-- A run: the steps made, their events, where they led, and why it stopped.
pub record Run : Type 0 where
  pub reason : Reason
  pub steps : ℕ
  pub events : List Event
  pub config : Config

-- A run that makes no step.
abbrev pub stop : Reason → Config → Run
stop why w = record { reason = why; steps = 0; events = []; config = w }

-- One step in front of a run.
abbrev pub onward : List Event → Run → Run
onward es r = record { reason = r.reason; steps = suc r.steps; events = es ++ r.events; config = r.config }

-- The tests before a step, of which at least one more is allowed: ended, then stuck. `rec` runs on with one step less.
abbrev pub proceed : (Config → Run) → Bool → Bool → Config → Run
proceed rec true fit w = stop ended w
proceed rec false false w = stop stuck w
proceed rec false true w = onward (step w).events (rec (step w).config)

-- A run with a budget (allowance) of k steps: ended, spent and stuck are tested in this order before each step.
unfoldable pub run : ℕ → Config → Run
run zero w = stop (cond (over w) ended spent) w
run (suc k) w = proceed (run k) (over w) (can_step w) w

-- ---- the calls
-- A run with its budget and the area it is lent for events; a single step with its area; a roll-back order.
pub data Call : Type 0 where
  run_for : ℕ → List ℕ → Call
  single : List ℕ → Call
  roll_back : Call

-- The area that a call is lent for events.
abbrev pub area_of : Call → List ℕ
area_of (run_for k area) = area
area_of (single area) = area
area_of roll_back = []

-- The number of a call; 0 where it is taken.
abbrev pub number_of : Config → Call → ℕ
number_of w (run_for k area) = run_number w k area
number_of w (single area) = step_number w area
number_of w roll_back = roll_back_number w

-- A call that is not refused.
abbrev pub perform : Config → Call → Reply
perform w (run_for k area) = record { answer = ran (run k w).reason; steps = (run k w).steps; events = (run k w).events; config = (run k w).config; area = overlay (words (run k w).events) area }
perform w (single area) = record { answer = taken; steps = 1; events = (step w).events; config = (step w).config; area = overlay (words (step w).events) area }
perform w roll_back = record { answer = taken; steps = 0; events = []; config = in_phase rolling_back w; area = [] }

-- Any call, on any configuration.
unfoldable pub serve : Config → Call → Reply
serve w c = unless (number_of w c) w (area_of c) (perform w c)

-- ---- opening
-- What is lent, before any state is given.
abbrev pub unopened : Image → ℕ → List ℕ → Config
unopened g start marks = record { n = g.n; m = g.m; start = start; v = 0; e = 0; f = 0; phase = 0; next = 0; circular = 0; after = g.after; tail = g.tail; marks = marks }

-- The number of an opening, with the elements already on the blank (document 02, item 7): it is lent marks and three words for its event.
unfoldable pub open_number : Image → List ℕ → ℕ → List ℕ → List ℕ → ℕ
open_number g before start marks area = search_number g before start (lent (g.n + g.m) marks ∷ lent 3 area ∷ [])

-- What an opening leaves: the marks are 65,535 for the elements on the blank and 0 for the rest, and the start is labelled.
abbrev pub opened_at : Image → List ℕ → ℕ → List ℕ → Config
opened_at g before start marks = record { n = g.n; m = g.m; start = start; v = start; e = at 0 g.after start; f = 0; phase = walking; next = 2; circular = 0; after = g.after; tail = g.tail; marks = put 0 (marks_first (g.n + g.m) before marks) start (label_mark 1) }

-- An opening that is not refused.
abbrev pub open_reply : Image → List ℕ → ℕ → List ℕ → List ℕ → Reply
open_reply g before start marks area = record { answer = taken; steps = 0; events = event label 0 start ∷ []; config = opened_at g before start marks; area = overlay (words (event label 0 start ∷ [])) area }

-- Any opening.
unfoldable pub opening : Image → List ℕ → ℕ → List ℕ → List ℕ → Reply
opening g before start marks area = unless (open_number g before start marks area) (unopened g start marks) area (open_reply g before start marks area)
