-- What a controller sees of the calls with a state: the state is nine words, an answer is a number.
use Rattle.std.specs.Prelude.{cond, List, [], ◌∷◌, ℕ, ◌+◌, leb, length, get_or}
use Rattle.lists.specs.Words.{overlay}
use Rattle.graphs.specs.Image.{Image}
use Rattle.graphs.specs.Refusals.{lent, search_number}
use Rattle.folding.specs.Machine.{Config}
use Rattle.folding.specs.Calls.{Reason, ended, spent, stuck, Answer, ran, taken, refused, Reply, refusing, Call, area_of, serve}
use Rattle.states.specs.declared.values.State.{State}
use Rattle.states.specs.Answers.{config_of}
use Rattle.panel.specs.Panel.{Counted}
use Rattle.panel.specs.Panel.{counted_by, accepted_of}

-- ---- a state in nine words: n, m, start, v, e, f, phase, next, circular
abbrev pub state_in : List ℕ → State
state_in w = record { n = get_or w 0 0; m = get_or w 1 0; start = record { 0 = get_or w 2 0 }; v = record { 0 = get_or w 3 0 }; e = record { 0 = get_or w 4 0 }; f = get_or w 5 0; phase = get_or w 6 0; next = get_or w 7 0; circular = get_or w 8 0 }

abbrev pub config_words : Config → List ℕ
config_words c = c.n ∷ c.m ∷ c.start ∷ c.v ∷ c.e ∷ c.f ∷ c.phase ∷ c.next ∷ c.circular ∷ []

abbrev pub state_words : State → List ℕ
state_words s = config_words (config_of s [] [] [])

-- ---- answers in numbers
-- The number of a refusal, 0 where the call is taken.
abbrev pub number_in : Answer → ℕ
number_in (ran why) = 0
number_in taken = 0
number_in (refused k) = k

-- A run's reason: 1 ended, 2 spent, 3 stuck; 0 of any other call.
abbrev pub reason_number : Reason → ℕ
reason_number ended = 1
reason_number spent = 2
reason_number stuck = 3

abbrev pub reason_in : Answer → ℕ
reason_in (ran why) = reason_number why
reason_in taken = 0
reason_in (refused k) = 0

-- ---- the calls of the folded search
-- The number of an opening: besides marks and three event words it is lent nine words for the state.
abbrev pub open_number_in : Image → List ℕ → ℕ → (marks events state : List ℕ) → ℕ
open_number_in g before start marks events state = search_number g before start (lent (g.n + g.m) marks ∷ lent 3 events ∷ lent 9 state ∷ [])

-- A call on the state in some words; fewer than nine hold none, and that is number 3.
abbrev pub served_in : (state after tail marks : List ℕ) → Call → Reply
served_in state after tail marks c = cond (leb 9 (length state)) (serve (config_of (state_in state) after tail marks) c) (refusing 3 (config_of (state_in state) after tail marks) (area_of c))

-- The number; the steps made, the events written and the reason; the state's words; links, marks and event area.
pub record Handed : Type 0 where
  pub number : ℕ
  pub steps : ℕ
  pub made : ℕ
  pub reason : ℕ
  pub state : List ℕ
  pub after : List ℕ
  pub tail : List ℕ
  pub marks : List ℕ
  pub events : List ℕ

abbrev pub handing : (number steps made reason : ℕ) (state after tail marks events : List ℕ) → Handed
handing number steps made reason state after tail marks events = record { number = number; steps = steps; made = made; reason = reason; state = state; after = after; tail = tail; marks = marks; events = events }

-- Of a call taken, what its reply says; of a refused one the number, and steps, events, reason and state as they were.
abbrev pub handed_by : Answer → Reply → (steps made reason : ℕ) → List ℕ → Handed
handed_by (ran why) r steps made reason state = handing 0 r.steps (length r.events) (reason_number why) (overlay (config_words r.config) state) r.config.after r.config.tail r.config.marks r.area
handed_by taken r steps made reason state = handing 0 r.steps (length r.events) 0 (overlay (config_words r.config) state) r.config.after r.config.tail r.config.marks r.area
handed_by (refused k) r steps made reason state = handing k steps made reason state r.config.after r.config.tail r.config.marks r.area

abbrev pub handed : Reply → (steps made reason : ℕ) → List ℕ → Handed
handed r steps made reason state = handed_by r.answer r steps made reason state

-- ---- the panel's figure is one lent word
abbrev pub accepted_in : ℕ → List ℕ → Counted
accepted_in figure state = cond (leb 9 (length state)) (accepted_of (record { figure = figure }) (state_in state)) (counted_by 3 (record { figure = figure }) (state_in state))
