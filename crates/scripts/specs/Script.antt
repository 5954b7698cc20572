-- A script of calls, as words: three for each call. One event area is lent to all of them.
use Rattle.std.specs.Prelude.{◌≡◌, cond, List, [], ◌∷◌, ◌++◌, ℕ, ◌+◌, eqb, length, take, drop, Option, Some, None, Result, Ok, Err}
use Rattle.lists.specs.Words.{overlay}
use Rattle.graphs.specs.Events.{words}
use Rattle.graphs.specs.Image.{Image}
use Rattle.folding.specs.Machine.{Config}
use Rattle.folding.specs.Calls.{Answer, taken, refused, refusing, Call, run_for, single, roll_back, opening, open_number}
use Rattle.folding.specs.Lines.{Line, folded, calls, begun, line_b}
use Rattle.states.specs.declared.values.Reply.{Reply}
use Rattle.states.specs.declared.values.Reason.{Reason}
use Rattle.states.specs.Answers.{Seen, answer_of, config_of, seen_of}
use Rattle.refusals.specs.declared.Refusal.{Refusal}
use Rattle.refusals.specs.Numbers.{number_of}
use Rattle.scripts.specs.declared.order.Order.{Order}
use Rattle.scripts.specs.declared.order.Order.TheVariants as order
use Rattle.scripts.specs.declared.play.Replayed.{Replayed}

-- The words that a call is lent: as many as it asks for, or what is left, from the place behind the events so far.
abbrev pub lent_to : List ℕ → Line → ℕ → List ℕ
lent_to area l room = take room (drop (length (words l.events)) area)

-- The call that a word names: 1 a run with its budget, 2 a single step, 3 a roll-back order; any other word names none.
abbrev pub called_by : (call budget : ℕ) → List ℕ → List Call
called_by call budget area = cond (eqb call 1) (run_for budget area ∷ []) (cond (eqb call 2) (single area ∷ []) (cond (eqb call 3) (roll_back ∷ []) []))

-- The calls of a script, from a line on: which call, its budget, how many words it is lent. A rest of fewer than three words is no call.
unfoldable pub scripted : Line → List ℕ → List ℕ → List Call
scripted l area (call ∷ budget ∷ room ∷ rest) = called_by call budget (lent_to area l room) ++ scripted (calls folded l (called_by call budget (lent_to area l room))) area rest
scripted l area (call ∷ budget ∷ []) = []
scripted l area (call ∷ []) = []
scripted l area [] = []

-- Line B under a script, with the elements on the blank; the opening is lent the whole event area. Where it is refused, no call is made.
abbrev pub replayed : Image → List ℕ → ℕ → (marks area script : List ℕ) → Line
replayed g before start marks area script = line_b folded g before start marks area (cond (eqb (open_number g before start marks area) 0) (scripted (begun (opening g before start marks area)) area script) [])

-- The last answer of a line.
abbrev pub last_of : List Answer → Answer
last_of [] = taken
last_of (a ∷ rest) = a

-- What a caller sees of a line whose calls were lent one event area: all events, in order, stand in front of it.
abbrev pub seen_line : List ℕ → Line → Seen
seen_line area l = record { answer = last_of l.answers; steps = l.steps; count = length l.events; config = l.config; area = overlay (words l.events) area }

-- The answer of the last call.
abbrev pub last_answer : Result (Option Reason) Refusal → Answer
last_answer (Ok why) = answer_of why
last_answer (Err k) = refused (number_of k)

-- What is seen of what a script has done, with the areas as they are left.
abbrev pub told_line : Replayed → (after tail marks area : List ℕ) → Seen
told_line p after tail marks area = record { answer = last_answer p.last; steps = p.steps; count = p.events; config = config_of p.state after tail marks; area = area }

-- What is seen of a script, or of its opening where that is refused; `kept` is what the opening is given, with the areas as they are left.
abbrev pub told_script : Result Replayed Refusal → (kept : Config) → (area : List ℕ) → Seen
told_script (Ok p) kept area = told_line p kept.after kept.tail kept.marks area
told_script (Err k) kept area = seen_of (refusing (number_of k) kept area)

-- ---- inside
-- The call that the code names.
abbrev pub called : Option Order → (budget : ℕ) → List ℕ → List Call
called (Some order.Run) budget area = run_for budget area ∷ []
called (Some order.Step) budget area = single area ∷ []
called (Some order.RollBack) budget area = roll_back ∷ []
called None budget area = []

-- The steps and the events of a call; none where it is refused.
abbrev pub steps_in : Result Reply Refusal → ℕ
steps_in (Ok r) = r.steps
steps_in (Err k) = 0

abbrev pub events_in : Result Reply Refusal → ℕ
events_in (Ok r) = r.events
events_in (Err k) = 0

-- A script's doing after one call more.
abbrev pub after_call : Replayed → Result Reply Refusal → Replayed
after_call p (Ok r) = record { last = Ok r.why; steps = p.steps + r.steps; events = p.events + r.events; state = r.state }
after_call p (Err k) = record { last = Err k; steps = p.steps; events = p.events; state = p.state }

-- A line that an opening taken has led to.
pub record Playing (p : Replayed) (after tail marks area : List ℕ) : Type 0 where
  pub image : Image
  pub before : List ℕ
  pub start : ℕ
  pub marks₀ : List ℕ
  pub area₀ : List ℕ
  pub list : List Call
  pub opened : open_number image before start marks₀ area₀ ≡ 0
  pub line : told_line p after tail marks area ≡ seen_line area₀ (line_b folded image before start marks₀ area₀ list)
