-- What a caller sees of a call: document 01's number and values for each case of an answer, the state with the lent areas, and the event area.
use Rattle.std.specs.Prelude.{◌≡◌, Bool, ◌&&◌, List, ℕ, suc, ltb, leb, length, Option, Some, None, Result, Ok, Err}
use Rattle.graphs.specs.Image.{Image}
use Rattle.folding.specs.Machine.{Config}
use Rattle.folding.specs.Calls as calls
use Rattle.folding.specs.Calls.{ended, spent, stuck, ran, taken, refusing, Call, serve, opening}
use Rattle.states.specs.declared.values.State.{State}
use Rattle.states.specs.declared.values.Reply.{Reply}
use Rattle.states.specs.declared.values.Reason.{Reason}
use Rattle.states.specs.declared.values.Reason.TheVariants as reason
use Rattle.refusals.specs.declared.Refusal.{Refusal}
use Rattle.refusals.specs.Numbers.{number_of}

-- Why a run stopped.
abbrev pub reason_of : Reason → calls.Reason
reason_of reason.Ended = ended
reason_of reason.Spent = spent
reason_of reason.Stuck = stuck

-- The answer of a call that is taken: of a run its reason.
abbrev pub answer_of : Option Reason → calls.Answer
answer_of (Some why) = ran (reason_of why)
answer_of None = taken

-- A state with the links and marks that a call is lent.
abbrev pub config_of : State → (after tail marks : List ℕ) → Config
config_of s after tail marks = record { n = s.n; m = s.m; start = s.start.0; v = s.v.0; e = s.e.0; f = s.f; phase = s.phase; next = s.next; circular = s.circular; after = after; tail = tail; marks = marks }

-- The answer, the steps made, the number of events; the state, links and marks; the event area.
pub record Seen : Type 0 where
  pub answer : calls.Answer
  pub steps : ℕ
  pub count : ℕ
  pub config : Config
  pub area : List ℕ

-- What is seen of a reply as defined: of its events the number, their words standing in the area.
abbrev pub seen_of : calls.Reply → Seen
seen_of r = record { answer = r.answer; steps = r.steps; count = length r.events; config = r.config; area = r.area }

-- What is seen of a call that is taken, with the areas as it leaves them.
abbrev pub told_taken : Reply → (after tail marks area : List ℕ) → Seen
told_taken r after tail marks area = record { answer = answer_of r.why; steps = r.steps; count = r.events; config = config_of r.state after tail marks; area = area }

-- What is seen of a call, taken or refused; `kept` is what it is given, with the areas as it leaves them. One that is refused answers its
-- number, and has made no step and no event.
abbrev pub told : Result Reply Refusal → (kept : Config) → (area : List ℕ) → Seen
told (Ok r) kept area = told_taken r kept.after kept.tail kept.marks area
told (Err k) kept area = seen_of (refusing (number_of k) kept area)

-- ---- what the calls promise
-- `open`: what its caller sees is what is seen of the opening as defined, taken or refused.
abbrev pub OpenPromise : Image → (before : List ℕ) → ℕ → (marks area : List ℕ) → Seen → Type 0
OpenPromise g before start marks area s = s ≡ seen_of (opening g before start marks area)

-- `run`, `step` and `roll_back`: what their caller sees is what is seen of the call as defined, on the state, links and marks that it is given.
abbrev pub CallPromise : Config → Call → Seen → Type 0
CallPromise w c s = s ≡ seen_of (serve w c)

-- ---- inside
-- Phase, next label and circular figure are in kind.
abbrev pub counts_in : State → Bool
counts_in s = (ltb 0 s.phase && leb s.phase 6) && ((leb 2 s.next && leb s.next (suc s.n)) && leb s.circular 1)
