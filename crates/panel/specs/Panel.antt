-- The panel (document 01, "The panel"): a new record, accepting a state, a shift start.
use Rattle.std.specs.Prelude.{◌≡◌, [], ℕ, zero, suc, Result, Ok, Err}
use Rattle.folding.specs.Machine.{accepted}
use Rattle.folding.specs.Calls.{accept_number}
use Rattle.states.specs.declared.values.State.{State}
use Rattle.states.specs.Answers.{config_of}
use Rattle.panel.specs.declared.Panel.{Panel}
use Rattle.panel.specs.declared.Counted as code
use Rattle.panel.specs.declared.ShiftEnded as ended
use Rattle.refusals.specs.declared.Refusal.{Refusal}
use Rattle.refusals.specs.Numbers.{number_of}

-- ---- answers
-- The answer to accepting: its number, 0 where it is taken, and the state.
pub record Accepted : Type 0 where
  pub number : ℕ
  pub state : State

-- The record and the answer, by value.
pub record Counted : Type 0 where
  pub panel : Panel
  pub answer : Accepted

-- The answer to the last card of a shift, the figure of the shift that ends, and the figure of the next one.
pub record ShiftEnded : Type 0 where
  pub answer : Accepted
  pub figure : ℕ
  pub fresh : ℕ

-- What the code tells: where a state is refused, it and the record are as they were.
abbrev pub accepted_as : State → Result State Refusal → Accepted
accepted_as s (Ok t) = record { number = 0; state = t }
accepted_as s (Err r) = record { number = number_of r; state = s }

abbrev pub counted_as : Panel → State → Result code.Counted Refusal → Counted
counted_as p s (Ok c) = record { panel = c.panel; answer = record { number = 0; state = c.state } }
counted_as p s (Err r) = record { panel = p; answer = record { number = number_of r; state = s } }

abbrev pub ended_as : State → ended.ShiftEnded → ShiftEnded
ended_as s t = record { answer = accepted_as s t.answer; figure = t.figure; fresh = t.fresh }

-- ---- the calls

-- A new record.
abbrev pub new_panel : Panel
new_panel = record { figure = 0 }

-- A shift start sets the figure to 0.
abbrev pub shifted_of : Panel → Panel
shifted_of p = record { figure = 0 }

-- The same state in phase 6.
abbrev pub as_accepted : State → State
as_accepted s = record { n = s.n; m = s.m; start = s.start; v = s.v; e = s.e; f = s.f; phase = accepted; next = s.next; circular = s.circular }

-- By its number: taken, the figure is one more and the phase is 6; refused, neither record nor state changes.
abbrev pub counted_by : ℕ → Panel → State → Counted
counted_by zero p s = record { panel = record { figure = suc p.figure }; answer = record { number = 0; state = as_accepted s } }
counted_by (suc k) p s = record { panel = p; answer = record { number = suc k; state = s } }

-- Accepting a state. It is lent no links, marks or events.
unfoldable pub accepted_of : Panel → State → Counted
accepted_of p s = counted_by (accept_number (config_of s [] [] []) p.figure) p s

-- What `accept` promises: its answer x, and the record q that it leaves, are those of accepting s on the record p.
abbrev pub AcceptPromise : Panel → State → Accepted → Panel → Type 0
AcceptPromise p s x q = (q ≡ (accepted_of p s).panel) × (x ≡ (accepted_of p s).answer)

-- What `shift_start` promises of the record that it leaves.
abbrev pub ShiftPromise : Panel → Panel → Type 0
ShiftPromise p q = q ≡ shifted_of p

-- The figure with which the next shift begins: 0; where accepting is refused, no shift ends, and the figure is as it was.
abbrev pub fresh_after : ℕ → ℕ → ℕ
fresh_after zero figure = 0
fresh_after (suc k) figure = figure

-- The last card of a shift, on a record with this figure: the answer, the figure of the shift that ends, and that of the next one.
abbrev pub shift_ended : ℕ → State → ShiftEnded
shift_ended figure s = record {
  answer = (accepted_of (record { figure = figure }) s).answer;
  figure = (accepted_of (record { figure = figure }) s).panel.figure;
  fresh = fresh_after (accepted_of (record { figure = figure }) s).answer.number figure;
}

-- ---- inside
-- Accepting, and then a shift start, whatever was answered.
abbrev pub shift_closed : ℕ → State → ShiftEnded
shift_closed figure s = record {
  answer = (accepted_of (record { figure = figure }) s).answer;
  figure = (accepted_of (record { figure = figure }) s).panel.figure;
  fresh = (shifted_of (accepted_of (record { figure = figure }) s).panel).figure;
}
