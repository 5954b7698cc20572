-- The wrong walkers of document 01 c, over the same interface as ours, and the claim that each fails; proofs/Wrong has the refutations. A
-- walker may open and serve as it likes; two of them stand for all of their kind.
use Rattle.std.specs.Prelude.{◌≡◌, cond, List, [], ◌∷◌, ◌++◌, ℕ, zero, suc, eqb, drop, replicate}
use Rattle.lists.specs.Members.{cons_if}
use Rattle.lists.specs.Words.{at, overlay}
use Rattle.graphs.specs.Events.{Event, event, label, scan, words}
use Rattle.graphs.specs.Results.{blank_mark}
use Rattle.graphs.specs.Image.{Image}
use Rattle.folding.specs.Machine.{Config, walking, restoring, finished}
use Rattle.folding.specs.Calls.{ended, spent, stuck, Answer, ran, taken, refused, Reply, refusing, in_phase, Call, run_for, single, roll_back, area_of, perform, serve, unopened, opening, open_number}
use Rattle.folding.specs.Lines.{Walker, line_a, line_b}
use Rattle.folding.specs.Claims.{Demand1, StepClaim, RunClaim, Demand2, Agreement}
use Rattle.folding.specs.Cards.{loop, near_circle}

-- A reply that says so, with these steps and events, and leaves this.
abbrev pub says : Answer → ℕ → List Event → Config → Call → Reply
says a k es w c = record { answer = a; steps = k; events = es; config = w; area = overlay (words es) (area_of c) }

-- ---- it emits nothing (demand 2's events)
pub record EmitsNothing (W : Walker) : Type 0 where
  pub opening_silent : (g : Image) (before : List ℕ) (start : ℕ) (marks area : List ℕ) → (W.opens g before start marks area).events ≡ []
  pub calls_silent : (w : Config) (c : Call) → (W.serves w c).events ≡ []

-- One of them moves no link and says that it has ended.
abbrev pub idle : Walker
idle = record {
  opens = λ g before start marks area. record { answer = taken; steps = 0; events = []; config = (opening g before start marks area).config; area = area };
  serves = λ w c. says (ran ended) 1 [] (in_phase finished w) c;
}

-- ---- it searches wholly at its first step, and then idles (the moves)
-- The elements on the blank, by their marks.
abbrev blanks_in : ℕ → List ℕ → List ℕ
blanks_in zero marks = []
blanks_in (suc k) marks = blanks_in k marks ++ cons_if (eqb (at 0 marks (suc k)) blank_mark) (suc k) []

-- In phase 1 all events that are left, in phase 2 none.
abbrev rest : Config → List Event
rest w = cond (eqb w.phase walking) (drop 1 (line_a (record { n = w.n; m = w.m; after = w.after; tail = w.tail }) (blanks_in w.n w.marks) w.start)) []

abbrev pub eager : Walker
eager = record { opens = opening; serves = λ w c. says taken 1 (rest w) (in_phase restoring w) c }

-- ---- it says spent with steps left, or stuck on a sound state (the run's tests)
-- It makes one step fewer than allowed.
abbrev shorter : Call → Call
shorter (run_for zero area) = run_for zero area
shorter (run_for (suc k) area) = run_for k area
shorter (single area) = single area
shorter roll_back = roll_back

abbrev pub hasty : Walker
hasty = record { opens = opening; serves = λ w c. says (ran spent) (perform w (shorter c)).steps (perform w (shorter c)).events (perform w (shorter c)).config c }

abbrev pub jammed : Walker
jammed = record { opens = opening; serves = λ w c. says (ran stuck) 0 [] w c }

-- ---- it invents its steps: one more than it makes (demand 3's total)
abbrev pub inventor : Walker
inventor = record { opens = opening; serves = λ w c. says (serve w c).answer (suc (serve w c).steps) (serve w c).events (serve w c).config c }

-- ---- it has the same list for all profiles (demand 2)
-- Whatever is opened, these are the events whenever it has ended.
abbrev pub SameListFor : List Event → Walker → Type 0
SameListFor es W = (g : Image) (before : List ℕ) (start : ℕ) (marks area : List ℕ) → open_number g before start marks area ≡ 0 → (cs : List Call)
    → (line_b W g before start marks area cs).config.phase ≡ finished → (line_b W g before start marks area cs).events ≡ es

-- One of them labels and scans element 1.
abbrev pub constant : Walker
constant = record {
  opens = λ g before start marks area. record { answer = taken; steps = 0; events = event label 0 1 ∷ []; config = (opening g before start marks area).config; area = area };
  serves = λ w c. says (ran ended) 1 (event scan 0 1 ∷ []) (in_phase finished w) c;
}

-- ---- it turns all back (the table's conditions)
-- With some number, whichever.
abbrev pub Refused : Reply → Type 0
Refused r = (k : ℕ) × (r.answer ≡ refused k)

abbrev pub RefusesCalls : Walker → Type 0
RefusesCalls W = (w : Config) (c : Call) → Refused (W.serves w c)

abbrev pub RefusesOpenings : Walker → Type 0
RefusesOpenings W = (g : Image) (before : List ℕ) (start : ℕ) (marks area : List ℕ) → Refused (W.opens g before start marks area)

-- One of them says 9.
abbrev pub refuser : Walker
refuser = record { opens = λ g before start marks area. refusing 9 (unopened g start marks) area; serves = λ w c. refusing 9 w (area_of c) }

-- ---- each fails
abbrev three : List ℕ
three = replicate 3 0

abbrev six : List ℕ
six = replicate 6 0

pub record WrongClaim : Type 0 where
  pub silent_fails : (W : Walker) → EmitsNothing W → Demand2 W → ⊥
  pub idle_silent : EmitsNothing idle
  pub eager_fails : StepClaim eager → ⊥
  -- What fails is the walker meant: its first step tells the rest of line A's events, and every call behind it tells nothing and stays.
  pub eager_tells : (line_b eager loop [] 1 (replicate 2 9) three (single six ∷ [])).events ≡ line_a loop [] 1
  pub eager_tells_off : (line_b eager near_circle (3 ∷ []) 1 (replicate 6 9) three (single six ∷ [])).events ≡ line_a near_circle (3 ∷ []) 1
  pub eager_idles : (w : Config) (c d : Call) → eager.serves (eager.serves w c).config d ≡ says taken 1 [] (in_phase restoring w) d
  pub hasty_fails : RunClaim hasty → ⊥
  pub jammed_fails : RunClaim jammed → ⊥
  pub inventor_fails : Agreement inventor → ⊥
  pub same_list_fails : (es : List Event) (W : Walker) → SameListFor es W → Demand2 W → ⊥
  pub constant_fails : Demand2 constant → ⊥
  pub refusing_calls_fails : (W : Walker) → RefusesCalls W → Demand1 W → ⊥
  pub refusing_openings_fails : (W : Walker) → RefusesOpenings W → Demand1 W → ⊥
  pub refuser_refuses : RefusesCalls refuser × RefusesOpenings refuser
