-- What is claimed of a walker. `folded` meets all of it; each wrong walker of document 01 c fails the part named there (proofs/Wrong).
use Rattle.std.specs.Prelude.{◌≡◌, ◌↔◌, ◌≢◌, ◌⊎◌, true, false, cond, ℕ, zero, suc, ◌+◌, ◌*◌, ◌%◌, ◌≤◌, ◌<◌, length, drop, eqb, leb}
use mathlib.Core.List.{List, [], ◌∷◌, ◌++◌, reverse, IsPrefix}
use Rattle.lists.specs.Members.{Mem}
use Rattle.lists.specs.Words.{at, put, overlay, cleared}
use Rattle.graphs.specs.Graph.{Reached, met}
use Rattle.graphs.specs.Events.{Kind, label, advance_tree, advance_nontree, retreat_nontree, retreat_tree, scan, traverse, Event, event, words}
use Rattle.graphs.specs.Depth.{DepthFirst}
use Rattle.graphs.specs.Results.{active_mark, blank_mark, marks_first, marks_left, marks_now, marks_rest}
use Rattle.graphs.specs.Circles.{Circular, circular_of}
use Rattle.graphs.specs.Image.{Image, SameLinks, graph_of}
use Rattle.folding.specs.Machine.{Config, walking, restoring, finished, rolling_back, rolled_back, forward, mark_ahead, label_mark, unscanned, Stepped, can_step, step}
use Rattle.folding.specs.Calls.{Reason, ended, spent, stuck, Answer, ran, taken, refused, Reply, refusing, over, fields_in, Run, run, Call, run_for, single, area_of, number_of, perform, run_number, step_number, open_number, unopened, roll_back, roll_back_number, state_number, accept_number, opened_at, open_reply}
use Rattle.folding.specs.Lines.{Walker, Line, line_a, line_b}

-- ---- demand 1: the table's conditions
-- By the number of its first true condition, a call is refused and changes nothing, or is not refused.
abbrev pub Judged : ℕ → Config → List ℕ → Reply → Type 0
Judged zero w area r = (k : ℕ) → r.answer ≢ refused k
Judged (suc k) w area r = r ≡ refusing (suc k) w area

-- The same n, m and start; areas of the same lengths; the same words past the stated lengths.
pub record Within (w x : Config) : Type 0 where
  pub same_n : x.n ≡ w.n
  pub same_m : x.m ≡ w.m
  pub same_start : x.start ≡ w.start
  pub after_length : length x.after ≡ length w.after
  pub tail_length : length x.tail ≡ length w.tail
  pub marks_length : length x.marks ≡ length w.marks
  pub after_past : drop (w.n + w.m) x.after ≡ drop (w.n + w.m) w.after
  pub tail_past : drop w.m x.tail ≡ drop w.m w.tail
  pub marks_past : drop (w.n + w.m) x.marks ≡ drop (w.n + w.m) w.marks

-- A call touches only its areas: of the links and marks the stated words; of the event area the words of its events, which it then holds.
pub record Confined (w : Config) (area : List ℕ) (r : Reply) : Type 0 where
  pub links : Within w r.config
  pub fits : length (words r.events) ≤ length area
  pub told : r.area ≡ overlay (words r.events) area

-- Demand 1: every call, on any input at all, is judged by its number and touches only its areas.
pub record Demand1 (W : Walker) : Type 0 where
  pub opening : (g : Image) (before : List ℕ) (start : ℕ) (marks area : List ℕ)
      → Judged (open_number g before start marks area) (unopened g start marks) area (W.opens g before start marks area)
  pub call : (w : Config) (c : Call) → Judged (number_of w c) w (area_of c) (W.serves w c)
  pub opening_confined : (g : Image) (before : List ℕ) (start : ℕ) (marks area : List ℕ)
      → Confined (unopened g start marks) area (W.opens g before start marks area)
  pub call_confined : (w : Config) (c : Call) → Confined w (area_of c) (W.serves w c)

-- ---- the moves
-- An opening, a single step and a roll-back order that are not refused are those of the definition.
pub record StepClaim (W : Walker) : Type 0 where
  pub opened : (g : Image) (before : List ℕ) (start : ℕ) (marks area : List ℕ) → open_number g before start marks area ≡ 0
      → W.opens g before start marks area ≡ open_reply g before start marks area
  pub stepped : (w : Config) (area : List ℕ) → step_number w area ≡ 0 → W.serves w (single area) ≡ perform w (single area)
  pub ordered : (w : Config) → roll_back_number w ≡ 0 → W.serves w roll_back ≡ perform w roll_back

-- On any words, a step that fits keeps the state fields in kind and stays within its areas.
abbrev pub KeepClaim : Type 0
KeepClaim = (w : Config) → fields_in w ≡ true → w.n ≤ length w.marks → can_step w ≡ true → (fields_in (step w).config ≡ true) × Within w (step w).config

-- ---- marks and circular of a step (document 02, items 5 and 7)
-- What one event leaves in the marks, where k is the next label number: labelling marks an element 32,768 plus its number, and its scan
-- leaves the mark's remainder by 32,768.
abbrev pub mark_by : ℕ → Kind → ℕ → List ℕ → List ℕ
mark_by k label u marks = put 0 marks u (32768 + k)
mark_by k advance_tree u marks = marks
mark_by k advance_nontree u marks = marks
mark_by k retreat_nontree u marks = marks
mark_by k retreat_tree u marks = marks
mark_by k scan u marks = put 0 marks u (at 0 marks u % 32768)
mark_by k traverse u marks = marks

-- What the events of a step leave in them.
abbrev pub marks_by : ℕ → List Event → List ℕ → List ℕ
marks_by k [] marks = marks
marks_by k (event j r u ∷ es) marks = marks_by k es (mark_by k j u marks)

-- The step is the last of a roll-back.
abbrev pub EndsRollBack : Config → Type 0
EndsRollBack w = (w.phase ≡ rolling_back) × ((step w).config.phase ≡ rolled_back)

-- Of a step on any words: marks change by its events alone, so a roll-back, which has none, leaves them alone before its last step; that one
-- leaves 65,535 where it stood, 0 in the other marks of elements, and the marks past these. The figure becomes 1 where the reference met
-- leads to a mark of 32,768 or more, which counts as not yet scanned, unless it is 65,535, that of an element on the blank; else it stays.
pub record MarksClaim : Type 0 where
  pub marks : (w : Config) → (step w).config.phase ≢ rolled_back → (step w).config.marks ≡ marks_by w.next (step w).events w.marks
  pub rolling : (w : Config) → w.phase ≡ rolling_back → (step w).config.phase ≢ rolled_back → (step w).config.marks ≡ w.marks
  pub blanks : (w : Config) → EndsRollBack w → (x : ℕ) → 0 < x → x ≤ w.n → at 0 w.marks x ≡ 65535 → at 0 (step w).config.marks x ≡ 65535
  pub others : (w : Config) → EndsRollBack w → (x : ℕ) → 0 < x → x ≤ w.n → at 0 w.marks x ≢ 65535 → at 0 (step w).config.marks x ≡ 0
  pub past : (w : Config) → EndsRollBack w → drop w.n (step w).config.marks ≡ drop w.n w.marks
  pub meets : (w : Config) → forward w ≡ true → 32768 ≤ mark_ahead w → mark_ahead w ≢ 65535 → (step w).config.circular ≡ 1
  pub passes : (w : Config) → forward w ≡ true → mark_ahead w < 32768 → (step w).config.circular ≡ w.circular
  pub passes_blank : (w : Config) → forward w ≡ true → mark_ahead w ≡ 65535 → (step w).config.circular ≡ w.circular
  pub back : (w : Config) → forward w ≡ false → (step w).config.circular ≡ w.circular

-- ---- the run's tests
-- Why a run with a budget of k stops, after so many steps, here: by its tests, in their order.
abbrev pub stop_reason : ℕ → ℕ → Config → Reason
stop_reason k made w = cond (over w) ended (cond (eqb made k) spent stuck)

-- k steps, one after the other: where they lead, and their events in order.
abbrev pub steps_from : ℕ → Config → Stepped
steps_from zero w = record { config = w; events = [] }
steps_from (suc k) w = record { config = (steps_from k (step w).config).config; events = (step w).events ++ (steps_from k (step w).config).events }

-- A run from w with a budget of k: the steps of the definition, as many as it says, each to come and in kind; its reason is that of the tests.
pub record Tested (w : Config) (k : ℕ) (r : Run) : Type 0 where
  pub made : steps_from r.steps w ≡ record { config = r.config; events = r.events }
  pub each : (j : ℕ) → j < r.steps → (over (steps_from j w).config ≡ false) × (can_step (steps_from j w).config ≡ true)
  pub budget : r.steps ≤ k
  pub reason : r.reason ≡ stop_reason k r.steps r.config
  pub jammed : r.reason ≡ stuck → can_step r.config ≡ false

-- The run that a reply tells of, with its reason.
abbrev pub told_run : Reason → Reply → Run
told_run why r = record { reason = why; steps = r.steps; events = r.events; config = r.config }

-- Every run that is not refused.
abbrev pub RunClaim : Walker → Type 0
RunClaim W = (w : Config) (k : ℕ) (area : List ℕ) → run_number w k area ≡ 0 → (why : Reason) × ((W.serves w (run_for k area)).answer ≡ ran why) × Tested w k (told_run why (W.serves w (run_for k area)))

-- The runs r and then s, as one.
abbrev pub joined : Run → Run → Run
joined r s = record { reason = s.reason; steps = r.steps + s.steps; events = r.events ++ s.events; config = s.config }

-- A run of a steps and then one of b + 1 are a run of a + (b + 1). (One of 0 steps says spent even where the first was stuck.)
abbrev pub ComposeClaim : Type 0
ComposeClaim = (a b : ℕ) (w : Config) → joined (run a w) (run (suc b) (run a w).config) ≡ run (a + suc b) w

-- ---- demand 2: events and labels
-- Ended, the events and marks are those of the depth-first search, and circular is 1 exactly where some element reached has a path of one
-- reference or more back to itself, off the elements on the blank; rolled back, the marks are 65,535 for these and 0 elsewhere; until then
-- each element labelled and not yet scanned has 32,768 more than its number; at any time circular is 1 where a reference was met that leads
-- to such an element, and the marks of the elements on the blank, and no others, are 65,535.
pub record Labelling (g : Image) (before : List ℕ) (start : ℕ) (marks : List ℕ) (l : Line) : Type 0 where
  pub events : l.config.phase ≡ finished → DepthFirst (graph_of g) before start (reverse l.events)
  pub labels : l.config.phase ≡ finished → l.config.marks ≡ marks_left (g.n + g.m) before (reverse l.events) marks
  pub no_labels : l.config.phase ≡ rolled_back → l.config.marks ≡ marks_first (g.n + g.m) before marks
  pub marks_now : l.config.phase ≢ rolled_back → l.config.marks ≡ marks_now (g.n + g.m) before (reverse l.events) marks
  pub circular : l.config.circular ≡ circular_of (graph_of g) (reverse l.events)
  pub circle : l.config.phase ≡ finished → (l.config.circular ≡ 1) ↔ Circular (graph_of g) before start
  pub blanks : (x : ℕ) → 0 < x → x ≤ g.n → (at 0 l.config.marks x ≡ 65535) ↔ Mem x before

-- No step is to come: B is rolled back where a roll-back order was taken, and has ended where none was.
pub record Ended (l : Line) : Type 0 where
  pub finished_calm : l.rolling ≡ false → l.config.phase ≡ finished
  pub undone_rolling : l.rolling ≡ true → l.config.phase ≡ rolled_back

-- Demand 2 of the folded search, under every list of calls; and behind every list a run of 2 m + n steps is long enough.
pub record Demand2 (W : Walker) : Type 0 where
  pub labelling : (g : Image) (before : List ℕ) (start : ℕ) (marks area : List ℕ) → open_number g before start marks area ≡ 0 → (cs : List Call)
      → Labelling g before start marks (line_b W g before start marks area cs)
  pub ending : (g : Image) (before : List ℕ) (start : ℕ) (marks area : List ℕ) → open_number g before start marks area ≡ 0 → (cs : List Call)
      → (k : ℕ) (room : List ℕ) → 2 * g.m + g.n ≤ k → 6 * k ≤ length room
      → Ended (line_b W g before start marks area (cs ++ (run_for k room ∷ [])))

-- With no element on the blank, an opening clears all marks, and under no list of calls does a mark of an element read 65,535; where none
-- does, the end of a roll-back clears the n marks of elements, and a mark of 32,768 or more counts as not yet scanned.
pub record NoBlanksClaim (W : Walker) : Type 0 where
  pub opened : (g : Image) (start : ℕ) (marks : List ℕ) → (opened_at g [] start marks).marks ≡ put 0 (cleared (g.n + g.m) marks) start (label_mark 1)
  pub unread : (g : Image) (start : ℕ) (marks area : List ℕ) → open_number g [] start marks area ≡ 0 → (cs : List Call) (x : ℕ) → 0 < x → x ≤ g.n
      → at 0 (line_b W g [] start marks area cs).config.marks x ≢ blank_mark
  pub undone : (n : ℕ) (marks : List ℕ) → ((x : ℕ) → 0 < x → x ≤ n → at 0 marks x ≢ blank_mark) → marks_rest n marks ≡ cleared n marks
  pub active_marks : (mark : ℕ) → mark ≢ blank_mark → unscanned mark ≡ leb active_mark mark

-- ---- demand 3: the agreement of the two lines
-- No call was refused with 8, and no run said stuck.
abbrev pub Faultless : List Answer → Type 0
Faultless [] = Unit {0}
Faultless (ran ended ∷ rest) = Faultless rest
Faultless (ran spent ∷ rest) = Faultless rest
Faultless (ran stuck ∷ rest) = ⊥
Faultless (taken ∷ rest) = Faultless rest
Faultless (refused k ∷ rest) = (k ≢ 8) × Faultless rest

-- Line B, after a list of calls, on the image g, beside line A's events; vs are the elements reached, in any order (`Complete.labels` has
-- such a list).
pub record Agrees (g : Image) (vs : List ℕ) (events_a : List Event) (l : Line) : Type 0 where
  -- B's events are the first of A's, in order.
  pub first : IsPrefix l.events events_a
  -- While no roll-back order was taken, B has ended exactly when its steps are twice the references met plus the elements reached.
  pub ends : l.rolling ≡ false → (l.config.phase ≡ finished) ↔ (l.steps ≡ 2 * met (graph_of g) vs + length vs)
  -- Its events are then all of A's.
  pub all : l.rolling ≡ false → l.config.phase ≡ finished → l.events ≡ events_a
  -- Once one was taken, the steps since the first are at most the references met plus the elements reached.
  pub bound : l.rolling ≡ true → l.since ≤ met (graph_of g) vs + length vs
  -- They are fewer while B is not rolled back.
  pub below : l.rolling ≡ true → l.config.phase ≢ rolled_back → l.since < met (graph_of g) vs + length vs
  -- Whenever B has ended or is rolled back, every link is as loaded.
  pub restored : (l.config.phase ≡ finished) ⊎ (l.config.phase ≡ rolled_back) → (l.config.after ≡ g.after) × (l.config.tail ≡ g.tail)
  pub faultless : Faultless l.answers

-- One claim about the whole list: line A on an image a, line B on an image g with the same links in areas of its own, which an opening takes
-- with the elements on the blank (sound, its areas long enough: SoundClaim); every list of calls.
abbrev pub Agreement : Walker → Type 0
Agreement W = (a g : Image) → SameLinks a g → (before : List ℕ) (start : ℕ) (marks area : List ℕ) → open_number g before start marks area ≡ 0
    → (vs : List ℕ) → Reached (graph_of g) before start vs → (cs : List Call) → Agrees g vs (line_a a before start) (line_b W g before start marks area cs)

-- ---- orders
-- Phases 1, 2 and 4: a step is to come.
abbrev pub UnderWay : ℕ → Type 0
UnderWay p = (p ≡ walking) ⊎ ((p ≡ restoring) ⊎ (p ≡ rolling_back))

-- Of a state in kind, a roll-back order is taken exactly in phases 1, 2 and 4 and refused with 9 in the others; given again in phase 4 it
-- changes nothing. The state of a refused opening is refused by every call, and by accepting.
pub record OrderClaim (W : Walker) : Type 0 where
  pub ordered : (w : Config) → state_number w [] [] ≡ 0 → ((W.serves w roll_back).answer ≡ taken) ↔ UnderWay w.phase
  pub else_nine : (w : Config) → state_number w [] [] ≡ 0 → (UnderWay w.phase → ⊥) → (W.serves w roll_back).answer ≡ refused 9
  pub again : (w : Config) → w.phase ≡ rolling_back → (W.serves w roll_back).config ≡ w
  pub no_call : (g : Image) (start : ℕ) (marks : List ℕ) (c : Call) → number_of (unopened g start marks) c ≢ 0
  pub no_card : (g : Image) (start : ℕ) (marks : List ℕ) (figure : ℕ) → accept_number (unopened g start marks) figure ≢ 0
