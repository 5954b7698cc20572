-- Demands 3 and 2 of the calls themselves (document 01, "Agreement of the two lines"). Line A is one call of `dfs_recursive`, on areas of its own;
-- line B is an `open` and a list of `run`, `step` and `roll_back`, each on the state, links and marks that the one before it left. What a
-- caller sees of each call is what its contract promises: `DepthPromise`, `OpenPromise`, `CallPromise`. Nothing else is known of the code.
use Rattle.std.specs.Prelude.{◌≡◌, ◌↔◌, ◌≢◌, ◌⊎◌, Bool, true, false, ◌||◌, ℕ, ◌+◌, ◌*◌, ◌≤◌, ◌<◌, length, take}
use mathlib.Core.List.{List, [], ◌∷◌, ◌++◌, reverse, IsPrefix}
use Rattle.lists.specs.Members.{Mem}
use Rattle.lists.specs.Words.{at}
use Rattle.graphs.specs.Graph.{Reached, met}
use Rattle.graphs.specs.Events.{History, words}
use Rattle.graphs.specs.Circles.{Circular, circular_of}
use Rattle.graphs.specs.Results.{marks_first, marks_left, marks_now}
use Rattle.graphs.specs.Image.{Image, SameLinks, graph_of}
use Rattle.walks.specs.Promises.{Walked}
use Rattle.walks.specs.Promises.{depth_walk, DepthPromise}
use Rattle.folding.specs.Machine.{Config, finished, rolled_back}
use Rattle.folding.specs.Calls.{Answer, taken, Call, run_for, open_number}
use Rattle.folding.specs.Lines.{Line, line_a, line_b, folded, orders, add_if}
use Rattle.folding.specs.Claims.{Faultless}
use Rattle.states.specs.Answers.{Seen, OpenPromise, CallPromise}
use Rattle.scripts.specs.Script.{replayed}
use Rattle.walkers.specs.Claims.{told_by}

-- ---- what a caller of line B has seen
-- A list of calls and what was seen of each: every promise is kept, on what the call before left.
abbrev pub Kept : Config → List Call → List Seen → Type 0
Kept w [] [] = Unit {0}
Kept w [] (s ∷ ss) = ⊥
Kept w (c ∷ cs) [] = ⊥
Kept w (c ∷ cs) (s ∷ ss) = CallPromise w c s × Kept s.config cs ss

-- What a caller adds up from the answers and areas alone.
pub record Account : Type 0 where
  pub config : Config
  pub told : List ℕ
  pub steps : ℕ
  pub rolling : Bool
  pub since : ℕ
  pub answers : List Answer

-- The event words that a call has written.
abbrev pub written : Seen → List ℕ
written s = take (3 * s.count) s.area

-- After the opening; after one call more; after a list of them.
abbrev pub opened : Seen → Account
opened s = record { config = s.config; told = written s; steps = 0; rolling = false; since = 0; answers = s.answer ∷ [] }

abbrev pub added : Account → Call → Seen → Account
added a c s = record {
  config = s.config;
  told = a.told ++ written s;
  steps = a.steps + s.steps;
  rolling = a.rolling || orders c s.answer;
  since = add_if a.rolling a.since s.steps;
  answers = s.answer ∷ a.answers;
}

abbrev pub account : Account → List Call → List Seen → Account
account a [] ss = a
account a (c ∷ cs) [] = a
account a (c ∷ cs) (s ∷ ss) = account (added a c s) cs ss

-- ---- the two lines, as their callers saw them
-- Line A: one call of `dfs_recursive` that is taken.
pub record LineA (a : Image) (before : List ℕ) (start : ℕ) : Type 0 where
  pub marks : List ℕ
  pub events : List ℕ
  pub marks' : List ℕ
  pub events' : List ℕ
  pub walked : Walked
  pub walk : DepthPromise a before start [] marks events walked marks' events'
  pub walk_taken : walked.number ≡ 0

-- Its event words.
abbrev pub words_a : {a : Image} {before : List ℕ} {start : ℕ} → LineA a before start → List ℕ
words_a A = told_by A.walked A.events'

-- Line B: an opening that is taken, and any list of calls.
pub record LineB (g : Image) (before : List ℕ) (start : ℕ) : Type 0 where
  pub marks : List ℕ
  pub area : List ℕ
  pub opening : Seen
  pub opens : OpenPromise g before start marks area opening
  pub open_taken : opening.answer ≡ taken
  pub calls : List Call
  pub seen : List Seen
  pub kept : Kept opening.config calls seen

-- What its caller has added up.
abbrev pub account_b : {g : Image} {before : List ℕ} {start : ℕ} → LineB g before start → Account
account_b B = account (opened B.opening) B.calls B.seen

-- ---- demand 3: the two lines
-- Line B's account, on the image g, beside line A's event words; vs are the elements reached, in any order.
pub record Agree (g : Image) (vs line_aWords : List ℕ) (b : Account) : Type 0 where
  -- B's event words are the first of A's.
  pub first : IsPrefix b.told line_aWords
  -- While no roll-back order was taken, B has ended exactly when its steps are twice the references met plus the elements reached.
  pub ends : b.rolling ≡ false → (b.config.phase ≡ finished) ↔ (b.steps ≡ 2 * met (graph_of g) vs + length vs)
  -- Its event words are then all of A's.
  pub all : b.rolling ≡ false → b.config.phase ≡ finished → b.told ≡ line_aWords
  -- Once one was taken, the steps since the first are at most the references met plus the elements reached; fewer while B is not rolled back.
  pub bound : b.rolling ≡ true → b.since ≤ met (graph_of g) vs + length vs
  pub below : b.rolling ≡ true → b.config.phase ≢ rolled_back → b.since < met (graph_of g) vs + length vs
  -- Whenever B has ended or is rolled back, every link is as loaded.
  pub restored : (b.config.phase ≡ finished) ⊎ (b.config.phase ≡ rolled_back) → (b.config.after ≡ g.after) × (b.config.tail ≡ g.tail)
  -- No call was refused with 8, and no run said stuck.
  pub faultless : Faultless b.answers

-- Demand 3. Line A walks an image a; line B opens an image g in areas of its own, which has the same links; the same elements are on the blank,
-- the start is the same.
abbrev pub TwoAreasClaim : Type 0
TwoAreasClaim = (a g : Image) → SameLinks a g → (before : List ℕ) (start : ℕ) (A : LineA a before start) (B : LineB g before start)
    → (vs : List ℕ) → Reached (graph_of g) before start vs → Agree g vs (words_a A) (account_b B)

-- ---- the two lines as defined
-- The promise of the recursive walker gives line A: its event words are those of the definition over which demand 3 is proved.
abbrev pub LineAClaim : Type 0
LineAClaim = (a : Image) (before : List ℕ) (start : ℕ) (A : LineA a before start) → words_a A ≡ words (line_a a before start)

-- The account of a line as defined.
abbrev pub account_of : Line → Account
account_of l = record { config = l.config; told = words l.events; steps = l.steps; rolling = l.rolling; since = l.since; answers = l.answers }

-- Folding the promises over any list of calls, refused ones included, is line B.
abbrev pub TieClaim : Type 0
TieClaim = (g : Image) (before : List ℕ) (start : ℕ) (B : LineB g before start) → account_b B ≡ account_of (line_b folded g before start B.marks B.area B.calls)

-- Demand 3 of `replay`, which performs the calls of a script one after the other: whatever the words of the script.
abbrev pub ReplayClaim : Type 0
ReplayClaim = (a g : Image) → SameLinks a g → (before : List ℕ) (start : ℕ) (marks area : List ℕ) → open_number g before start marks area ≡ 0 → (script : List ℕ)
    → (vs : List ℕ) → Reached (graph_of g) before start vs → Agree g vs (words (line_a a before start)) (account_of (replayed g before start marks area script))

-- ---- demand 2 of line B
-- Ended, the event words and the marks are those of the depth-first search (`WalkClaim` says whose), and circular is 1 exactly where some
-- element reached has a path of one reference or more back to itself, off the elements on the blank; rolled back, the marks are 65,535 for
-- these and 0 elsewhere. At any time, by the events whose words were written: circular is 1 where a reference was met that leads to an
-- element labelled and not yet scanned, else 0; until B is rolled back, the marks are 65,535 for the elements on the blank and the label
-- numbers for the others, with 32,768 more for those not yet scanned; the marks of the elements on the blank, and no others, are 65,535.
-- From any time on, a run of 2 m + n steps or more with room for their events is long enough: B has then ended, or is rolled back where a
-- roll-back order was taken.
pub record Labels (g : Image) (before : List ℕ) (start : ℕ) (marks : List ℕ) (b : Account) : Type 0 where
  pub events : b.config.phase ≡ finished → b.told ≡ words (reverse (depth_walk g before start))
  pub labels : b.config.phase ≡ finished → b.config.marks ≡ marks_left (g.n + g.m) before (depth_walk g before start) marks
  pub no_labels : b.config.phase ≡ rolled_back → b.config.marks ≡ marks_first (g.n + g.m) before marks
  pub circle : b.config.phase ≡ finished → (b.config.circular ≡ 1) ↔ Circular (graph_of g) before start
  pub history : History
  pub so_far : b.told ≡ words (reverse history)
  pub circular : b.config.circular ≡ circular_of (graph_of g) history
  pub marks_now : b.config.phase ≢ rolled_back → b.config.marks ≡ marks_now (g.n + g.m) before history marks
  pub blanks : (x : ℕ) → 0 < x → x ≤ g.n → (at 0 b.config.marks x ≡ 65535) ↔ Mem x before
  pub ending : (k : ℕ) (room : List ℕ) (s : Seen) → 2 * g.m + g.n ≤ k → 6 * k ≤ length room → CallPromise b.config (run_for k room) s
      → (b.rolling ≡ false → s.config.phase ≡ finished) × (b.rolling ≡ true → s.config.phase ≡ rolled_back)

abbrev pub LabelsClaim : Type 0
LabelsClaim = (g : Image) (before : List ℕ) (start : ℕ) (B : LineB g before start) → Labels g before start B.marks (account_b B)

-- Of `replay`, whatever the words of the script.
abbrev pub ReplayLabelsClaim : Type 0
ReplayLabelsClaim = (g : Image) (before : List ℕ) (start : ℕ) (marks area : List ℕ) → open_number g before start marks area ≡ 0 → (script : List ℕ)
    → Labels g before start marks (account_of (replayed g before start marks area script))
