-- An opening and every call depend on the stated words of links and marks alone: lines in areas of their own, whatever these hold past n + m
-- and m words, answer alike.
use Rattle.std.specs.Prelude.{◌≡◌, List, [], ◌∷◌, ℕ, ◌+◌, ◌*◌, take}
use Rattle.graphs.specs.Image.{Image, SameLinks}
use Rattle.graphs.specs.Refusals.{Lent, lent, short}
use Rattle.folding.specs.Machine.{Config}
use Rattle.folding.specs.Calls.{Reply, Call, run_for, single, roll_back, open_number}
use Rattle.folding.specs.Lines.{Walker, Line, line_b}

-- A state with the stated words of its links and marks alone.
abbrev pub stated_in : Config → Config
stated_in w = record {
  n = w.n;
  m = w.m;
  start = w.start;
  v = w.v;
  e = w.e;
  f = w.f;
  phase = w.phase;
  next = w.next;
  circular = w.circular;
  after = take (w.n + w.m) w.after;
  tail = take w.m w.tail;
  marks = take (w.n + w.m) w.marks;
}

-- The same call, with another area for events: both are as long as stated, or neither is.
abbrev pub SameCall : Call → Call → Type 0
SameCall (run_for k area) (run_for j other) = (k ≡ j) × (short (lent (6 * k) area ∷ []) ≡ short (lent (6 * j) other ∷ []))
SameCall (run_for k area) (single other) = ⊥
SameCall (run_for k area) roll_back = ⊥
SameCall (single area) (run_for j other) = ⊥
SameCall (single area) (single other) = short (lent 6 area ∷ []) ≡ short (lent 6 other ∷ [])
SameCall (single area) roll_back = ⊥
SameCall roll_back (run_for j other) = ⊥
SameCall roll_back (single other) = ⊥
SameCall roll_back roll_back = Unit {0}

abbrev pub SameCalls : List Call → List Call → Type 0
SameCalls [] [] = Unit {0}
SameCalls [] (d ∷ ds) = ⊥
SameCalls (c ∷ cs) [] = ⊥
SameCalls (c ∷ cs) (d ∷ ds) = SameCall c d × SameCalls cs ds

-- The same answer, steps and events; the same state, with the same stated words.
pub record SameReply (r s : Reply) : Type 0 where
  pub answer : r.answer ≡ s.answer
  pub steps : r.steps ≡ s.steps
  pub events : r.events ≡ s.events
  pub config : stated_in r.config ≡ stated_in s.config

-- Two lines that have come to the same: state, stated words, events, steps, roll-back orders, answers.
pub record SameLine (l m : Line) : Type 0 where
  pub config : stated_in l.config ≡ stated_in m.config
  pub events : l.events ≡ m.events
  pub steps : l.steps ≡ m.steps
  pub rolling : l.rolling ≡ m.rolling
  pub since : l.since ≡ m.since
  pub answers : l.answers ≡ m.answers

-- What an opening is lent besides the image.
abbrev pub open_areas : Image → List ℕ → List ℕ → List Lent
open_areas g marks area = lent (g.n + g.m) marks ∷ lent 3 area ∷ []

-- Two images with the same links; marks and event areas that are as long as stated, or are not, alike. What the marks held does not matter.
pub record SameLinksClaim (W : Walker) : Type 0 where
  -- An opening: the same number; where it is taken, the same reply.
  pub opening_number : (g h : Image) → SameLinks g h → (before : List ℕ) (start : ℕ) (marks area others room : List ℕ)
      → short (open_areas g marks area) ≡ short (open_areas h others room) → open_number g before start marks area ≡ open_number h before start others room
  pub opening : (g h : Image) → SameLinks g h → (before : List ℕ) (start : ℕ) (marks area others room : List ℕ)
      → open_number g before start marks area ≡ 0 → open_number h before start others room ≡ 0
      → SameReply (W.opens g before start marks area) (W.opens h before start others room)
  -- A call, on any words.
  pub call : (w x : Config) → stated_in w ≡ stated_in x → (c d : Call) → SameCall c d → SameReply (W.serves w c) (W.serves x d)
  -- So any list of them.
  pub lines : (g h : Image) → SameLinks g h → (before : List ℕ) (start : ℕ) (marks area others room : List ℕ)
      → open_number g before start marks area ≡ 0 → open_number h before start others room ≡ 0
      → (cs ds : List Call) → SameCalls cs ds → SameLine (line_b W g before start marks area cs) (line_b W h before start others room ds)
