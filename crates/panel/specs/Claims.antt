-- Demand 2 of the panel, as a type; proofs/Counts has the theorem. A log is a list of calls on one record, refused ones included, each with
-- what its caller saw; nobody else writes the record meanwhile. What is seen of a call is what its contract promises: `AcceptPromise`,
-- `ShiftPromise`.
use Rattle.std.specs.Prelude.{◌≡◌, ◌⊎◌, Bool, true, false, cond, ◌||◌, List, [], ◌∷◌, ℕ, eqb}
use Rattle.lists.specs.Counts.{bump}
use Rattle.states.specs.declared.values.State.{State}
use Rattle.panel.specs.declared.Panel.{Panel}
use Rattle.panel.specs.Panel.{Accepted}
use Rattle.panel.specs.Panel.{new_panel, AcceptPromise, ShiftPromise}

-- Accepting a state, with its answer and the record it left; a shift start, with the record it left.
pub data Entry : Type 0 where
  accepting : State → Accepted → Panel → Entry
  shifting : Panel → Entry

-- The record that a call left.
abbrev pub left : Entry → Panel
left (accepting s x q) = q
left (shifting q) = q

-- Its promise is kept, on this record.
abbrev pub EntryKept : Panel → Entry → Type 0
EntryKept p (accepting s x q) = AcceptPromise p s x q
EntryKept p (shifting q) = ShiftPromise p q

-- Every promise is kept, each call on the record that the one before it left.
abbrev pub Kept : Panel → List Entry → Type 0
Kept p [] = Unit {0}
Kept p (x ∷ xs) = EntryKept p x × Kept (left x) xs

-- The record that a log leaves.
abbrev pub left_by : Panel → List Entry → Panel
left_by p [] = p
left_by p (x ∷ xs) = left_by (left x) xs

-- ---- counting
-- A shift start.
abbrev pub is_shift : Entry → Bool
is_shift (accepting s x q) = false
is_shift (shifting q) = true

-- A card: accepting that was taken.
abbrev pub is_card : Entry → Bool
is_card (accepting s x q) = eqb x.number 0
is_card (shifting q) = false

-- There is a shift start in the log.
abbrev pub has_shift : List Entry → Bool
has_shift [] = false
has_shift (x ∷ xs) = is_shift x || has_shift xs

-- The calls behind the last shift start; all of them, where there is none.
abbrev pub since_shift : List Entry → List Entry
since_shift [] = []
since_shift (x ∷ xs) = cond (has_shift xs) (since_shift xs) (cond (is_shift x) xs (x ∷ xs))

-- How many cards a log has.
abbrev pub cards : List Entry → ℕ
cards [] = 0
cards (x ∷ xs) = bump (is_card x) (cards xs)

-- A record that is new, or has had a shift start.
abbrev pub Counting : Panel → List Entry → Type 0
Counting p log = (p ≡ new_panel) ⊎ (has_shift log ≡ true)

-- The figure is the number of cards accepted since the last shift start: on a new record, and on any record once a shift was started.
abbrev pub CountClaim : Type 0
CountClaim = (p : Panel) (log : List Entry) → Kept p log → Counting p log → (left_by p log).figure ≡ cards (since_shift log)
