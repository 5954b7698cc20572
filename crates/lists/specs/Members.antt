-- Members of a list of numbers.
use Rattle.std.specs.Prelude.{◌≡◌, ◌↔◌, Bool, true, false, not, ◌||◌, List, [], ◌∷◌, ℕ, eqb}

-- x stands in the list.
pub data Mem (x : ℕ) : List ℕ → Type 0 where
  here : {y : ℕ} {l : List ℕ} → x ≡ y → Mem x (y ∷ l)
  there : {y : ℕ} {l : List ℕ} → Mem x l → Mem x (y ∷ l)

-- The test of it.
abbrev pub memb : ℕ → List ℕ → Bool
memb x [] = false
memb x (y ∷ l) = eqb x y || memb x l

-- Nothing stands twice.
abbrev pub NoDup : List ℕ → Type 0
NoDup [] = Unit {0}
NoDup (x ∷ l) = (Mem x l → ⊥) × NoDup l

-- The two lists have the same members.
abbrev pub Same : List ℕ → List ℕ → Type 0
Same k l = (x : ℕ) → Mem x k ↔ Mem x l

-- y in front of l, where the flag is set.
abbrev pub cons_if : Bool → ℕ → List ℕ → List ℕ
cons_if true y l = y ∷ l
cons_if false y l = l

-- The list without the members of another, in its order.
abbrev pub without : List ℕ → List ℕ → List ℕ
without gone [] = []
without gone (y ∷ l) = cons_if (not (memb y gone)) y (without gone l)
