-- Tables of rows: what a definition gives, and what is written there. One theorem a table, by computation.
use Rattle.std.specs.Prelude.{◌≡◌, List, [], ◌∷◌, ℕ}

-- A row: the words that are computed, and those that they must be.
pub data Row : Type 0 where
  row : List ℕ → List ℕ → Row

abbrev computed : List Row → List (List ℕ)
computed [] = []
computed (row ws answer ∷ rs) = ws ∷ computed rs

abbrev written : List Row → List (List ℕ)
written [] = []
written (row ws answer ∷ rs) = answer ∷ written rs

-- Every row has its answer.
abbrev pub AllAnswered : List Row → Type 0
AllAnswered rs = computed rs ≡ written rs
