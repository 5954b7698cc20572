-- Rows that hold the areas of a whole-run walk to what document 01 states: n + m marks, 6 (n + m) event words, n parent, queue or increment
-- words, not one more and not one less; 3 before 4.
use Rattle.std.specs.Prelude.{List, [], ◌∷◌, ℕ, replicate}
use Rattle.lists.specs.Rows.{Row, row}
use Rattle.graphs.specs.Image.{Image}
use Rattle.graphs.specs.ArrayForm.{ArrayForm}
use Rattle.graphs.specs.Refusals.{Lent, lent}
use Rattle.walks.specs.Promises.{walk_number, array_walk_number}

abbrev none : ℕ → List ℕ
none k = replicate k 0

-- One reference, 1 to 1, of two elements, and its array form.
abbrev pair : Image
pair = record { n = 2; m = 1; after = 3 ∷ 0 ∷ 0 ∷ []; tail = 1 ∷ [] }

abbrev pair_form : ArrayForm
pair_form = record { n = 2; m = 1; firsts = 1 ∷ 2 ∷ 2 ∷ []; tails = 1 ∷ [] }

-- The number of a walk of it from a start, with so many marks and event words and areas of its own; over the array form with so many increments.
abbrev walk : ℕ → ℕ → ℕ → List Lent → List ℕ
walk start marks events own = walk_number pair [] start (none marks) (none events) own ∷ []

abbrev array_walk : ℕ → ℕ → ℕ → ℕ → List ℕ
array_walk start marks increments events = array_walk_number pair_form [] start (none marks) (none increments) (none events) ∷ []

abbrev pub areas : List Row
areas =
    row (walk 1 3 18 []) (0 ∷ [])
    ∷ row (walk 1 2 18 []) (3 ∷ [])
    ∷ row (walk 1 3 17 []) (3 ∷ [])
    ∷ row (walk 1 3 18 (lent 2 (none 2) ∷ [])) (0 ∷ [])
    ∷ row (walk 1 3 18 (lent 2 (none 1) ∷ [])) (3 ∷ [])
    ∷ row (walk 3 3 17 []) (3 ∷ [])
    ∷ row (walk 3 3 18 []) (4 ∷ [])
    ∷ row (array_walk 1 3 2 18) (0 ∷ [])
    ∷ row (array_walk 1 2 2 18) (3 ∷ [])
    ∷ row (array_walk 1 3 1 18) (3 ∷ [])
    ∷ row (array_walk 1 3 2 17) (3 ∷ [])
    ∷ row (array_walk 3 3 2 17) (3 ∷ [])
    ∷ row (array_walk 3 3 2 18) (4 ∷ [])
    ∷ []
