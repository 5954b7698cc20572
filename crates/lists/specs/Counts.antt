-- Counts and sums over lists of numbers.
use Rattle.std.specs.Prelude.{Bool, true, false, cond, ◌&&◌, List, [], ◌∷◌, ℕ, zero, suc, ◌+◌, eqb, length}

-- One more, where the flag is set.
abbrev pub bump : Bool → ℕ → ℕ
bump true k = suc k
bump false k = k

-- How often x stands in the list.
abbrev pub count_in : ℕ → List ℕ → ℕ
count_in x [] = 0
count_in x (y ∷ l) = bump (eqb x y) (count_in x l)

-- The sum of f over the list.
abbrev pub sum_of : (ℕ → ℕ) → List ℕ → ℕ
sum_of f [] = 0
sum_of f (x ∷ l) = f x + sum_of f l

-- The place of x counted from the end of the list, from 1; 0 where it does not stand there.
abbrev pub rank : ℕ → List ℕ → ℕ
rank x [] = 0
rank x (y ∷ l) = cond (eqb x y) (suc (length l)) (rank x l)

-- The test f passes at each of 1 to k.
abbrev pub all_to : (ℕ → Bool) → ℕ → Bool
all_to f zero = true
all_to f (suc k) = all_to f k && f (suc k)
