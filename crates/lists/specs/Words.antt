-- Areas of words. Nodes are numbered from 1, and an area may begin with any node.
use Rattle.std.specs.Prelude.{List, [], ◌∷◌, ◌++◌, ℕ, zero, suc, ◌+◌, ◌-◌, length, get_or, set, take, drop, replicate}

-- The word of node x in an area that begins with node b + 1.
unfoldable pub at : ℕ → List ℕ → ℕ → ℕ
at b area x = get_or area (x - suc b) 0

-- The area with the word w for node x.
unfoldable pub put : ℕ → List ℕ → ℕ → ℕ → List ℕ
put b area x w = set area (x - suc b) w

-- The area with these words in front; the words past them stay.
abbrev pub overlay : List ℕ → List ℕ → List ℕ
overlay ws area = ws ++ drop (length ws) area

-- The area with these words behind its first k; the words past them stay.
abbrev pub pasted : ℕ → List ℕ → List ℕ → List ℕ
pasted k ws area = take k area ++ (ws ++ drop (k + length ws) area)

-- The area with its first k words 0.
abbrev pub cleared : ℕ → List ℕ → List ℕ
cleared k area = replicate k 0 ++ drop k area

-- f at b + 1 to b + k.
abbrev pub values_from : (ℕ → ℕ) → ℕ → ℕ → List ℕ
values_from f b zero = []
values_from f b (suc k) = f (suc b) ∷ values_from f (suc b) k

-- The area with f x as the word of each node x of 1 to k.
abbrev pub filled : (ℕ → ℕ) → ℕ → List ℕ → List ℕ
filled f k area = values_from f 0 k ++ drop k area
