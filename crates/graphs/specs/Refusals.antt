-- The conditions of document 01's table "Turned back" that need no state, and the order in which a call meets them.
use Rattle.std.specs.Prelude.{Bool, true, false, cond, not, ◌&&◌, ◌||◌, List, [], ◌∷◌, ◌++◌, ℕ, zero, suc, ◌+◌, eqb, ltb, leb, length}
use Rattle.lists.specs.Members.{memb}
use Rattle.lists.specs.Counts.{count_in, all_to}
use Rattle.lists.specs.Words.{at}
use Rattle.graphs.specs.Nodes.{is_vertex, is_link}
use Rattle.graphs.specs.Image.{Image, lists_to}
use Rattle.graphs.specs.ArrayForm.{ArrayForm, is_ordered}

-- A call is refused with this number where the condition is true.
pub data Refusal : Type 0 where
  refuse : ℕ → Bool → Refusal

-- The number of the first condition that is true; 0 where none is.
abbrev pub first_of : List Refusal → ℕ
first_of [] = 0
first_of (refuse k b ∷ cs) = cond b k (first_of cs)

-- A refused call leaves the old words, a call taken the new ones.
abbrev pub unless_refused : ℕ → List ℕ → List ℕ → List ℕ
unless_refused zero new old = new
unless_refused (suc k) new old = old

-- 1: n is 0 or over 1,000.
abbrev pub vertices_out : ℕ → Bool
vertices_out n = eqb n 0 || ltb 1000 n

-- 2: m is over 4,000.
abbrev pub edges_out : ℕ → Bool
edges_out m = ltb 4000 m

-- A lent area: the words stated, and the words it has.
pub data Lent : Type 0 where
  lent : ℕ → List ℕ → Lent

-- 3: a lent area is shorter than stated.
abbrev pub short : List Lent → Bool
short [] = false
short (lent stated area ∷ others) = ltb (length area) stated || short others

-- 4: the start, or a queried element, is not in 1 to n.
abbrev pub vertex_out : ℕ → ℕ → Bool
vertex_out n x = not (is_vertex n x)

-- 5: an after word is neither 0 nor a reference.
unfoldable pub after_out : Image → Bool
after_out g = not (all_to (λ x. is_link g.n g.m (at 0 g.after x)) (g.n + g.m))

-- 5, for the array form: a first position breaks its rule.
abbrev pub first_out : ArrayForm → Bool
first_out a = not (is_ordered a)

-- 6: a tail is not in 1 to n.
unfoldable pub tail_out : ℕ → ℕ → List ℕ → Bool
tail_out n m tails = not (all_to (λ k. is_vertex n (at 0 tails k)) m)

-- 7: a reference is not on exactly one list, once.
unfoldable pub list_out : Image → Bool
list_out g = not (all_to (λ k. eqb (count_in (g.n + k) (lists_to g g.n)) 1) g.m)

-- 11: the figure is 999,999 or more.
abbrev pub figure_out : ℕ → Bool
figure_out figure = leb 999999 figure

-- 13: the text is over 65,536 bytes.
abbrev pub text_out : ℕ → Bool
text_out bytes = ltb 65536 bytes

-- Strictly rising numbers over k, none over n.
abbrev pub rises : ℕ → ℕ → List ℕ → Bool
rises n k [] = true
rises n k (x ∷ l) = (ltb k x && leb x n) && rises n x l

-- 17: the list of elements already on the blank is not strictly rising, or leaves 1 to n.
abbrev pub blanks_out : ℕ → List ℕ → Bool
blanks_out n before = not (rises n 0 before)

-- 18: the start is on that list.
abbrev pub start_blank : ℕ → List ℕ → Bool
start_blank start before = memb start before

-- ---- the order of each call
-- The conditions that ask only the sizes.
abbrev pub sizes_out : ℕ → ℕ → List Refusal
sizes_out n m = refuse 1 (vertices_out n) ∷ refuse 2 (edges_out m) ∷ []

-- What every call with an image or a state meets first.
abbrev pub size_refusals : ℕ → ℕ → List Lent → List Refusal
size_refusals n m areas = refuse 1 (vertices_out n) ∷ refuse 2 (edges_out m) ∷ refuse 3 (short areas) ∷ []

-- The areas of an image: n + m after words and m tail words.
abbrev pub image_areas : Image → List Lent
image_areas g = lent (g.n + g.m) g.after ∷ lent g.m g.tail ∷ []

-- The conditions on the words of an image.
abbrev pub image_refusals : Image → List Refusal
image_refusals g = refuse 5 (after_out g) ∷ refuse 6 (tail_out g.n g.m g.tail) ∷ refuse 7 (list_out g) ∷ []

-- The conditions on the list of elements already on the blank (document 02, item 7), after all others.
abbrev pub blank_refusals : ℕ → List ℕ → ℕ → List Refusal
blank_refusals n before start = refuse 17 (blanks_out n before) ∷ refuse 18 (start_blank start before) ∷ []

-- A profile is sound where conditions 1, 2, 4 to 7, 17 and 18 are false of it, the elements already on the blank, and its start.
unfoldable pub sound : Image → List ℕ → ℕ → Bool
sound g before start = not (vertices_out g.n || (edges_out g.m || (vertex_out g.n start || (after_out g || (tail_out g.n g.m g.tail || (list_out g || (blanks_out g.n before || start_blank start before)))))))

-- The number of a checker or converter of a linked image; `areas` are those lent besides the image.
unfoldable pub image_number : Image → List Lent → ℕ
image_number g areas = first_of (size_refusals g.n g.m (image_areas g ++ areas) ++ image_refusals g)

-- The number of a search of a linked image, or of the opening of one.
unfoldable pub search_number : Image → List ℕ → ℕ → List Lent → ℕ
search_number g before start areas = first_of (size_refusals g.n g.m (image_areas g ++ areas) ++ refuse 4 (vertex_out g.n start) ∷ (image_refusals g ++ blank_refusals g.n before start))

-- The areas of an array form: n + 1 first positions and m tails.
abbrev pub array_areas : ArrayForm → List Lent
array_areas a = lent (a.n + 1) a.firsts ∷ lent a.m a.tails ∷ []

-- What the words of an array form show.
abbrev pub array_refusals : ArrayForm → List Refusal
array_refusals a = refuse 5 (first_out a) ∷ refuse 6 (tail_out a.n a.m a.tails) ∷ []

-- The number of a query of an array form.
unfoldable pub array_number : ArrayForm → ℕ → List Lent → ℕ
array_number a x areas = first_of (size_refusals a.n a.m (array_areas a ++ areas) ++ refuse 4 (vertex_out a.n x) ∷ array_refusals a)

-- The number of a search of an array form.
unfoldable pub array_search_number : ArrayForm → List ℕ → ℕ → List Lent → ℕ
array_search_number a before start areas =
    first_of (size_refusals a.n a.m (array_areas a ++ areas) ++ refuse 4 (vertex_out a.n start) ∷ (array_refusals a ++ blank_refusals a.n before start))
