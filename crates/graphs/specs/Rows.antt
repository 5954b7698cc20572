-- Rows that hold document 01's table "Turned back", as far as it needs no state, and what the searches leave in the areas, to what the
-- documents say; proofs/Rows has one theorem for each table.
use Rattle.std.specs.Prelude.{Bool, cond, List, [], ◌∷◌, reverse, ℕ, ◌+◌, replicate}
use Rattle.lists.specs.Rows.{Row, row}
use Rattle.graphs.specs.Events.{words, tally}
use Rattle.graphs.specs.Search.{depth_first, breadth_first}
use Rattle.graphs.specs.Results.{marks_left, queue_left, parent_left, increment_left}
use Rattle.graphs.specs.Image.{Image, graph_of}
use Rattle.graphs.specs.ArrayForm.{ArrayForm, array_of, array_graph, is_ordered, numbers_of}
use Rattle.graphs.specs.Refusals.{Lent, lent, vertices_out, edges_out, figure_out, text_out, image_number, search_number, array_number, array_search_number}

-- ---- what is asked
-- Whether a test is passed: 1 or 0.
abbrev passes : Bool → List ℕ
passes b = cond b 1 0 ∷ []

-- The number of checking an image, or converting it, with areas of its own; of searching one with these elements on the blank, from a start;
-- of querying an array form; of searching one.
abbrev check : Image → List Lent → List ℕ
check g areas = image_number g areas ∷ []

abbrev search : Image → List ℕ → ℕ → List Lent → List ℕ
search g before start areas = search_number g before start areas ∷ []

abbrev query : ArrayForm → ℕ → List Lent → List ℕ
query a x areas = array_number a x areas ∷ []

abbrev array_search : ArrayForm → List ℕ → ℕ → List Lent → List ℕ
array_search a before start areas = array_search_number a before start areas ∷ []

-- An area of k words that are not 0.
abbrev nines : ℕ → List ℕ
nines k = replicate k 9

-- What a search from element 1 leaves in an area of k such words, with these elements on the blank: depth-first the marks, the tally, the
-- parents and the increments, breadth-first the queue and the event words.
abbrev marks : Image → List ℕ → ℕ → List ℕ
marks g before k = marks_left (g.n + g.m) before (depth_first (graph_of g) before 1) (nines k)

abbrev tallies : Image → List ℕ → List ℕ
tallies g before = tally (depth_first (graph_of g) before 1)

abbrev parents : Image → List ℕ → ℕ → List ℕ
parents g before k = parent_left (graph_of g) (depth_first (graph_of g) before 1) (nines k)

abbrev increments : Image → List ℕ → ℕ → List ℕ
increments g before k = increment_left (graph_of g) (depth_first (graph_of g) before 1) (nines k)

abbrev queue : Image → List ℕ → ℕ → List ℕ
queue g before k = queue_left g.n (breadth_first (graph_of g) before 1) (nines k)

abbrev breadth : Image → List ℕ → List ℕ
breadth g before = words (reverse (breadth_first (graph_of g) before 1))

-- ---- the inputs
-- So many words that are 0.
abbrev none : ℕ → List ℕ
none k = replicate k 0

-- An image by its n, m, after words and tails; an array form by its n, m, first positions and tails.
abbrev image : (n m : ℕ) (after tail : List ℕ) → Image
image n m after tail = record { n = n; m = m; after = after; tail = tail }

abbrev arrays : (n m : ℕ) (firsts tails : List ℕ) → ArrayForm
arrays n m firsts tails = record { n = n; m = m; firsts = firsts; tails = tails }

-- One reference, 1 to 1, of two elements; the printed profile; element 1 refers to itself and then to 2; element 1 refers to 2 twice.
abbrev pair : Image
pair = image 2 1 (3 ∷ 0 ∷ 0 ∷ []) (1 ∷ [])

abbrev printed : Image
printed = image 3 4 (4 ∷ 6 ∷ 7 ∷ 5 ∷ 0 ∷ 0 ∷ 0 ∷ []) (2 ∷ 3 ∷ 3 ∷ 1 ∷ [])

abbrev loop_first : Image
loop_first = image 2 2 (3 ∷ 0 ∷ 4 ∷ 0 ∷ []) (1 ∷ 2 ∷ [])

abbrev twice : Image
twice = image 2 2 (3 ∷ 0 ∷ 4 ∷ 0 ∷ []) (2 ∷ 2 ∷ [])

-- The array form of the printed profile, with these first positions and tails.
abbrev form : List ℕ → List ℕ → ArrayForm
form firsts tails = arrays 3 4 firsts tails

abbrev firsts : List ℕ
firsts = 1 ∷ 3 ∷ 4 ∷ 5 ∷ []

abbrev tails : List ℕ
tails = 2 ∷ 3 ∷ 3 ∷ 1 ∷ []

-- ---- the numbers, and their order in every call
abbrev pub numbers : List Row
numbers =
    -- Limits: 1, 2, 11, 13.
    row (passes (vertices_out 0)) (1 ∷ [])
    ∷ row (passes (vertices_out 1000)) (0 ∷ [])
    ∷ row (passes (vertices_out 1001)) (1 ∷ [])
    ∷ row (passes (edges_out 4000)) (0 ∷ [])
    ∷ row (passes (edges_out 4001)) (1 ∷ [])
    ∷ row (passes (figure_out 999998)) (0 ∷ [])
    ∷ row (passes (figure_out 999999)) (1 ∷ [])
    ∷ row (passes (text_out 65536)) (0 ∷ [])
    ∷ row (passes (text_out 65537)) (1 ∷ [])
    -- The table's examples 1 to 3 and 5 to 7, by checking; then two faults at once: 1 and 2, 2 and 3, 3 and 5, 5 and 6, 6 and 7.
    ∷ row (check (image 0 0 [] []) []) (1 ∷ [])
    ∷ row (check (image 1 4001 (none 4002) (none 4001)) []) (2 ∷ [])
    ∷ row (check (image 2 1 (3 ∷ 0 ∷ []) (1 ∷ [])) []) (3 ∷ [])
    ∷ row (check (image 2 1 (3 ∷ 0 ∷ 0 ∷ []) []) []) (3 ∷ [])
    ∷ row (check (image 1 1 (1 ∷ 0 ∷ []) (1 ∷ [])) []) (5 ∷ [])
    ∷ row (check (image 1 1 (2 ∷ 0 ∷ []) (0 ∷ [])) []) (6 ∷ [])
    ∷ row (check (image 2 1 (3 ∷ 3 ∷ 0 ∷ []) (1 ∷ [])) []) (7 ∷ [])
    ∷ row (check pair []) (0 ∷ [])
    ∷ row (check (image 0 4001 [] []) []) (1 ∷ [])
    ∷ row (check (image 1 4001 [] []) []) (2 ∷ [])
    ∷ row (check (image 2 1 (1 ∷ 0 ∷ []) (1 ∷ [])) []) (3 ∷ [])
    ∷ row (check (image 1 1 (1 ∷ 0 ∷ []) (0 ∷ [])) []) (5 ∷ [])
    ∷ row (check (image 2 1 (3 ∷ 3 ∷ 0 ∷ []) (0 ∷ [])) []) (6 ∷ [])
    -- An area of a converter's own: as long as stated, one word short, short and 5.
    ∷ row (check pair (lent 3 (none 3) ∷ [])) (0 ∷ [])
    ∷ row (check pair (lent 3 (none 2) ∷ [])) (3 ∷ [])
    ∷ row (check (image 2 1 (1 ∷ 0 ∷ 0 ∷ []) (1 ∷ [])) (lent 3 (none 2) ∷ [])) (3 ∷ [])
    -- Example 4, by searching; 1 and 2, 2 and 3, 3 and 4 (an area of its own, and one of the image), 4 and 5, 5 and 6, 6 and 7.
    ∷ row (search pair [] 3 []) (4 ∷ [])
    ∷ row (search pair [] 0 []) (4 ∷ [])
    ∷ row (search pair [] 1 (lent 3 (none 3) ∷ [])) (0 ∷ [])
    ∷ row (search (image 0 4001 [] []) [] 0 []) (1 ∷ [])
    ∷ row (search (image 1 4001 [] []) [] 2 []) (2 ∷ [])
    ∷ row (search pair [] 3 (lent 3 (none 2) ∷ [])) (3 ∷ [])
    ∷ row (search (image 2 1 (3 ∷ 0 ∷ []) (1 ∷ [])) [] 3 []) (3 ∷ [])
    ∷ row (search (image 2 1 (1 ∷ 0 ∷ 0 ∷ []) (1 ∷ [])) [] 3 []) (4 ∷ [])
    ∷ row (search (image 2 1 (1 ∷ 0 ∷ 0 ∷ []) (0 ∷ [])) [] 2 []) (5 ∷ [])
    ∷ row (search (image 2 1 (3 ∷ 3 ∷ 0 ∷ []) (0 ∷ [])) [] 2 []) (6 ∷ [])
    -- With a list: 7 and 17, 7 and 18, 17 and 18, each alone, none.
    ∷ row (search (image 2 1 (3 ∷ 3 ∷ 0 ∷ []) (1 ∷ [])) (3 ∷ []) 2 []) (7 ∷ [])
    ∷ row (search (image 2 1 (3 ∷ 3 ∷ 0 ∷ []) (1 ∷ [])) (2 ∷ []) 2 []) (7 ∷ [])
    ∷ row (search pair (1 ∷ 3 ∷ []) 1 []) (17 ∷ [])
    ∷ row (search pair (3 ∷ []) 1 []) (17 ∷ [])
    ∷ row (search pair (1 ∷ []) 1 []) (18 ∷ [])
    ∷ row (search pair (2 ∷ []) 1 []) (0 ∷ [])
    -- The array form: n + 1 first positions; the first 1, the last m + 1, never falling; 1 and 2, 2 and 3, 3 and 4, 4 and 5, 5 and 6.
    ∷ row (query (arrays 2 1 (1 ∷ 2 ∷ 2 ∷ []) (1 ∷ [])) 1 []) (0 ∷ [])
    ∷ row (query (arrays 2 1 (1 ∷ 2 ∷ []) (1 ∷ [])) 1 []) (3 ∷ [])
    ∷ row (query (arrays 2 1 (1 ∷ 2 ∷ 2 ∷ []) []) 1 []) (3 ∷ [])
    ∷ row (query (arrays 2 1 (2 ∷ 2 ∷ 2 ∷ []) (1 ∷ [])) 1 []) (5 ∷ [])
    ∷ row (query (arrays 2 1 (1 ∷ 1 ∷ 1 ∷ []) (1 ∷ [])) 1 []) (5 ∷ [])
    ∷ row (query (arrays 2 1 (1 ∷ 3 ∷ 2 ∷ []) (1 ∷ [])) 1 []) (5 ∷ [])
    ∷ row (query (arrays 2 1 (1 ∷ 2 ∷ 2 ∷ []) (3 ∷ [])) 1 []) (6 ∷ [])
    ∷ row (query (arrays 0 4001 [] []) 0 []) (1 ∷ [])
    ∷ row (query (arrays 1 4001 [] []) 2 []) (2 ∷ [])
    ∷ row (query (arrays 2 1 (1 ∷ 2 ∷ []) (1 ∷ [])) 3 []) (3 ∷ [])
    ∷ row (query (arrays 2 1 (1 ∷ 1 ∷ 1 ∷ []) (1 ∷ [])) 3 []) (4 ∷ [])
    ∷ row (query (arrays 2 1 (1 ∷ 1 ∷ 1 ∷ []) (3 ∷ [])) 1 []) (5 ∷ [])
    -- Searching an array form: each number of a list alone, none; 4 and 17, 5 and 17, 6 and 17, 6 and 18, 17 and 18.
    ∷ row (array_search (form firsts tails) (3 ∷ []) 1 []) (0 ∷ [])
    ∷ row (array_search (form firsts tails) (2 ∷ 4 ∷ []) 1 []) (17 ∷ [])
    ∷ row (array_search (form firsts tails) (1 ∷ []) 1 []) (18 ∷ [])
    ∷ row (array_search (form firsts tails) (4 ∷ []) 4 []) (4 ∷ [])
    ∷ row (array_search (form (2 ∷ 3 ∷ 4 ∷ 5 ∷ []) tails) (0 ∷ []) 1 []) (5 ∷ [])
    ∷ row (array_search (form firsts (2 ∷ 3 ∷ 4 ∷ 1 ∷ [])) (4 ∷ []) 1 []) (6 ∷ [])
    ∷ row (array_search (form firsts (2 ∷ 3 ∷ 4 ∷ 1 ∷ [])) (1 ∷ []) 1 []) (6 ∷ [])
    ∷ row (array_search (form firsts tails) (2 ∷ 1 ∷ []) 1 []) (17 ∷ [])
    ∷ []

-- ---- what the searches leave
abbrev pub areas : List Row
areas =
    -- The printed profile: marks, with a word past them; tally; 0 for the start and its child 2, for 3 the reference into its parent 2; the queue.
    row (marks printed [] 8) (1 ∷ 2 ∷ 3 ∷ 0 ∷ 0 ∷ 0 ∷ 0 ∷ 9 ∷ [])
    ∷ row (tallies printed []) (3 ∷ 2 ∷ 2 ∷ 2 ∷ 2 ∷ 3 ∷ 0 ∷ [])
    ∷ row (parents printed [] 4) (0 ∷ 0 ∷ 4 ∷ 9 ∷ [])
    ∷ row (queue printed [] 3) (1 ∷ 2 ∷ 3 ∷ [])
    -- Kind 7: the 30 words of its breadth-first search.
    ∷ row (breadth printed []) (1 ∷ 0 ∷ 1 ∷ 7 ∷ 4 ∷ 1 ∷ 1 ∷ 0 ∷ 2 ∷ 7 ∷ 5 ∷ 1 ∷ 1 ∷ 0 ∷ 3 ∷ 6 ∷ 0 ∷ 1 ∷ 7 ∷ 6 ∷ 2 ∷ 6 ∷ 0 ∷ 2 ∷ 7 ∷ 7 ∷ 3 ∷ 6 ∷ 0 ∷ 3 ∷ [])
    -- The second reference of 1 is its last tree reference; 2 has none. Two references from 1 to 2: the first is a tree reference, the second
    -- is not, and 2 is searched once.
    ∷ row (increments loop_first [] 2) (2 ∷ 1 ∷ [])
    ∷ row (increments twice [] 2) (1 ∷ 1 ∷ [])
    ∷ row (tallies twice []) (2 ∷ 1 ∷ 1 ∷ 1 ∷ 1 ∷ 2 ∷ 0 ∷ [])
    -- The array form: first positions, tails, the reference number of each position, its rule, the references of 1 by their positions.
    ∷ row (array_of printed).firsts (1 ∷ 3 ∷ 4 ∷ 5 ∷ [])
    ∷ row (array_of printed).tails (2 ∷ 3 ∷ 3 ∷ 1 ∷ [])
    ∷ row (numbers_of printed) (4 ∷ 5 ∷ 6 ∷ 7 ∷ [])
    ∷ row (passes (is_ordered (array_of printed))) (1 ∷ [])
    ∷ row ((array_graph (array_of printed)).out 1) (4 ∷ 5 ∷ [])
    -- With element 3 on the blank: it is marked, and in the other areas it counts as unreached.
    ∷ row (marks printed (3 ∷ []) 7) (1 ∷ 2 ∷ 65535 ∷ 0 ∷ 0 ∷ 0 ∷ 0 ∷ [])
    ∷ row (parents printed (3 ∷ []) 3) (0 ∷ 0 ∷ 0 ∷ [])
    ∷ row (increments printed (3 ∷ []) 3) (1 ∷ 1 ∷ 0 ∷ [])
    ∷ row (queue printed (3 ∷ []) 3) (1 ∷ 2 ∷ 0 ∷ [])
    ∷ []
