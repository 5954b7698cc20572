-- Rows that hold the numbers of calls with a state, document 01's list "Out of kind for 8", its phases and its orders to what it says. (The
-- numbers that need no state stand in graphs/specs/Rows.)
-- Every row is a question on the definitions and its answer as the documents have it; proofs/Rows has one theorem for each table.
use Rattle.std.specs.Prelude.{List, [], ◌∷◌, ◌++◌, ℕ, ◌+◌, ◌*◌, replicate}
use Rattle.lists.specs.Rows.{Row, row}
use Rattle.graphs.specs.Events.{words}
use Rattle.graphs.specs.Image.{Image}
use Rattle.folding.specs.Machine.{Config, walking, restoring, finished, rolling_back, rolled_back, accepted}
use Rattle.folding.specs.Calls.{Reason, ended, spent, stuck, Answer, ran, taken, refused, Reply, Call, run_for, single, roll_back, number_of, accept_number, open_number, opening, serve}
use Rattle.folding.specs.Lines.{line_b, folded}

-- ---- how an answer is written
abbrev reason_word : Reason → ℕ
reason_word ended = 101
reason_word spent = 102
reason_word stuck = 103

-- Taken 0; refused, its number; a run 101 ended, 102 spent, 103 stuck.
abbrev answer_word : Answer → ℕ
answer_word (ran why) = reason_word why
answer_word taken = 0
answer_word (refused k) = k

-- v, e, f, phase, next label, circular.
abbrev fields : Config → List ℕ
fields w = w.v ∷ w.e ∷ w.f ∷ w.phase ∷ w.next ∷ w.circular ∷ []

-- The fields, then after words, tails, marks.
abbrev whole : Config → List ℕ
whole w = fields w ++ (w.after ++ (w.tail ++ w.marks))

-- Answer, steps, the words of the events; then fields, links and marks.
abbrev shown : Reply → List ℕ
shown r = answer_word r.answer ∷ r.steps ∷ (words r.events ++ whole r.config)

-- So many words that are 0.
abbrev none : ℕ → List ℕ
none k = replicate k 0

-- ---- what is asked
-- The number of an opening with so many marks and event words.
abbrev opening_number : Image → ℕ → ℕ → ℕ → List ℕ
opening_number g start k j = open_number g [] start (none k) (none j) ∷ []

-- The numbers of a run of no step, of a single step with 6 event words, of a roll-back order, and of accepting on a figure of 0.
abbrev every : Config → List ℕ
every w = number_of w (run_for 0 []) ∷ number_of w (single (none 6)) ∷ number_of w roll_back ∷ accept_number w 0 ∷ []

-- The number of one call; of accepting on a figure.
abbrev asked : Config → Call → List ℕ
asked w c = number_of w c ∷ []

abbrev accepting : Config → ℕ → List ℕ
accepting w figure = accept_number w figure ∷ []

-- A call's answer, steps, events and what it leaves; an opening's, with as many areas as it asks.
abbrev served : Config → Call → List ℕ
served w c = shown (serve w c)

abbrev opened : Image → ℕ → List ℕ
opened g start = shown (opening g [] start (replicate (g.n + g.m) 9) (none 3))

-- The number of a single step; the answer of a run of so many steps, and the steps it made.
abbrev tried : ℕ → Config → List ℕ
tried k w = number_of w (single (none 6)) ∷ answer_word (serve w (run_for k (none (6 * k)))).answer ∷ (serve w (run_for k (none (6 * k)))).steps ∷ []

-- The state that line B leaves, the marks with it.
abbrev left : Image → ℕ → List Call → List ℕ
left g start cs = let w = (line_b folded g [] start (replicate (g.n + g.m) 9) (none 3) cs).config in fields w ++ w.marks

-- ---- the inputs
-- An image by its n, m, after words and tails.
abbrev image : (n m : ℕ) (after tail : List ℕ) → Image
image n m after tail = record { n = n; m = m; after = after; tail = tail }

-- A state by its start, v, e, f, phase, next label and circular, on these links and marks.
abbrev state : Image → (start v e f phase next circular : ℕ) (marks : List ℕ) → Config
state g start v e f phase next circular marks = record { n = g.n; m = g.m; start = start; v = v; e = e; f = f; phase = phase; next = next; circular = circular; after = g.after; tail = g.tail; marks = marks }

-- One reference, 1 to 1, of two elements.
abbrev pair : Image
pair = image 2 1 (3 ∷ 0 ∷ 0 ∷ []) (1 ∷ [])

-- Its state at element 1, in this phase; and with any start and v.
abbrev pair_in : ℕ → Config
pair_in p = state pair 1 1 0 0 p 2 0 (none 3)

abbrev pair_at : (start v phase : ℕ) → Config
pair_at start v p = state pair start v 0 0 p 2 0 (none 3)

-- The same with other fields, in phase 3.
abbrev pair_with : (v e f next circular : ℕ) → Config
pair_with v e f next circular = state pair 1 v e f 3 next circular (none 3)

-- A state of these sizes, in this phase, with no words.
abbrev sized : (n m start phase : ℕ) → Config
sized n m start p = state (image n m [] []) start 1 0 0 p 2 0 []

-- A state of two elements and two references, 3 and 4, from element 1, with no element circling: v, e, f, phase, next label; a(1), a(2),
-- a(3), a(4); t(3), t(4); the marks.
abbrev four : (v e f phase next a1 a2 a3 a4 t3 t4 : ℕ) (marks : List ℕ) → Config
four v e f phase next a1 a2 a3 a4 t3 t4 marks = state (image 2 2 (a1 ∷ a2 ∷ a3 ∷ a4 ∷ []) (t3 ∷ t4 ∷ [])) 1 v e f phase next 0 marks

-- Element 1 labelled; both.
abbrev first : List ℕ
first = 32769 ∷ 0 ∷ 0 ∷ 0 ∷ []

abbrev both : List ℕ
both = 32769 ∷ 2 ∷ 0 ∷ 0 ∷ []

abbrev printed : Image
printed = image 3 4 (4 ∷ 6 ∷ 7 ∷ 5 ∷ 0 ∷ 0 ∷ 0 ∷ []) (2 ∷ 3 ∷ 3 ∷ 1 ∷ [])

abbrev run_of : ℕ → Call
run_of k = run_for k (none (6 * k))

abbrev one : Call
one = single (none 6)

-- ---- the numbers, and their order in every call
abbrev pub numbers : List Row
numbers =
    -- Opening: n + m marks and 3 event words, not one more and not one less; 1 and 2, 2 and 3, 3 and 4, 4 and 5, 5 and 6, 6 and 7 (7, 17 and
    -- 18 stand in the cards).
    row (opening_number pair 1 3 3) (0 ∷ [])
    ∷ row (opening_number pair 1 2 3) (3 ∷ [])
    ∷ row (opening_number pair 1 3 2) (3 ∷ [])
    ∷ row (opening_number (image 0 4001 [] []) 1 0 0) (1 ∷ [])
    ∷ row (opening_number (image 1 4001 [] []) 2 0 0) (2 ∷ [])
    ∷ row (opening_number pair 3 3 2) (3 ∷ [])
    ∷ row (opening_number (image 2 1 (1 ∷ 0 ∷ 0 ∷ []) (1 ∷ [])) 3 3 3) (4 ∷ [])
    ∷ row (opening_number (image 2 1 (1 ∷ 0 ∷ 0 ∷ []) (0 ∷ [])) 2 3 3) (5 ∷ [])
    ∷ row (opening_number (image 2 1 (3 ∷ 3 ∷ 0 ∷ []) (0 ∷ [])) 2 3 3) (6 ∷ [])
    -- With a state, of a run, a single step, a roll-back order and accepting: 1 and 2, 2 and 3 (and 4), 3 and 4, 4 and 8, 8 and 9, 8 and 10;
    -- the last is example 8.
    ∷ row (every (sized 0 4001 1 1)) (1 ∷ 1 ∷ 1 ∷ 1 ∷ [])
    ∷ row (every (sized 1 4001 2 1)) (2 ∷ 2 ∷ 2 ∷ 2 ∷ [])
    ∷ row (every (sized 2 1 3 1)) (3 ∷ 3 ∷ 4 ∷ 4 ∷ [])
    ∷ row (every (pair_at 3 3 1)) (4 ∷ 4 ∷ 4 ∷ 4 ∷ [])
    ∷ row (every (pair_at 1 3 3)) (8 ∷ 8 ∷ 8 ∷ 8 ∷ [])
    ∷ row (every (pair_at 1 3 5)) (8 ∷ 8 ∷ 8 ∷ 8 ∷ [])
    ∷ row (every (pair_at 1 3 1)) (8 ∷ 8 ∷ 8 ∷ 8 ∷ [])
    -- Areas of a run and a single step: each one word short, with the others as stated; 6 words for each step, and no more.
    ∷ row (every (state (image 2 1 (3 ∷ 0 ∷ []) (1 ∷ [])) 1 1 0 0 1 2 0 (none 3))) (3 ∷ 3 ∷ 0 ∷ 10 ∷ [])
    ∷ row (every (state (image 2 1 (3 ∷ 0 ∷ 0 ∷ []) []) 1 1 0 0 1 2 0 (none 3))) (3 ∷ 3 ∷ 0 ∷ 10 ∷ [])
    ∷ row (every (state pair 1 1 0 0 1 2 0 (none 2))) (3 ∷ 3 ∷ 0 ∷ 10 ∷ [])
    ∷ row (asked (pair_in 1) (single (none 5))) (3 ∷ [])
    ∷ row (asked (pair_in 1) (run_for 2 (none 12))) (0 ∷ [])
    ∷ row (asked (pair_in 1) (run_for 2 (none 11))) (3 ∷ [])
    ∷ row (asked (pair_in 3) (single (none 5))) (3 ∷ [])
    -- Accepting: 9 and 11, 10 and 11, the figure's limit.
    ∷ row (accepting (pair_in 5) 999999) (9 ∷ [])
    ∷ row (accepting (pair_in 6) 999999) (9 ∷ [])
    ∷ row (accepting (pair_in 1) 999999) (10 ∷ [])
    ∷ row (accepting (pair_in 4) 999999) (10 ∷ [])
    ∷ row (accepting (pair_in 3) 999999) (11 ∷ [])
    ∷ row (accepting (pair_in 3) 999998) (0 ∷ [])
    ∷ row (accepting (pair_at 1 3 3) 999999) (8 ∷ [])
    ∷ []

-- ---- out of kind, on any words
abbrev pub hostile : List Row
hostile =
    -- The six state fields, each at both sides of its bounds: a run, a single step, a roll-back order, accepting; phase 3.
    row (every (pair_with 0 0 0 2 0)) (8 ∷ 8 ∷ 8 ∷ 8 ∷ [])
    ∷ row (every (pair_with 3 0 0 2 0)) (8 ∷ 8 ∷ 8 ∷ 8 ∷ [])
    ∷ row (every (pair_with 1 1 0 2 0)) (8 ∷ 8 ∷ 8 ∷ 8 ∷ [])
    ∷ row (every (pair_with 1 2 0 2 0)) (8 ∷ 8 ∷ 8 ∷ 8 ∷ [])
    ∷ row (every (pair_with 1 4 0 2 0)) (8 ∷ 8 ∷ 8 ∷ 8 ∷ [])
    ∷ row (every (pair_with 1 0 4 2 0)) (8 ∷ 8 ∷ 8 ∷ 8 ∷ [])
    ∷ row (every (pair_with 1 0 0 1 0)) (8 ∷ 8 ∷ 8 ∷ 8 ∷ [])
    ∷ row (every (pair_with 1 0 0 4 0)) (8 ∷ 8 ∷ 8 ∷ 8 ∷ [])
    ∷ row (every (pair_with 1 0 0 2 2)) (8 ∷ 8 ∷ 8 ∷ 8 ∷ [])
    ∷ row (every (pair_with 2 0 0 2 0)) (0 ∷ 9 ∷ 9 ∷ 0 ∷ [])
    ∷ row (every (pair_with 1 3 0 2 0)) (0 ∷ 9 ∷ 9 ∷ 0 ∷ [])
    ∷ row (every (pair_with 1 0 3 2 0)) (0 ∷ 9 ∷ 9 ∷ 0 ∷ [])
    ∷ row (every (pair_with 1 0 0 3 0)) (0 ∷ 9 ∷ 9 ∷ 0 ∷ [])
    ∷ row (every (pair_with 1 0 0 2 1)) (0 ∷ 9 ∷ 9 ∷ 0 ∷ [])
    ∷ row (every (pair_in 0)) (8 ∷ 8 ∷ 8 ∷ 8 ∷ [])
    ∷ row (every (pair_in 7)) (8 ∷ 8 ∷ 8 ∷ 8 ∷ [])
    -- The conditions of the step to come: 8 for a single step, stuck for a run; beside each the neighbour in kind.
    -- t(e) not an element when walking: 0 and over n, before a tree and a nontree step.
    ∷ row (tried 1 (four 1 3 0 1 2 3 0 0 0 0 1 (none 4))) (8 ∷ 103 ∷ 0 ∷ [])
    ∷ row (tried 1 (four 1 3 0 1 2 3 0 0 0 3 1 first)) (8 ∷ 103 ∷ 0 ∷ [])
    ∷ row (tried 1 (four 1 3 0 1 2 3 0 0 0 3 1 (replicate 4 9))) (8 ∷ 103 ∷ 0 ∷ [])
    ∷ row (tried 1 (four 1 3 0 1 2 3 0 0 0 2 1 first)) (0 ∷ 102 ∷ 1 ∷ [])
    -- A next label over n at a tree step; at a nontree step it is in kind.
    ∷ row (tried 1 (four 1 3 0 1 3 3 0 0 0 2 1 first)) (8 ∷ 103 ∷ 0 ∷ [])
    ∷ row (tried 1 (four 1 3 0 1 3 3 0 0 0 2 1 both)) (0 ∷ 102 ∷ 1 ∷ [])
    -- A word taken into e neither 0 nor a reference: at a tree step, a nontree step, a retreat.
    ∷ row (tried 1 (four 1 3 0 1 2 3 1 0 0 2 1 first)) (8 ∷ 103 ∷ 0 ∷ [])
    ∷ row (tried 1 (four 1 3 0 1 2 3 5 0 0 2 1 first)) (8 ∷ 103 ∷ 0 ∷ [])
    ∷ row (tried 1 (four 1 3 0 1 2 3 4 0 0 2 1 first)) (0 ∷ 102 ∷ 1 ∷ [])
    ∷ row (tried 1 (four 1 3 0 1 3 3 0 2 0 2 1 both)) (8 ∷ 103 ∷ 0 ∷ [])
    ∷ row (tried 1 (four 1 3 0 1 3 3 0 5 0 2 1 both)) (8 ∷ 103 ∷ 0 ∷ [])
    ∷ row (tried 1 (four 1 3 0 1 3 3 0 4 0 2 1 both)) (0 ∷ 102 ∷ 1 ∷ [])
    ∷ row (tried 1 (four 2 0 1 2 3 3 0 2 0 0 1 both)) (8 ∷ 103 ∷ 0 ∷ [])
    ∷ row (tried 1 (four 2 0 1 2 3 3 0 5 0 0 1 both)) (8 ∷ 103 ∷ 0 ∷ [])
    ∷ row (tried 1 (four 2 0 1 2 3 3 0 4 0 0 1 both)) (0 ∷ 102 ∷ 1 ∷ [])
    -- While rolling back that word is not read.
    ∷ row (tried 1 (four 2 0 1 4 3 3 0 2 0 0 1 both)) (0 ∷ 102 ∷ 1 ∷ [])
    -- A word taken into f over n + m: at a relink, walking and rolling back; at a close, either way.
    ∷ row (tried 1 (four 1 0 3 1 2 3 0 5 0 1 1 first)) (8 ∷ 103 ∷ 0 ∷ [])
    ∷ row (tried 1 (four 1 0 3 4 2 3 0 5 0 1 1 first)) (8 ∷ 103 ∷ 0 ∷ [])
    ∷ row (tried 1 (four 1 0 3 1 2 3 0 4 0 1 1 first)) (0 ∷ 102 ∷ 1 ∷ [])
    ∷ row (tried 1 (four 2 0 1 2 3 3 0 0 0 5 1 both)) (8 ∷ 103 ∷ 0 ∷ [])
    ∷ row (tried 1 (four 2 0 1 4 3 3 0 0 0 5 1 both)) (8 ∷ 103 ∷ 0 ∷ [])
    ∷ row (tried 1 (four 2 0 1 2 3 3 0 0 0 4 1 both)) (0 ∷ 102 ∷ 1 ∷ [])
    ∷ row (tried 1 (four 2 0 1 4 3 3 0 0 0 4 1 both)) (0 ∷ 102 ∷ 1 ∷ [])
    -- In a close with f not 0, a(f) not a reference: 0, an element, over n + m.
    ∷ row (tried 1 (four 2 0 1 2 3 0 0 0 0 0 1 both)) (8 ∷ 103 ∷ 0 ∷ [])
    ∷ row (tried 1 (four 2 0 1 2 3 2 0 0 0 0 1 both)) (8 ∷ 103 ∷ 0 ∷ [])
    ∷ row (tried 1 (four 2 0 1 2 3 5 0 0 0 0 1 both)) (8 ∷ 103 ∷ 0 ∷ [])
    ∷ row (tried 1 (four 2 0 1 4 3 0 0 0 0 0 1 both)) (8 ∷ 103 ∷ 0 ∷ [])
    ∷ row (tried 1 (four 2 0 1 4 3 2 0 0 0 0 1 both)) (8 ∷ 103 ∷ 0 ∷ [])
    ∷ row (tried 1 (four 2 0 1 4 3 5 0 0 0 0 1 both)) (8 ∷ 103 ∷ 0 ∷ [])
    -- In a close with f 0, v not the start: walking, restoring, rolling back.
    ∷ row (tried 1 (four 2 0 0 1 3 3 0 0 0 2 1 both)) (8 ∷ 103 ∷ 0 ∷ [])
    ∷ row (tried 1 (four 2 0 0 2 3 3 0 0 0 2 1 both)) (8 ∷ 103 ∷ 0 ∷ [])
    ∷ row (tried 1 (four 2 0 0 4 3 3 0 0 0 2 1 both)) (8 ∷ 103 ∷ 0 ∷ [])
    ∷ row (tried 1 (four 1 0 0 1 3 3 0 0 0 2 1 both)) (0 ∷ 101 ∷ 1 ∷ [])
    ∷ row (tried 1 (four 1 0 0 4 3 3 0 0 0 2 1 both)) (0 ∷ 101 ∷ 1 ∷ [])
    -- 8 against 9: where no step is to come, no word is judged. Ended before spent, spent before stuck.
    ∷ row (tried 1 (four 2 0 0 3 3 3 0 0 0 2 1 both)) (9 ∷ 101 ∷ 0 ∷ [])
    ∷ row (tried 1 (four 2 0 0 5 3 3 0 0 0 2 1 both)) (9 ∷ 101 ∷ 0 ∷ [])
    ∷ row (tried 1 (four 2 0 0 6 3 3 0 0 0 2 1 both)) (9 ∷ 101 ∷ 0 ∷ [])
    ∷ row (tried 0 (four 2 0 0 3 3 3 0 0 0 2 1 both)) (9 ∷ 101 ∷ 0 ∷ [])
    ∷ row (tried 0 (four 2 0 0 1 3 3 0 0 0 2 1 both)) (8 ∷ 102 ∷ 0 ∷ [])
    -- Judged on the words as the step would read them. t(e) = v, unmarked: a(v) becomes e before it is read into e, whatever it was.
    ∷ row (served (four 1 3 0 1 2 2 0 0 0 1 1 (none 4)) one) (0 ∷ 1 ∷ 2 ∷ 3 ∷ 1 ∷ 1 ∷ 0 ∷ 1 ∷ 1 ∷ 3 ∷ 1 ∷ 1 ∷ 3 ∷ 0 ∷ 3 ∷ 0 ∷ 0 ∷ 0 ∷ 0 ∷ 1 ∷ 32770 ∷ 0 ∷ 0 ∷ 0 ∷ [])
    -- f = v: a(v) becomes e before a(f) is read; at a retreat, and rolling back. With e 0 it is then no reference.
    ∷ row (served (four 1 3 1 2 2 0 0 4 0 0 1 first) one) (0 ∷ 1 ∷ 6 ∷ 0 ∷ 1 ∷ 5 ∷ 3 ∷ 1 ∷ 1 ∷ 4 ∷ 3 ∷ 1 ∷ 2 ∷ 0 ∷ 3 ∷ 0 ∷ 0 ∷ 0 ∷ 1 ∷ 1 ∷ 1 ∷ 0 ∷ 0 ∷ 0 ∷ [])
    ∷ row (served (four 1 3 1 4 2 0 0 0 0 2 1 (32769 ∷ 5 ∷ 6 ∷ 7 ∷ [])) one) (0 ∷ 1 ∷ 1 ∷ 3 ∷ 2 ∷ 4 ∷ 2 ∷ 0 ∷ 3 ∷ 0 ∷ 0 ∷ 0 ∷ 1 ∷ 1 ∷ 32769 ∷ 5 ∷ 6 ∷ 7 ∷ [])
    ∷ row (tried 1 (four 1 0 1 2 2 3 0 4 0 0 1 first)) (8 ∷ 103 ∷ 0 ∷ [])
    ∷ row (tried 1 (four 1 0 1 4 2 3 0 4 0 0 1 first)) (8 ∷ 103 ∷ 0 ∷ [])
    -- What the last step leaves: e, and marks past n. Its scan leaves the mark's remainder; the end of a roll-back leaves 65,535 where it
    -- stood and clears the other marks of elements.
    ∷ row (served (four 1 3 0 2 2 0 0 0 0 1 1 (65535 ∷ 40000 ∷ 5 ∷ 6 ∷ [])) one) (0 ∷ 1 ∷ 6 ∷ 0 ∷ 1 ∷ 1 ∷ 3 ∷ 0 ∷ 3 ∷ 2 ∷ 0 ∷ 3 ∷ 0 ∷ 0 ∷ 0 ∷ 1 ∷ 1 ∷ 32767 ∷ 40000 ∷ 5 ∷ 6 ∷ [])
    ∷ row (served (four 1 3 0 4 2 0 0 0 0 1 1 (65535 ∷ 40000 ∷ 5 ∷ 6 ∷ [])) one) (0 ∷ 1 ∷ 1 ∷ 3 ∷ 0 ∷ 5 ∷ 2 ∷ 0 ∷ 3 ∷ 0 ∷ 0 ∷ 0 ∷ 1 ∷ 1 ∷ 65535 ∷ 0 ∷ 5 ∷ 6 ∷ [])
    -- A relink leads from walking to restoring, and goes on rolling back; marks stay.
    ∷ row (served (four 1 0 3 1 2 3 0 4 0 1 1 (7 ∷ 8 ∷ 9 ∷ 10 ∷ [])) one) (0 ∷ 1 ∷ 1 ∷ 3 ∷ 4 ∷ 2 ∷ 2 ∷ 0 ∷ 3 ∷ 0 ∷ 0 ∷ 0 ∷ 1 ∷ 1 ∷ 7 ∷ 8 ∷ 9 ∷ 10 ∷ [])
    ∷ row (served (four 1 0 3 4 2 3 0 4 0 1 1 (7 ∷ 8 ∷ 9 ∷ 10 ∷ [])) one) (0 ∷ 1 ∷ 1 ∷ 3 ∷ 4 ∷ 4 ∷ 2 ∷ 0 ∷ 3 ∷ 0 ∷ 0 ∷ 0 ∷ 1 ∷ 1 ∷ 7 ∷ 8 ∷ 9 ∷ 10 ∷ [])
    -- Circular is set by a nontree step to a mark of 32,768, and by none below; nor by 65,535.
    ∷ row (served (four 1 3 0 1 2 3 0 0 0 2 1 (32769 ∷ 32768 ∷ 0 ∷ 0 ∷ [])) one) (0 ∷ 1 ∷ 3 ∷ 3 ∷ 1 ∷ 4 ∷ 3 ∷ 1 ∷ 1 ∷ 0 ∷ 3 ∷ 1 ∷ 2 ∷ 1 ∷ 3 ∷ 0 ∷ 0 ∷ 0 ∷ 2 ∷ 1 ∷ 32769 ∷ 32768 ∷ 0 ∷ 0 ∷ [])
    ∷ row (served (four 1 3 0 1 2 3 0 0 0 2 1 (32769 ∷ 32767 ∷ 0 ∷ 0 ∷ [])) one) (0 ∷ 1 ∷ 3 ∷ 3 ∷ 1 ∷ 4 ∷ 3 ∷ 1 ∷ 1 ∷ 0 ∷ 3 ∷ 1 ∷ 2 ∷ 0 ∷ 3 ∷ 0 ∷ 0 ∷ 0 ∷ 2 ∷ 1 ∷ 32769 ∷ 32767 ∷ 0 ∷ 0 ∷ [])
    ∷ row (served (four 1 3 0 1 2 3 0 0 0 2 1 (32769 ∷ 65535 ∷ 0 ∷ 0 ∷ [])) one) (0 ∷ 1 ∷ 3 ∷ 3 ∷ 1 ∷ 4 ∷ 3 ∷ 1 ∷ 1 ∷ 0 ∷ 3 ∷ 1 ∷ 2 ∷ 0 ∷ 3 ∷ 0 ∷ 0 ∷ 0 ∷ 2 ∷ 1 ∷ 32769 ∷ 65535 ∷ 0 ∷ 0 ∷ [])
    ∷ []

-- ---- phases and orders
abbrev pub phases_and_orders : List Row
phases_and_orders =
    -- The phases by their numbers.
    row (walking ∷ restoring ∷ finished ∷ rolling_back ∷ rolled_back ∷ accepted ∷ []) (1 ∷ 2 ∷ 3 ∷ 4 ∷ 5 ∷ 6 ∷ [])
    -- A state in each phase: a run, a single step, a roll-back order, accepting.
    ∷ row (every (pair_in 1)) (0 ∷ 0 ∷ 0 ∷ 10 ∷ [])
    ∷ row (every (pair_in 2)) (0 ∷ 0 ∷ 0 ∷ 10 ∷ [])
    ∷ row (every (pair_in 3)) (0 ∷ 9 ∷ 9 ∷ 0 ∷ [])
    ∷ row (every (pair_in 4)) (0 ∷ 0 ∷ 0 ∷ 10 ∷ [])
    ∷ row (every (pair_in 5)) (0 ∷ 9 ∷ 9 ∷ 9 ∷ [])
    ∷ row (every (pair_in 6)) (0 ∷ 9 ∷ 9 ∷ 9 ∷ [])
    -- An order changes the phase alone; given again, nothing; refused, nothing.
    ∷ row (served (pair_in 1) roll_back) (0 ∷ 0 ∷ 1 ∷ 0 ∷ 0 ∷ 4 ∷ 2 ∷ 0 ∷ 3 ∷ 0 ∷ 0 ∷ 1 ∷ 0 ∷ 0 ∷ 0 ∷ [])
    ∷ row (served (pair_in 2) roll_back) (0 ∷ 0 ∷ 1 ∷ 0 ∷ 0 ∷ 4 ∷ 2 ∷ 0 ∷ 3 ∷ 0 ∷ 0 ∷ 1 ∷ 0 ∷ 0 ∷ 0 ∷ [])
    ∷ row (served (pair_in 4) roll_back) (0 ∷ 0 ∷ 1 ∷ 0 ∷ 0 ∷ 4 ∷ 2 ∷ 0 ∷ 3 ∷ 0 ∷ 0 ∷ 1 ∷ 0 ∷ 0 ∷ 0 ∷ [])
    ∷ row (served (pair_in 3) roll_back) (9 ∷ 0 ∷ 1 ∷ 0 ∷ 0 ∷ 3 ∷ 2 ∷ 0 ∷ 3 ∷ 0 ∷ 0 ∷ 1 ∷ 0 ∷ 0 ∷ 0 ∷ [])
    ∷ row (served (pair_in 5) roll_back) (9 ∷ 0 ∷ 1 ∷ 0 ∷ 0 ∷ 5 ∷ 2 ∷ 0 ∷ 3 ∷ 0 ∷ 0 ∷ 1 ∷ 0 ∷ 0 ∷ 0 ∷ [])
    ∷ row (served (pair_in 6) roll_back) (9 ∷ 0 ∷ 1 ∷ 0 ∷ 0 ∷ 6 ∷ 2 ∷ 0 ∷ 3 ∷ 0 ∷ 0 ∷ 1 ∷ 0 ∷ 0 ∷ 0 ∷ [])
    -- An opening taken; a refused one leaves no state, and the marks as they were.
    ∷ row (opened pair 1) (0 ∷ 0 ∷ 1 ∷ 0 ∷ 1 ∷ 1 ∷ 3 ∷ 0 ∷ 1 ∷ 2 ∷ 0 ∷ 3 ∷ 0 ∷ 0 ∷ 1 ∷ 32769 ∷ 0 ∷ 0 ∷ [])
    ∷ row (opened pair 3) (4 ∷ 0 ∷ 0 ∷ 0 ∷ 0 ∷ 0 ∷ 0 ∷ 0 ∷ 3 ∷ 0 ∷ 0 ∷ 1 ∷ 9 ∷ 9 ∷ 9 ∷ [])
    -- The printed profile: opened, after 3, 4, 5, 10 and 11 steps, by runs and by single steps.
    ∷ row (left printed 1 []) (1 ∷ 4 ∷ 0 ∷ 1 ∷ 2 ∷ 0 ∷ 32769 ∷ 0 ∷ 0 ∷ 0 ∷ 0 ∷ 0 ∷ 0 ∷ [])
    ∷ row (left printed 1 (run_of 3 ∷ [])) (3 ∷ 0 ∷ 7 ∷ 1 ∷ 4 ∷ 1 ∷ 32769 ∷ 32770 ∷ 32771 ∷ 0 ∷ 0 ∷ 0 ∷ 0 ∷ [])
    ∷ row (left printed 1 (run_of 3 ∷ one ∷ [])) (3 ∷ 7 ∷ 2 ∷ 2 ∷ 4 ∷ 1 ∷ 32769 ∷ 32770 ∷ 32771 ∷ 0 ∷ 0 ∷ 0 ∷ 0 ∷ [])
    ∷ row (left printed 1 (run_of 5 ∷ [])) (2 ∷ 0 ∷ 6 ∷ 1 ∷ 4 ∷ 1 ∷ 32769 ∷ 32770 ∷ 3 ∷ 0 ∷ 0 ∷ 0 ∷ 0 ∷ [])
    ∷ row (left printed 1 (run_of 10 ∷ [])) (1 ∷ 4 ∷ 0 ∷ 2 ∷ 4 ∷ 1 ∷ 32769 ∷ 2 ∷ 3 ∷ 0 ∷ 0 ∷ 0 ∷ 0 ∷ [])
    ∷ row (left printed 1 (run_of 10 ∷ one ∷ [])) (1 ∷ 4 ∷ 0 ∷ 3 ∷ 4 ∷ 1 ∷ 1 ∷ 2 ∷ 3 ∷ 0 ∷ 0 ∷ 0 ∷ 0 ∷ [])
    -- Rolled back after 3 steps: ordered, after 1, 2, 3 and 4 more; marks stay until the last. Ordered twice, it is the same.
    ∷ row (left printed 1 (run_of 3 ∷ roll_back ∷ [])) (3 ∷ 0 ∷ 7 ∷ 4 ∷ 4 ∷ 1 ∷ 32769 ∷ 32770 ∷ 32771 ∷ 0 ∷ 0 ∷ 0 ∷ 0 ∷ [])
    ∷ row (left printed 1 (run_of 3 ∷ roll_back ∷ one ∷ [])) (3 ∷ 7 ∷ 2 ∷ 4 ∷ 4 ∷ 1 ∷ 32769 ∷ 32770 ∷ 32771 ∷ 0 ∷ 0 ∷ 0 ∷ 0 ∷ [])
    ∷ row (left printed 1 (run_of 3 ∷ roll_back ∷ one ∷ roll_back ∷ one ∷ [])) (2 ∷ 6 ∷ 1 ∷ 4 ∷ 4 ∷ 1 ∷ 32769 ∷ 32770 ∷ 32771 ∷ 0 ∷ 0 ∷ 0 ∷ 0 ∷ [])
    ∷ row (left printed 1 (run_of 3 ∷ roll_back ∷ run_of 3 ∷ [])) (1 ∷ 4 ∷ 0 ∷ 4 ∷ 4 ∷ 1 ∷ 32769 ∷ 32770 ∷ 32771 ∷ 0 ∷ 0 ∷ 0 ∷ 0 ∷ [])
    ∷ row (left printed 1 (run_of 3 ∷ roll_back ∷ run_of 4 ∷ [])) (1 ∷ 4 ∷ 0 ∷ 5 ∷ 4 ∷ 1 ∷ 0 ∷ 0 ∷ 0 ∷ 0 ∷ 0 ∷ 0 ∷ 0 ∷ [])
    ∷ row (left printed 1 (run_of 11 ∷ roll_back ∷ [])) (1 ∷ 4 ∷ 0 ∷ 3 ∷ 4 ∷ 1 ∷ 1 ∷ 2 ∷ 3 ∷ 0 ∷ 0 ∷ 0 ∷ 0 ∷ [])
    ∷ []
