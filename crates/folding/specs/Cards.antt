-- The cards P1 to P9 (document 01, "Cards for the proof table") and those of document 02, items 5 and 7, as rows of one table.
use Rattle.std.specs.Prelude.{◌≡◌, List, [], ◌∷◌, reverse, ℕ, ◌+◌, ◌*◌, length, replicate}
use Rattle.graphs.specs.Events.{words, scanned}
use Rattle.graphs.specs.Search.{breadth_first}
use Rattle.graphs.specs.Image.{Image, graph_of}
use Rattle.graphs.specs.Refusals.{image_number}
use Rattle.folding.specs.Calls.{Call, run_for, roll_back, open_number}
use Rattle.folding.specs.Lines.{Line, line_a, line_b, folded}

-- What a card asks.
pub data Question : Type 0 where
  recursive_events folded_events steps marks circular number number_of_open scan_order event_count : Question
  tails_after marks_after roll_back_after : ℕ → Question
  rolling_marks : ℕ → ℕ → Question

-- Our line B, on marks that were not clear.
abbrev line : Image → List ℕ → ℕ → List Call → Line
line g before start cs = line_b folded g before start (replicate (g.n + g.m) 9) (replicate 3 0) cs

abbrev run_of : ℕ → Call
run_of k = run_for k (replicate (6 * k) 0)

-- A run of 2 m + n steps is long enough.
abbrev whole : Image → Call
whole g = run_of (2 * g.m + g.n)

abbrev pub answer_to : Image → List ℕ → ℕ → Question → List ℕ
answer_to g before start recursive_events = words (line_a g before start)
answer_to g before start folded_events = words (line g before start (whole g ∷ [])).events
answer_to g before start steps = (line g before start (whole g ∷ [])).steps ∷ []
answer_to g before start marks = (line g before start (whole g ∷ [])).config.marks
answer_to g before start circular = (line g before start (whole g ∷ [])).config.circular ∷ []
answer_to g before start number = image_number g [] ∷ []
answer_to g before start number_of_open = open_number g before start (replicate (g.n + g.m) 9) (replicate 3 0) ∷ []
answer_to g before start scan_order = reverse (scanned (breadth_first (graph_of g) before start))
answer_to g before start event_count = length (breadth_first (graph_of g) before start) ∷ []
answer_to g before start (tails_after k) = (line g before start (run_of k ∷ [])).config.tail
answer_to g before start (marks_after k) = (line g before start (run_of k ∷ [])).config.marks
answer_to g before start (roll_back_after k) = (line g before start (run_of k ∷ roll_back ∷ whole g ∷ [])).since ∷ []
answer_to g before start (rolling_marks k j) = (line g before start (run_of k ∷ roll_back ∷ run_of j ∷ [])).config.marks

-- A card: an image, the elements on the blank, a start, a question, its answer.
pub data Card : Type 0 where
  card : Image → List ℕ → ℕ → Question → List ℕ → Card

-- The printed profile, one element, one element with a loop, the profile of P8, the example of number 7 with tail 1.
abbrev printed : Image
printed = record { n = 3; m = 4; after = 4 ∷ 6 ∷ 7 ∷ 5 ∷ 0 ∷ 0 ∷ 0 ∷ []; tail = 2 ∷ 3 ∷ 3 ∷ 1 ∷ [] }

abbrev pub lone : Image
lone = record { n = 1; m = 0; after = 0 ∷ []; tail = [] }

abbrev pub loop : Image
loop = record { n = 1; m = 1; after = 2 ∷ 0 ∷ []; tail = 1 ∷ [] }

abbrev apart : Image
apart = record { n = 2; m = 1; after = 3 ∷ 0 ∷ 0 ∷ []; tail = 1 ∷ [] }

abbrev shared : Image
shared = record { n = 2; m = 1; after = 3 ∷ 3 ∷ 0 ∷ []; tail = 1 ∷ [] }

-- References 1 to 2, 1 to 3 and 2 to 3 (document 02, item 5).
abbrev shared_file : Image
shared_file = record { n = 3; m = 3; after = 4 ∷ 6 ∷ 0 ∷ 5 ∷ 0 ∷ 0 ∷ []; tail = 2 ∷ 3 ∷ 3 ∷ [] }

-- The circle of 2 and 3, with no reference from 1; and with a reference from 1 to 2.
abbrev far_circle : Image
far_circle = record { n = 3; m = 2; after = 0 ∷ 4 ∷ 5 ∷ 0 ∷ 0 ∷ []; tail = 3 ∷ 2 ∷ [] }

abbrev pub near_circle : Image
near_circle = record { n = 3; m = 3; after = 4 ∷ 5 ∷ 6 ∷ 0 ∷ 0 ∷ 0 ∷ []; tail = 2 ∷ 3 ∷ 2 ∷ [] }

-- The printed events, three words each.
abbrev events : List ℕ
events = 1 ∷ 0 ∷ 1 ∷ 2 ∷ 4 ∷ 1 ∷ 1 ∷ 0 ∷ 2 ∷ 2 ∷ 6 ∷ 2 ∷ 1 ∷ 0 ∷ 3 ∷ 3 ∷ 7 ∷ 3 ∷ 4 ∷ 7 ∷ 3 ∷ 6 ∷ 0 ∷ 3 ∷ 5 ∷ 6 ∷ 2 ∷ 6 ∷ 0 ∷ 2 ∷ 5 ∷ 4 ∷ 1 ∷ 3 ∷ 5 ∷ 1 ∷ 4 ∷ 5 ∷ 1 ∷ 6 ∷ 0 ∷ 1 ∷ []

-- With element 3 on the blank, two references lead to it, and its own is not met.
abbrev events_off3 : List ℕ
events_off3 = 1 ∷ 0 ∷ 1 ∷ 2 ∷ 4 ∷ 1 ∷ 1 ∷ 0 ∷ 2 ∷ 3 ∷ 6 ∷ 2 ∷ 4 ∷ 6 ∷ 2 ∷ 6 ∷ 0 ∷ 2 ∷ 5 ∷ 4 ∷ 1 ∷ 3 ∷ 5 ∷ 1 ∷ 4 ∷ 5 ∷ 1 ∷ 6 ∷ 0 ∷ 1 ∷ []

-- The table: P1 twice, for either line; P2; P3; P4; P5 in two rows; P6 in two rows; P7; P8; P9. Then item 5: the figure of a shared file
-- is 0, the printed case and a loop have 1, a circle 0 or 1 by whether it is reached; the marks after three steps, at the end, before the
-- last step of a roll-back and after it. Then item 7: the printed profile with 3 and with 2 and 3 on the blank; a circle cut by the blank;
-- lists out of order, with 0, past n, with an element twice, with the start; 17 before 18, 4 and 7 before both.
abbrev pub cards : List Card
cards =
    card printed [] 1 recursive_events events
    ∷ card printed [] 1 folded_events events
    ∷ card printed [] 1 steps (11 ∷ [])
    ∷ card printed [] 1 (tails_after 2) (0 ∷ 3 ∷ 1 ∷ 1 ∷ [])
    ∷ card printed [] 1 (roll_back_after 3) (4 ∷ [])
    ∷ card printed [] 1 scan_order (1 ∷ 2 ∷ 3 ∷ [])
    ∷ card printed [] 1 event_count (10 ∷ [])
    ∷ card lone [] 1 folded_events (1 ∷ 0 ∷ 1 ∷ 6 ∷ 0 ∷ 1 ∷ [])
    ∷ card lone [] 1 steps (1 ∷ [])
    ∷ card loop [] 1 steps (3 ∷ [])
    ∷ card apart [] 1 marks (1 ∷ 0 ∷ 0 ∷ [])
    ∷ card shared [] 1 number (7 ∷ [])
    ∷ card shared_file [] 1 circular (0 ∷ [])
    ∷ card printed [] 1 circular (1 ∷ [])
    ∷ card loop [] 1 circular (1 ∷ [])
    ∷ card far_circle [] 1 circular (0 ∷ [])
    ∷ card near_circle [] 1 circular (1 ∷ [])
    ∷ card shared_file [] 1 (marks_after 3) (32769 ∷ 32770 ∷ 3 ∷ 0 ∷ 0 ∷ 0 ∷ [])
    ∷ card shared_file [] 1 marks (1 ∷ 2 ∷ 3 ∷ 0 ∷ 0 ∷ 0 ∷ [])
    ∷ card shared_file [] 1 (rolling_marks 3 2) (32769 ∷ 32770 ∷ 3 ∷ 0 ∷ 0 ∷ 0 ∷ [])
    ∷ card shared_file [] 1 (rolling_marks 3 3) (0 ∷ 0 ∷ 0 ∷ 0 ∷ 0 ∷ 0 ∷ [])
    ∷ card printed (3 ∷ []) 1 folded_events events_off3
    ∷ card printed (3 ∷ []) 1 recursive_events events_off3
    ∷ card printed (3 ∷ []) 1 steps (8 ∷ [])
    ∷ card printed (3 ∷ []) 1 circular (0 ∷ [])
    ∷ card printed (3 ∷ []) 1 (marks_after 0) (32769 ∷ 0 ∷ 65535 ∷ 0 ∷ 0 ∷ 0 ∷ 0 ∷ [])
    ∷ card printed (3 ∷ []) 1 marks (1 ∷ 2 ∷ 65535 ∷ 0 ∷ 0 ∷ 0 ∷ 0 ∷ [])
    ∷ card printed (3 ∷ []) 1 (rolling_marks 3 9) (0 ∷ 0 ∷ 65535 ∷ 0 ∷ 0 ∷ 0 ∷ 0 ∷ [])
    ∷ card printed (3 ∷ []) 1 scan_order (1 ∷ 2 ∷ [])
    ∷ card printed (3 ∷ []) 1 event_count (7 ∷ [])
    ∷ card printed (2 ∷ 3 ∷ []) 1 steps (5 ∷ [])
    ∷ card near_circle (3 ∷ []) 1 circular (0 ∷ [])
    ∷ card printed (0 ∷ []) 1 number_of_open (17 ∷ [])
    ∷ card printed (2 ∷ 4 ∷ []) 1 number_of_open (17 ∷ [])
    ∷ card printed (2 ∷ 2 ∷ []) 1 number_of_open (17 ∷ [])
    ∷ card printed (3 ∷ 2 ∷ []) 1 number_of_open (17 ∷ [])
    ∷ card printed (2 ∷ 1 ∷ []) 1 number_of_open (17 ∷ [])
    ∷ card printed (1 ∷ 3 ∷ []) 1 number_of_open (18 ∷ [])
    ∷ card lone (1 ∷ []) 1 number_of_open (18 ∷ [])
    ∷ card printed (4 ∷ []) 4 number_of_open (4 ∷ [])
    ∷ card shared (0 ∷ []) 1 number_of_open (7 ∷ [])
    ∷ []

-- Every card has its answer.
abbrev pub Answered : List Card → Type 0
Answered [] = Unit {0}
Answered (card g before start q a ∷ cs) = (answer_to g before start q ≡ a) × Answered cs
