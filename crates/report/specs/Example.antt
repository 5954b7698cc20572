-- The examples that document 01 prints and that of document 02, item 5, byte for byte: a profile's text, and what `walk` prints for it.
use Rattle.std.specs.Prelude.{◌≡◌, List, [], ◌∷◌, ◌++◌, ℕ, replicate}
use Rattle.std.proofs.Math.Option.{some}
use Rattle.lists.specs.Rows.{Row, row, AllAnswered}
use Rattle.graphs.specs.Refusals.{Lent, lent}
use Rattle.numbers.specs.Padding.{unpad}
use Rattle.texts.specs.Text.{Line, Listing, listing_of, element_names, line_names}
use Rattle.report.specs.Printed.{walk_printed, refusal_printed}
use Rattle.report.specs.Report.{graph_from, report_number, walk_reading, number_to}

abbrev pub example_text : List ℕ
example_text =
    101 ∷ 108 ∷ 101 ∷ 109 ∷ 101 ∷ 110 ∷ 116 ∷ 115 ∷ 44 ∷ 114 ∷ 101 ∷ 102 ∷ 101 ∷ 114 ∷ 101 ∷ 110 ∷ 99 ∷ 101 ∷ 115 ∷ 44 ∷ 115 ∷ 116 ∷ 97 ∷ 114 ∷ 116 ∷ 10
    ∷ 51 ∷ 44 ∷ 52 ∷ 44 ∷ 49 ∷ 10
    ∷ 102 ∷ 114 ∷ 111 ∷ 109 ∷ 44 ∷ 116 ∷ 111 ∷ 10
    ∷ 49 ∷ 44 ∷ 50 ∷ 10
    ∷ 49 ∷ 44 ∷ 51 ∷ 10
    ∷ 50 ∷ 44 ∷ 51 ∷ 10
    ∷ 51 ∷ 44 ∷ 49 ∷ 10 ∷ []

-- The same text with every number padded to five digits.
abbrev pub padded_text : List ℕ
padded_text =
    101 ∷ 108 ∷ 101 ∷ 109 ∷ 101 ∷ 110 ∷ 116 ∷ 115 ∷ 44 ∷ 114 ∷ 101 ∷ 102 ∷ 101 ∷ 114 ∷ 101 ∷ 110 ∷ 99 ∷ 101 ∷ 115 ∷ 44 ∷ 115 ∷ 116 ∷ 97 ∷ 114 ∷ 116 ∷ 10
    ∷ 48 ∷ 48 ∷ 48 ∷ 48 ∷ 51 ∷ 44 ∷ 48 ∷ 48 ∷ 48 ∷ 48 ∷ 52 ∷ 44 ∷ 48 ∷ 48 ∷ 48 ∷ 48 ∷ 49 ∷ 10
    ∷ 102 ∷ 114 ∷ 111 ∷ 109 ∷ 44 ∷ 116 ∷ 111 ∷ 10
    ∷ 48 ∷ 48 ∷ 48 ∷ 48 ∷ 49 ∷ 44 ∷ 48 ∷ 48 ∷ 48 ∷ 48 ∷ 50 ∷ 10
    ∷ 48 ∷ 48 ∷ 48 ∷ 48 ∷ 49 ∷ 44 ∷ 48 ∷ 48 ∷ 48 ∷ 48 ∷ 51 ∷ 10
    ∷ 48 ∷ 48 ∷ 48 ∷ 48 ∷ 50 ∷ 44 ∷ 48 ∷ 48 ∷ 48 ∷ 48 ∷ 51 ∷ 10
    ∷ 48 ∷ 48 ∷ 48 ∷ 48 ∷ 51 ∷ 44 ∷ 48 ∷ 48 ∷ 48 ∷ 48 ∷ 49 ∷ 10 ∷ []

abbrev pub example_printed : List ℕ
example_printed =
    101 ∷ 118 ∷ 101 ∷ 110 ∷ 116 ∷ 44 ∷ 114 ∷ 101 ∷ 102 ∷ 101 ∷ 114 ∷ 101 ∷ 110 ∷ 99 ∷ 101 ∷ 44 ∷ 101 ∷ 108 ∷ 101 ∷ 109 ∷ 101 ∷ 110 ∷ 116 ∷ 10
    ∷ 49 ∷ 44 ∷ 48 ∷ 44 ∷ 49 ∷ 10
    ∷ 50 ∷ 44 ∷ 52 ∷ 44 ∷ 49 ∷ 10
    ∷ 49 ∷ 44 ∷ 48 ∷ 44 ∷ 50 ∷ 10
    ∷ 50 ∷ 44 ∷ 54 ∷ 44 ∷ 50 ∷ 10
    ∷ 49 ∷ 44 ∷ 48 ∷ 44 ∷ 51 ∷ 10
    ∷ 51 ∷ 44 ∷ 55 ∷ 44 ∷ 51 ∷ 10
    ∷ 52 ∷ 44 ∷ 55 ∷ 44 ∷ 51 ∷ 10
    ∷ 54 ∷ 44 ∷ 48 ∷ 44 ∷ 51 ∷ 10
    ∷ 53 ∷ 44 ∷ 54 ∷ 44 ∷ 50 ∷ 10
    ∷ 54 ∷ 44 ∷ 48 ∷ 44 ∷ 50 ∷ 10
    ∷ 53 ∷ 44 ∷ 52 ∷ 44 ∷ 49 ∷ 10
    ∷ 51 ∷ 44 ∷ 53 ∷ 44 ∷ 49 ∷ 10
    ∷ 52 ∷ 44 ∷ 53 ∷ 44 ∷ 49 ∷ 10
    ∷ 54 ∷ 44 ∷ 48 ∷ 44 ∷ 49 ∷ 10
    ∷ 101 ∷ 108 ∷ 101 ∷ 109 ∷ 101 ∷ 110 ∷ 116 ∷ 115 ∷ 44 ∷ 109 ∷ 111 ∷ 118 ∷ 101 ∷ 115 ∷ 44 ∷ 99 ∷ 105 ∷ 114 ∷ 99 ∷ 117 ∷ 108 ∷ 97 ∷ 114 ∷ 10
    ∷ 51 ∷ 44 ∷ 49 ∷ 49 ∷ 44 ∷ 49 ∷ 10 ∷ []

abbrev pub line : ℕ → ℕ → Line
line from to = record { from = from; to = to }

-- What the text says: 3 elements, 4 references, start 1.
abbrev pub example : Listing
example = record { n = 3; m = 4; start = 1; lines = line 1 2 ∷ line 1 3 ∷ line 2 3 ∷ line 3 1 ∷ [] }

-- `refused,6` and a line feed.
abbrev pub refused_six : List ℕ
refused_six = 114 ∷ 101 ∷ 102 ∷ 117 ∷ 115 ∷ 101 ∷ 100 ∷ 44 ∷ 54 ∷ 10 ∷ []

-- One value line, `1,2`, with these sizes and this start; the text that says it of one element (6), with this digit for the start; a text that
-- says no element, with `from;to` for its names (12).
abbrev listing : (n m start : ℕ) → Listing
listing n m start = record { n = n; m = m; start = start; lines = line 1 2 ∷ [] }

abbrev text : ℕ → List ℕ
text digit = element_names ++ (49 ∷ 44 ∷ 49 ∷ 44 ∷ digit ∷ 10 ∷ []) ++ line_names ++ (49 ∷ 44 ∷ 50 ∷ 10 ∷ [])

abbrev no_text : List ℕ
no_text = element_names ++ (48 ∷ 44 ∷ 48 ∷ 44 ∷ 49 ∷ 10 ∷ 102 ∷ 114 ∷ 111 ∷ 109 ∷ 59 ∷ 116 ∷ 111 ∷ 10 ∷ [])

-- An area that is short by a word (3).
abbrev short : List Lent
short = lent 1 [] ∷ []

-- The number of what a text says, and of a text.
abbrev said : List Lent → Listing → List ℕ
said areas p = report_number areas p ∷ []

abbrev walked : List Lent → List ℕ → List ℕ
walked areas t = number_to (walk_reading areas t) ∷ []

-- Of two faults the number that is said: 13 and 12, 12 and 1, 1 and 2, 2 and 3, 3 and 4, 4 and 6; each alone but 1 and 2.
abbrev pub ordered : List Row
ordered =
    row (walked short (replicate 65537 0)) (13 ∷ [])
    ∷ row (walked short no_text) (12 ∷ [])
    ∷ row (said short (listing 0 4001 1)) (1 ∷ [])
    ∷ row (said short (listing 2 4001 1)) (2 ∷ [])
    ∷ row (said short (listing 1 1 2)) (3 ∷ [])
    ∷ row (said [] (listing 1 1 2)) (4 ∷ [])
    ∷ row (said [] (listing 1 1 1)) (6 ∷ [])
    ∷ row (said [] (listing 2 1 1)) (0 ∷ [])
    ∷ row (walked short (text 50)) (3 ∷ [])
    ∷ row (walked [] (text 50)) (4 ∷ [])
    ∷ row (walked [] (text 49)) (6 ∷ [])
    ∷ []

-- Either text says it, and this is printed of it. Without padding they are one text. The line of a refusal; the numbers in their order.
pub record ExampleClaim : Type 0 where
  pub says : listing_of example_text ≡ some example
  pub padded_says : listing_of padded_text ≡ some example
  pub one_text : unpad padded_text ≡ example_text
  pub prints : walk_printed (graph_from example) example.start ≡ example_printed
  pub refuses : refusal_printed 6 ≡ refused_six
  pub in_order : AllAnswered ordered

-- ---- a shared file: references 1 to 2, 1 to 3 and 2 to 3, started at 1 (document 02, item 5)
abbrev pub shared_text : List ℕ
shared_text =
    101 ∷ 108 ∷ 101 ∷ 109 ∷ 101 ∷ 110 ∷ 116 ∷ 115 ∷ 44 ∷ 114 ∷ 101 ∷ 102 ∷ 101 ∷ 114 ∷ 101 ∷ 110 ∷ 99 ∷ 101 ∷ 115 ∷ 44 ∷ 115 ∷ 116 ∷ 97 ∷ 114 ∷ 116 ∷ 10
    ∷ 51 ∷ 44 ∷ 51 ∷ 44 ∷ 49 ∷ 10
    ∷ 102 ∷ 114 ∷ 111 ∷ 109 ∷ 44 ∷ 116 ∷ 111 ∷ 10
    ∷ 49 ∷ 44 ∷ 50 ∷ 10
    ∷ 49 ∷ 44 ∷ 51 ∷ 10
    ∷ 50 ∷ 44 ∷ 51 ∷ 10 ∷ []

abbrev pub shared_printed : List ℕ
shared_printed =
    101 ∷ 118 ∷ 101 ∷ 110 ∷ 116 ∷ 44 ∷ 114 ∷ 101 ∷ 102 ∷ 101 ∷ 114 ∷ 101 ∷ 110 ∷ 99 ∷ 101 ∷ 44 ∷ 101 ∷ 108 ∷ 101 ∷ 109 ∷ 101 ∷ 110 ∷ 116 ∷ 10
    ∷ 49 ∷ 44 ∷ 48 ∷ 44 ∷ 49 ∷ 10
    ∷ 50 ∷ 44 ∷ 52 ∷ 44 ∷ 49 ∷ 10
    ∷ 49 ∷ 44 ∷ 48 ∷ 44 ∷ 50 ∷ 10
    ∷ 50 ∷ 44 ∷ 54 ∷ 44 ∷ 50 ∷ 10
    ∷ 49 ∷ 44 ∷ 48 ∷ 44 ∷ 51 ∷ 10
    ∷ 54 ∷ 44 ∷ 48 ∷ 44 ∷ 51 ∷ 10
    ∷ 53 ∷ 44 ∷ 54 ∷ 44 ∷ 50 ∷ 10
    ∷ 54 ∷ 44 ∷ 48 ∷ 44 ∷ 50 ∷ 10
    ∷ 53 ∷ 44 ∷ 52 ∷ 44 ∷ 49 ∷ 10
    ∷ 51 ∷ 44 ∷ 53 ∷ 44 ∷ 49 ∷ 10
    ∷ 52 ∷ 44 ∷ 53 ∷ 44 ∷ 49 ∷ 10
    ∷ 54 ∷ 44 ∷ 48 ∷ 44 ∷ 49 ∷ 10
    ∷ 101 ∷ 108 ∷ 101 ∷ 109 ∷ 101 ∷ 110 ∷ 116 ∷ 115 ∷ 44 ∷ 109 ∷ 111 ∷ 118 ∷ 101 ∷ 115 ∷ 44 ∷ 99 ∷ 105 ∷ 114 ∷ 99 ∷ 117 ∷ 108 ∷ 97 ∷ 114 ∷ 10
    ∷ 51 ∷ 44 ∷ 57 ∷ 44 ∷ 48 ∷ 10 ∷ []

abbrev pub shared : Listing
shared = record { n = 3; m = 3; start = 1; lines = line 1 2 ∷ line 1 3 ∷ line 2 3 ∷ [] }

-- Its figure is 0.
pub record SharedFileClaim : Type 0 where
  pub says : listing_of shared_text ≡ some shared
  pub prints : walk_printed (graph_from shared) shared.start ≡ shared_printed
