-- The numbers of a text (document 01, "Turned back"), as rows of one table: the examples of 4, 6, 12 and 13, and two faults at once for the
-- order.
use Rattle.std.specs.Prelude.{List, [], ◌∷◌, ◌++◌, ℕ, replicate}
use Rattle.lists.specs.Rows.{Row, row}
use Rattle.texts.specs.Text.{Listing, element_names, line_names}
use Rattle.texts.specs.Loading.{Reading, refused, loaded, reading, listing_number}

-- The number of a refusal; 0 where the text is loaded.
abbrev number_of : Reading → ℕ
number_of (refused k) = k
number_of (loaded p) = 0

abbrev zeros : ℕ → List ℕ
zeros k = replicate k 0

-- The number of a text, or of what a text says, with so many after words and tail words lent.
abbrev text : List ℕ → ℕ → ℕ → List ℕ
text t k j = number_of (reading t (zeros k) (zeros j)) ∷ []

abbrev listing : Listing → ℕ → ℕ → List ℕ
listing p k j = listing_number p (zeros k) (zeros j) ∷ []

-- One value line.
abbrev one : (n m start from to : ℕ) → Listing
one n m start from to = record { n = n; m = m; start = start; lines = record { from = from; to = to } ∷ [] }

-- The lines `1,0,1` and `0,0,1`, and `from;to`.
abbrev values : List ℕ
values = 49 ∷ 44 ∷ 48 ∷ 44 ∷ 49 ∷ 10 ∷ []

abbrev no_element : List ℕ
no_element = 48 ∷ 44 ∷ 48 ∷ 44 ∷ 49 ∷ 10 ∷ []

abbrev semicolon : List ℕ
semicolon = 102 ∷ 114 ∷ 111 ∷ 109 ∷ 59 ∷ 116 ∷ 111 ∷ 10 ∷ []

abbrev pub numbers : List Row
numbers =
    -- Over 65,536 bytes, and not in its form.
    row (text (zeros 65537) 0 0) (13 ∷ [])
    -- `from;to`, with no word lent; the same text in its form, with no word and with one.
    ∷ row (text (element_names ++ (values ++ semicolon)) 0 0) (12 ∷ [])
    ∷ row (text (element_names ++ (values ++ line_names)) 0 0) (3 ∷ [])
    ∷ row (text (element_names ++ (values ++ line_names)) 1 0) (0 ∷ [])
    -- 12 and 1; 1 alone.
    ∷ row (text (element_names ++ (no_element ++ semicolon)) 0 0) (12 ∷ [])
    ∷ row (text (element_names ++ (no_element ++ line_names)) 0 0) (1 ∷ [])
    -- 1 and 2; 2 and 3; 3 and 4, of either area; 4; 4 and 6; 6 for a from and for a to; none.
    ∷ row (listing (one 0 4001 1 1 1) 0 0) (1 ∷ [])
    ∷ row (listing (one 2 4001 1 1 1) 0 0) (2 ∷ [])
    ∷ row (listing (one 2 1 3 1 1) 2 1) (3 ∷ [])
    ∷ row (listing (one 2 1 3 1 1) 3 0) (3 ∷ [])
    ∷ row (listing (one 2 1 3 1 1) 3 1) (4 ∷ [])
    ∷ row (listing (one 2 1 3 1 3) 3 1) (4 ∷ [])
    ∷ row (listing (one 2 1 1 0 1) 3 1) (6 ∷ [])
    ∷ row (listing (one 2 1 1 1 3) 3 1) (6 ∷ [])
    ∷ row (listing (one 2 1 1 1 2) 3 1) (0 ∷ [])
    ∷ []
