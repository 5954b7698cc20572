-- The bytes that `walk` prints (document 01, "Text and program"), for a graph and a start, and for a number.
use Rattle.std.specs.Prelude.{List, [], ◌∷◌, ◌++◌, reverse, ℕ, ◌+◌, ◌*◌, length}
use Rattle.graphs.specs.Graph.{Graph, met}
use Rattle.graphs.specs.Events.{Event, event, code, History, labelled}
use Rattle.graphs.specs.Search.{depth_first}
use Rattle.graphs.specs.Circles.{circular_of}
use Rattle.texts.specs.Text.{comma, line_feed, row}

-- The line of names `event,reference,element`.
abbrev pub event_names : List ℕ
event_names =
    101 ∷ 118 ∷ 101 ∷ 110 ∷ 116 ∷ comma ∷ 114 ∷ 101 ∷ 102 ∷ 101 ∷ 114 ∷ 101 ∷ 110 ∷ 99 ∷ 101 ∷ comma
    ∷ 101 ∷ 108 ∷ 101 ∷ 109 ∷ 101 ∷ 110 ∷ 116 ∷ line_feed ∷ []

-- The line of names `elements,moves,circular`.
abbrev pub total_names : List ℕ
total_names =
    101 ∷ 108 ∷ 101 ∷ 109 ∷ 101 ∷ 110 ∷ 116 ∷ 115 ∷ comma ∷ 109 ∷ 111 ∷ 118 ∷ 101 ∷ 115 ∷ comma
    ∷ 99 ∷ 105 ∷ 114 ∷ 99 ∷ 117 ∷ 108 ∷ 97 ∷ 114 ∷ line_feed ∷ []

-- The bytes `refused,`.
abbrev pub refused_name : List ℕ
refused_name = 114 ∷ 101 ∷ 102 ∷ 117 ∷ 115 ∷ 101 ∷ 100 ∷ comma ∷ []

-- A line for each event, in order: kind, reference, element.
abbrev pub event_rows : List Event → List ℕ
event_rows [] = []
event_rows (event k r u ∷ es) = row (code k ∷ r ∷ u ∷ []) ++ event_rows es

-- The moves of a folded walk that ends: twice the references met plus the elements reached (demand 3).
abbrev pub moves_of : Graph → List ℕ → ℕ
moves_of G vs = 2 * met G vs + length vs

-- The events, then elements reached, moves and circular.
abbrev pub totals_of : Graph → History → List ℕ
totals_of G h = length (labelled h) ∷ moves_of G (labelled h) ∷ circular_of G h ∷ []

abbrev pub printed_of : Graph → History → List ℕ
printed_of G h = event_names ++ (event_rows (reverse h) ++ (total_names ++ row (totals_of G h)))

-- What is printed of a walk: that of the depth-first search.
unfoldable pub walk_printed : Graph → ℕ → List ℕ
walk_printed G start = printed_of G (depth_first G [] start)

-- What is printed of a refusal: one line.
unfoldable pub refusal_printed : ℕ → List ℕ
refusal_printed k = refused_name ++ row (k ∷ [])
