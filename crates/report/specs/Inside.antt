-- What the walk and its printing ask of each other.
use Rattle.std.specs.Prelude.{◌≡◌, List, [], ◌∷◌, ◌++◌, ℕ, ◌*◌, ◌≤◌, length, take}
use Rattle.graphs.specs.Events.{labelled}
use Rattle.graphs.specs.Circles.{circular_of}
use Rattle.graphs.specs.Image.{Image, graph_of}
use Rattle.walks.specs.Promises.{depth_walk}
use Rattle.folding.specs.Calls.{open_number}
use Rattle.texts.specs.Text.{row}
use Rattle.report.specs.declared.walk.Totals.{Totals}
use Rattle.report.specs.Printed.{event_names, total_names, moves_of}

-- A line for each event, from its words.
abbrev pub rows : List ℕ → List ℕ
rows (k ∷ r ∷ u ∷ ws) = row (k ∷ r ∷ u ∷ []) ++ rows ws
rows (k ∷ r ∷ []) = []
rows (k ∷ []) = []
rows [] = []

-- What is printed, from the event words and the totals.
abbrev pub printed_from : List ℕ → Totals → List ℕ
printed_from events t = event_names ++ (rows (take (3 * t.events) events) ++ (total_names ++ row (t.elements ∷ t.moves ∷ t.circular ∷ [])))

-- The totals of the walk of an image.
abbrev pub totals_in : Image → ℕ → Totals
totals_in g start = record { events = length (depth_walk g [] start); elements = length (labelled (depth_walk g [] start)); moves = moves_of (graph_of g) (labelled (depth_walk g [] start)); circular = circular_of (graph_of g) (depth_walk g [] start) }

-- An image that can be walked from start with these areas.
pub record CanWalk (g : Image) (start : ℕ) (marks events : List ℕ) : Type 0 where
  pub opens : open_number g [] start marks events ≡ 0
  pub long : 54003 ≤ length events
