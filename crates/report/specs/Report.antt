-- From the bytes of a profile's text to the bytes that `walk` prints: when the text is refused, and what is left in the lent areas.
use Rattle.std.specs.Prelude.{cond, List, [], ◌∷◌, ◌++◌, ℕ, suc, ◌+◌, length, Result, Ok, Err}
use Rattle.std.proofs.Math.Option.{Option, none, some}
use Rattle.lists.specs.Words.{at, overlay}
use Rattle.graphs.specs.Graph.{Graph}
use Rattle.graphs.specs.Events.{History}
use Rattle.graphs.specs.Search.{depth_first}
use Rattle.graphs.specs.Refusals.{refuse, first_of, unless_refused, Lent, lent, short, size_refusals, vertex_out, text_out}
use Rattle.graphs.specs.Results.{marks_left, events_left}
use Rattle.texts.specs.Text.{Listing, listing_of}
use Rattle.texts.specs.Loading.{Reading, refused, loaded, decided, edges_from, after_of, tail_of, lines_out}
use Rattle.refusals.specs.declared.Refusal.{Refusal}
use Rattle.refusals.specs.Numbers.{number_in}
use Rattle.report.specs.Printed.{walk_printed, refusal_printed}

-- The graph that a text says: the list of u has the edges of the value lines from u, in line order; the k-th value line is edge n + k, which
-- leads to the line's to.
abbrev pub graph_from : Listing → Graph
graph_from p = record { size = p.n; out = λ u. edges_from u (suc p.n) p.lines; to = λ r. at p.n (tail_of p) r }

-- The events of its depth-first search.
abbrev pub walk_from : Listing → History
walk_from p = depth_first (graph_from p) [] p.start

-- ---- refusals
-- What the call is lent: links and marks of the largest profile, 3 event words for the opening and 6 for each of 9,000 moves, and 18 bytes for
-- each of 10,000 events with 66 for the other lines.
abbrev pub lent_areas : (after tail marks events output : List ℕ) → List Lent
lent_areas after tail marks events output = lent 5000 after ∷ lent 4000 tail ∷ lent 5000 marks ∷ lent 54003 events ∷ lent 180066 output ∷ []

-- A text in its form is refused by 1, 2, 3, 4, 6, in this order.
abbrev pub report_number : List Lent → Listing → ℕ
report_number areas p = first_of (size_refusals p.n p.m areas ++ refuse 4 (vertex_out p.n p.start) ∷ refuse 6 (lines_out p.n p.lines) ∷ [])

abbrev pub judged_with : List Lent → Option Listing → Reading
judged_with areas none = refused 12
judged_with areas (some p) = decided (report_number areas p) p

-- What becomes of a text: 13 first, then 12, then the others.
unfoldable pub walk_reading : List Lent → List ℕ → Reading
walk_reading areas text = cond (text_out (length text)) (refused 13) (judged_with areas (listing_of text))

-- ---- what is printed, and what is left
-- The number of a refusal, 0 where the text is walked; how many bytes are printed; the output area; the links, the marks and the event area.
pub record Told : Type 0 where
  pub number : ℕ
  pub bytes : ℕ
  pub output : List ℕ
  pub after : List ℕ
  pub tail : List ℕ
  pub marks : List ℕ
  pub events : List ℕ

-- A text that is refused prints nothing and changes nothing. A profile is walked: what is printed is that of its depth-first search, the links
-- are as loaded, and marks and event area are what a walk leaves.
abbrev pub reported : Reading → (after tail marks events output : List ℕ) → Told
reported (refused k) after tail marks events output =
    record { number = k; bytes = 0; output = output; after = after; tail = tail; marks = marks; events = events }
reported (loaded p) after tail marks events output =
    record { number = 0; bytes = length (walk_printed (graph_from p) p.start); output = overlay (walk_printed (graph_from p) p.start) output; after = overlay (after_of p) after; tail = overlay (tail_of p) tail; marks = marks_left (p.n + p.m) [] (walk_from p) marks; events = events_left (walk_from p) events }

-- What the call makes of any text, on any areas.
unfoldable pub report_of : (text after tail marks events output : List ℕ) → Told
report_of text after tail marks events output = reported (walk_reading (lent_areas after tail marks events output) text) after tail marks events output

-- How many bytes the code prints: none where it is refused.
abbrev pub bytes_in : Result ℕ Refusal → ℕ
bytes_in (Ok k) = k
bytes_in (Err r) = 0

-- What is seen of a number and of how many bytes are printed, with the areas as a call leaves them.
abbrev pub telling : (number bytes : ℕ) → (after tail marks events output : List ℕ) → Told
telling number bytes after tail marks events output = record { number = number; bytes = bytes; output = output; after = after; tail = tail; marks = marks; events = events }

-- What is seen of the code's answer.
abbrev pub told : Result ℕ Refusal → (after tail marks events output : List ℕ) → Told
told r after tail marks events output = telling (number_in r) (bytes_in r) after tail marks events output

-- ---- the line of a refusal
-- The number of the call that prints the line of number k: 3 where the area is shorter than the line.
abbrev pub line_number : ℕ → List ℕ → ℕ
line_number k output = first_of (refuse 3 (short (lent (length (refusal_printed k)) output ∷ [])) ∷ [])

-- How many bytes it prints: those of the line, or none where it is refused.
abbrev pub line_bytes : ℕ → List ℕ → ℕ
line_bytes k output = length (unless_refused (line_number k output) (refusal_printed k) [])

-- The area that it leaves: the line in front, or as it was where it is refused.
abbrev pub line_left : ℕ → List ℕ → List ℕ
line_left k output = unless_refused (line_number k output) (overlay (refusal_printed k) output) output

-- ---- inside
abbrev pub number_to : Reading → ℕ
number_to (refused k) = k
number_to (loaded p) = 0
