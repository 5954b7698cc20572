-- What is claimed of texts that are refused, of texts that differ in padding (document 02, item 2) and of the figure that is printed (item 5),
-- as types; proofs/Judged, proofs/Rows, proofs/Padding, proofs/Plain and proofs/Circles have the theorems.
-- `walk_text` promises `report_of`: its number, the bytes that it prints and every lent area, of any text on any areas; `refusal_line` promises
-- `line_number`, `line_bytes` and `line_left`, of any number on any area.
use Rattle.std.specs.Prelude.{◌≡◌, ◌↔◌, false, List, [], ◌∷◌, ◌++◌, reverse, ℕ, suc, ◌≤◌, length, take}
use Rattle.std.proofs.Math.Option.{some}
use Rattle.graphs.specs.Events.{labelled}
use Rattle.graphs.specs.Circles.{Circular}
use Rattle.graphs.specs.Refusals.{text_out}
use Rattle.numbers.specs.Padding.{has_padding, unpad}
use Rattle.texts.specs.Text.{Listing, listing_of, row}
use Rattle.report.specs.Printed.{event_names, total_names, event_rows, moves_of, refusal_printed}
use Rattle.report.specs.Report.{Told, graph_from, walk_from, report_of, telling, line_number}

-- A text that is refused prints nothing, and every area is as it was.
abbrev pub UnchangedClaim : Type 0
UnchangedClaim = (text after tail marks events output : List ℕ) (k : ℕ) → (report_of text after tail marks events output).number ≡ suc k
    → report_of text after tail marks events output ≡ telling (suc k) 0 after tail marks events output

-- Fourteen bytes have room for the line of any number that a call returns.
abbrev pub LineClaim : Type 0
LineClaim = (k : ℕ) (output : List ℕ) → k ≤ 65535 → 14 ≤ length output → line_number k output ≡ 0

-- Two texts get the same number, print the same bytes and leave every area alike, on any areas.
abbrev pub Alike : List ℕ → List ℕ → Type 0
Alike s t = (after tail marks events output : List ℕ) → report_of s after tail marks events output ≡ report_of t after tail marks events output

-- Where both are over 65,536 bytes or none is, two texts of one profile are alike, and so are two texts that differ in padding only, be they in
-- form or not. Where one of these is walked, none is over.
pub record PrintAlikeClaim : Type 0 where
  pub one_profile : (s t : List ℕ) → text_out (length s) ≡ text_out (length t) → listing_of s ≡ listing_of t → Alike s t
  pub padding_only : (s t : List ℕ) → text_out (length s) ≡ text_out (length t) → unpad s ≡ unpad t → Alike s t
  pub where_walked : (s t after tail marks events output : List ℕ) → unpad s ≡ unpad t → (report_of s after tail marks events output).number ≡ 0 → Alike s t

-- The bytes printed.
abbrev pub printed : Told → List ℕ
printed t = take t.bytes t.output

-- They have no padding, of any text on any areas; nor has the line of any refusal.
pub record PlainClaim : Type 0 where
  pub walks : (text after tail marks events output : List ℕ) → has_padding (printed (report_of text after tail marks events output)) ≡ false
  pub refusals : (k : ℕ) → has_padding (refusal_printed k) ≡ false

-- The lines that a walk prints: names, the events, names, then elements reached, moves and the figure. That is 1 exactly where some element
-- reached has a path of one reference or more back to itself, and else 0.
pub record PrintsFigure (p : Listing) (bytes : List ℕ) : Type 0 where
  pub figure : ℕ
  pub lines : bytes ≡ event_names ++ (event_rows (reverse (walk_from p)) ++ (total_names ++ row (length (labelled (walk_from p)) ∷ moves_of (graph_from p) (labelled (walk_from p)) ∷ figure ∷ [])))
  pub circle : (figure ≡ 1) ↔ Circular (graph_from p) [] p.start
  pub bit : figure ≤ 1

-- Of every text that is walked, on any areas.
abbrev pub PrintedFigureClaim : Type 0
PrintedFigureClaim = (text after tail marks events output : List ℕ) (p : Listing) → listing_of text ≡ some p → (report_of text after tail marks events output).number ≡ 0
    → PrintsFigure p (printed (report_of text after tail marks events output))
