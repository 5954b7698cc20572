-- What is printed has no padding, of any text on any areas, and of any number.
-- Its lines are names and rows of numbers, and no number is written with padding.
use Rattle.std.proofs.Common.{◌≡◌, refl, sym, ap, ◌∙◌, false, List, [], ◌∷◌, ◌++◌, reverse, append_assoc, append-nil, ℕ, length, drop}
use lib.Seq.{take-append_seam}
use Rattle.graphs.specs.Graph.{Graph}
use Rattle.graphs.specs.Events.{Event, event, code, History}
use Rattle.graphs.specs.Search.{depth_first}
use Rattle.numbers.specs.Padding.{has_padding}
use Rattle.numbers.proofs.Padding.{padding-claim}
use Rattle.texts.specs.Text.{row}
use Rattle.texts.specs.Loading.{Reading, refused, loaded}
use Rattle.texts.proofs.Plain.{names-plain, row_plain}
use Rattle.report.specs.Printed.{event_names, total_names, refused_name, event_rows, totals_of, printed_of, walk_printed, refusal_printed}
use Rattle.report.specs.Report.{graph_from, lent_areas, walk_reading, reported, report_of}
use Rattle.report.specs.Claims.{printed, PlainClaim}

-- ---- lines
events-plain : (es : List Event) (rest : List ℕ) → has_padding (event_rows es ++ rest) ≡ has_padding rest
events-plain [] rest = refl
events-plain (event k r u ∷ es) rest =
    ap has_padding (append_assoc (row (code k ∷ r ∷ u ∷ [])) (event_rows es) rest) ∙ row_plain (code k ∷ r ∷ u ∷ []) (event_rows es ++ rest) ∙ events-plain es rest

last-plain : (xs : List ℕ) → has_padding (row xs) ≡ false
last-plain xs = ap has_padding (sym (append-nil (row xs))) ∙ row_plain xs [] ∙ padding-claim.nothing

-- ---- a walk
history-plain : (G : Graph) (h : History) → has_padding (printed_of G h) ≡ false
history-plain G h =
    names-plain event_names (event_rows (reverse h) ++ (total_names ++ row (totals_of G h))) refl
    ∙ events-plain (reverse h) (total_names ++ row (totals_of G h))
    ∙ names-plain total_names (row (totals_of G h)) refl
    ∙ last-plain (totals_of G h)

walk-plain : (G : Graph) (start : ℕ) → has_padding (walk_printed G start) ≡ false
unfolding walk_printed
walk-plain G start = history-plain G (depth_first G [] start)

-- ---- a refusal
refusal-plain : (k : ℕ) → has_padding (refusal_printed k) ≡ false
unfolding refusal_printed
refusal-plain k = names-plain refused_name (row (k ∷ [])) refl ∙ last-plain (k ∷ [])

-- ---- any text
pub print-plain : PlainClaim
unfolding report_of
print-plain = record { walks = λ text after tail marks events output. go (walk_reading (lent_areas after tail marks events output) text) after tail marks events output; refusals = refusal-plain }
  where
    go : (x : Reading) (after tail marks events output : List ℕ) → has_padding (printed (reported x after tail marks events output)) ≡ false
    go (refused k) after tail marks events output = padding-claim.nothing
    go (loaded p) after tail marks events output =
        let ws = walk_printed (graph_from p) p.start in
        ap has_padding (take-append_seam ws (drop (length ws) output)) ∙ walk-plain (graph_from p) p.start
