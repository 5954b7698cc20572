-- The figure that is printed of a text.
-- What is printed is that of the depth-first search, whose figure is the one by paths.
use Rattle.std.proofs.Common.{◌≡◌, sym, ap, ◌∙◌, List, [], ℕ, length, take, drop}
use mathlib.Core.Option.{Option, none, some}
use lib.Seq.{take-append_seam}
use Rattle.lists.specs.Words.{overlay}
use Rattle.graphs.specs.Claims.{Ready}
use Rattle.graphs.specs.Circles.{circular_of}
use Rattle.graphs.proofs.Circles.{circular}
use Rattle.texts.specs.Text.{Listing}
use Rattle.report.specs.Printed.{walk_printed}
use Rattle.report.specs.Report.{graph_from, walk_from, lent_areas, walk_reading, report_of}
use Rattle.report.specs.Claims.{PrintsFigure, PrintedFigureClaim}
use Rattle.report.proofs.Judged.{long-areas, reading-long}
use Rattle.report.proofs.Graphs.{search-ready}
use Rattle.report.proofs.Padding.{taken, number-told}

-- The profile of a text that says one.
abbrev said : Listing → Option Listing → Listing
said p none = p
said p (some q) = q

-- ---- a profile that is walked
figure-printed : (p : Listing) (output : List ℕ) → Ready (graph_from p) [] p.start
    → PrintsFigure p (take (length (walk_printed (graph_from p) p.start)) (overlay (walk_printed (graph_from p) p.start) output))
unfolding walk_printed
figure-printed p output R =
    let ws = walk_printed (graph_from p) p.start in
    let c = circular (graph_from p) [] p.start R in
    record { figure = circular_of (graph_from p) (walk_from p); lines = take-append_seam ws (drop (length ws) output); circle = c.0; bit = c.1 }

pub printed-figure : PrintedFigureClaim
unfolding report_of
printed-figure text after tail marks events output p o e =
    let areas = lent_areas after tail marks events output in
    let w = taken areas text (sym (number-told (walk_reading areas text) after tail marks events output) ∙ e) in
    let B = long-areas after tail marks events output w.long in
    let same : w.listing ≡ p = ap (said p) (sym w.says ∙ o) in
    let R = search-ready text after tail marks events w.listing (reading-long text after tail marks events output w.long ∙ w.is) B.marks-long B.events-long in
    rw (w.is, same) (figure-printed p output (rw same at R))
