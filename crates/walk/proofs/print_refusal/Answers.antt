-- There is room for the line, and what is printed is in its area: `report/proofs/Fits`.
use Rattle.std.proofs.Common.{◌≤◌, ℕ, arith, length, sym, ap, ◌∙◌, replicate, length-take-le}
use Rattle.std.proofs.lemmas.List.{length-replicate}
use Rattle.report.specs.Report.{bytes_in}
use Rattle.report.proofs.Fits.{line-fits, line-taken}
use Rattle.walk.proofs.print_refusal.Goals.{After-unwrap-bytes}
use Rattle.walk.proofs.print_refusal.Goals as goal

pub unwrap-bytes-requires : goal.unwrap-bytes-requires
unwrap-bytes-requires g c = let l = c.refusal_line in line-taken c.number.result (replicate 14 0) l.result l.ensures.number (omega (arith, c.number.type_inv)) (omega (arith, length-replicate {A = ℕ} 14 0))

-- The line is in the area.
fits : (g : _) (c : After-unwrap-bytes g) → c.unwrap-bytes.result ≤ length c.refusal_line.new.output
fits g c = let l = c.refusal_line in line-fits c.number.result _ (replicate 14 0) _ (sym (ap bytes_in c.unwrap-bytes.ensures) ∙ l.ensures.bytes) l.ensures.output

pub slice_bounds-line-end : goal.slice_bounds-line-end
slice_bounds-line-end g c = fits g c

pub slice_bounds-write_all-end : goal.slice_bounds-write_all-end
slice_bounds-write_all-end g c = sym (length-take-le c.unwrap-bytes.result c.refusal_line.new.output (fits g (goal.at.slice_bounds-write_all-end g c).After-unwrap-bytes))
