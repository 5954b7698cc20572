-- What is printed is in the output area: `report/proofs/Fits`.
use Rattle.std.proofs.Common.{sym, length-take-le}
use Rattle.report.proofs.Fits.{printed-fits}
use Rattle.walk.proofs.print_walk.Goals as goal

pub slice_bounds-output-end : goal.slice_bounds-output-end
slice_bounds-output-end g c = printed-fits _ _ _ _ _ _ c.in-Ok.ensures

pub slice_bounds-write_all-end : goal.slice_bounds-write_all-end
slice_bounds-write_all-end g c = sym (length-take-le c.in-Ok.bytes c.walk_text-printed.new.output (printed-fits _ _ _ _ _ _ c.in-Ok.ensures))
