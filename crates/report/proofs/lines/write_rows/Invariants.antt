use Rattle.std.proofs.Common.{◌≡◌, ◌*◌, length, take}
use Rattle.std.specs.Slice.Iter.{chunks_exact_rest, chunks_exact_size}
use Rattle.report.proofs.Rows.{Lines}
use Rattle.report.proofs.lines.write_rows.Given as goal

abbrev pub invariant-loop-event : goal.invariant-loop-event
invariant-loop-event l =
    (chunks_exact_size l.event-iterator ≡ 3) × (length l.output ≡ length l.initial.output) × Lines (take (3 * l.made) l.events) (chunks_exact_rest l.event-iterator) l.at l.initial.output l.p l.output
