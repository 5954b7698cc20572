-- `write_rows` writes the lines of the first events.
-- Invariant: those of the words that the iterator has given are written.
use Rattle.std.proofs.Common.{ap, ◌∙◌, arith, rules, ◌*◌, length, length-append, length-take-le}
use Rattle.std.specs.Slice.Iter.{chunks_exact_rest}
use Rattle.report.proofs.Rows.{lines-room, lines-next, lines-all}
use Rattle.report.proofs.lines.write_rows.Goals as goal

pub write_row-p-requires : goal.write_row-p-requires
write_row-p-requires c =
    let z = c.args in
    let s = c.in-Some.ensures.steps in
    let l = c.loop-event.invariant in
    lines-room l.2 z.made (length-take-le (3 * z.made) z.events.now c.requires.0) c.requires.1 (omega (arith, ap length s.1.0, length-append c.in-Some.event.now (chunks_exact_rest c.next.new.self), s.1.1, l.0))

pub loop-event-preserved : goal.loop-event-preserved
loop-event-preserved c =
    let z = c.args in
    let s = c.in-Some.ensures.steps in
    let l = c.loop-event.invariant in
    let w = c.write_row-p in
    (s.0 ∙ l.0, search rules, lines-next l.2 z.made (length-take-le (3 * z.made) z.events.now c.requires.0) c.requires.1 _ _ w.result w.new.output s.1.0 (s.1.1 ∙ l.0) (w.ensures.near, (w.ensures.next, w.ensures.words)))

pub returns : goal.returns
returns c =
    let z = c.args in
    let s = c.in-None.ensures.steps in
    let l = c.loop-event.invariant in
    let all = lines-all l.2 z.made (length-take-le (3 * z.made) z.events.now c.requires.0) c.requires.1 (omega (arith, s.1.0, l.0)) in
    record { near = all.0; next = all.1.0; words = all.1.1 }
