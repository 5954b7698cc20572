-- `print_walk` writes four parts one behind the other: names, the lines of events, names, the line of totals.
use Rattle.report.proofs.Rows.{walk-wrote}
use Rattle.report.proofs.lines.print_walk.Goals as goal

pub returns-clause-words : goal.returns-clause-words
returns-clause-words c =
    let z = c.args in
    let p = c.write_bytes-p in
    let q = c.write_rows-q in
    let r = c.write_bytes-r in
    let w = c.write_row in
    (walk-wrote z.events.now z.t z.output.now p.new.output q.new.output r.new.output w.new.output p.result q.result r.result w.result
    c.requires.1
    (p.ensures.next, p.ensures.words)
    (q.ensures.near, (q.ensures.next, q.ensures.words))
    (r.ensures.next, r.ensures.words)
    (w.ensures.near, (w.ensures.next, w.ensures.words))).1
