-- `write_row` writes a line of three numbers, each with the byte behind it.
use Rattle.report.proofs.Rows.{row_wrote}
use Rattle.report.proofs.lines.write_row.Goals as goal

pub returns-clause-words : goal.returns-clause-words
returns-clause-words c =
    let z = c.args in
    let p = c.write_field-p in
    let q = c.write_field-q in
    let r = c.write_field in
    (row_wrote z.a z.b z.c z.at p.result q.result r.result z.output.now p.new.output q.new.output r.new.output c.requires (p.ensures.near, (p.ensures.next, p.ensures.words)) (q.ensures.near, (q.ensures.next, q.ensures.words)) (r.ensures.near, (r.ensures.next, r.ensures.words))).1.1
