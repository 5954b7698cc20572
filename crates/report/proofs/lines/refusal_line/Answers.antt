-- `refusal_line` makes the line in 14 bytes, and copies it where there is room for it.
use Rattle.std.proofs.Common.{arith}
use Rattle.texts.specs.Text.{line_feed}
use Rattle.report.proofs.Rows.{line_made, refusal-none, refusal-copied}
use Rattle.report.proofs.lines.refusal_line.Goals as goal

pub returns-then-output-q : goal.returns-then-output-q
returns-then-output-q c =
    let z = c.args in
    let p = c.write_bytes-p in
    let q = c.write_field-q in
    let M = line_made z.number line_feed p.result q.result p.new.output q.new.output (p.ensures.next, p.ensures.words) (q.ensures.near, (q.ensures.next, q.ensures.words)) in
    let all = refusal-none z.number q.result q.new.output M z.output.now (omega arith) in
    record { number = all.0; bytes = all.1.0; output = all.1.1 }

pub returns : goal.returns
returns c =
    let z = c.args in
    let p = c.write_bytes-p in
    let q = c.write_field-q in
    let M = line_made z.number line_feed p.result q.result p.new.output q.new.output (p.ensures.next, p.ensures.words) (q.ensures.near, (q.ensures.next, q.ensures.words)) in
    let w = c.write_bytes in
    let all = refusal-copied z.number q.result q.new.output M z.output.now (omega arith) w.result w.new.output (w.ensures.next, w.ensures.words) in
    record { number = all.0; bytes = all.1.0; output = all.1.1 }
