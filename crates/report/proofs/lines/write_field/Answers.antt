-- `write_field` writes a number, and a byte behind it.
use Rattle.std.proofs.Common.{arith}
use Rattle.numbers.specs.Decimal.{written}
use Rattle.report.proofs.Rows.{Near, number-wrote, field-wrote}
use Rattle.report.proofs.lines.write_field.Goals.{After-write_number-p}
use Rattle.report.proofs.lines.write_field.Goals as goal

-- The number is written.
number : (c : After-write_number-p) → Near 5 c.args.at c.args.output.now (written c.args.x) c.write_number-p.result c.write_number-p.new.area
number c =
    let z = c.args in
    let w = c.write_number-p in
    number-wrote z.x z.at w.result z.output.now w.new.area (omega (arith, c.ranges.x)) c.requires (w.ensures.next, w.ensures.words)

pub bounds-output-p : goal.bounds-output-p
bounds-output-p c = let n = (number (goal.at.bounds-output-p c).After-write_number-p).0 in omega (arith, c.requires)

pub overflow_add-result : goal.overflow_add-result
overflow_add-result c = let n = (number (goal.at.overflow_add-result c).After-write_number-p).0 in omega (arith, c.requires)

pub returns : goal.returns
returns c =
    let z = c.args in
    let w = c.write_number-p in
    let all = field-wrote z.x z.at w.result z.output.now w.new.area (omega (arith, c.ranges.x)) c.requires (w.ensures.next, w.ensures.words) z.stop in
    record { near = all.0; next = all.1.0; words = all.1.1 }
