-- The next edge is traversed: its target is labelled and scanned next, or it is passed.
-- The mark of the target tells which; either way two events more make one place of the search another.
use Rattle.std.proofs.Common.{arith}
use Rattle.depth_parent.proofs.Parents.{advance-reads, pass-total, pass-at, tree-total, tree-at}
use Rattle.depth_parent.proofs.advance.Goals as goal

pub overflow_sub-x : goal.overflow_sub-x
overflow_sub-x c = let f = advance-reads c.requires in omega arith

pub overflow_sub-x-2 : goal.overflow_sub-x-2
overflow_sub-x-2 c = let f = advance-reads c.requires in omega arith

pub bounds-g-p : goal.bounds-g-p
bounds-g-p c = let f = advance-reads c.requires in omega arith

pub overflow_sub-i : goal.overflow_sub-i
overflow_sub-i c = let f = advance-reads c.requires in omega arith

pub bounds-marks-i : goal.bounds-marks-i
bounds-marks-i c = let f = advance-reads c.requires in omega arith

pub bounds-parents-i : goal.bounds-parents-i
bounds-parents-i c = let f = advance-reads c.requires in omega arith

pub bounds-g-i : goal.bounds-g-i
bounds-g-i c = let f = advance-reads c.requires in omega arith

pub bounds-g-p-else-marks-i-eq0 : goal.bounds-g-p-else-marks-i-eq0
bounds-g-p-else-marks-i-eq0 c = let f = advance-reads c.requires in omega arith

pub returns-then-marks-i-eq0 : goal.returns-then-marks-i-eq0
returns-then-marks-i-eq0 c =
    let z = c.requires in
    let a = c.emit-a.ensures in
    let b = c.label-tally.ensures in
    record {
      at = λ before marks₀ parents₀ events₀ A. tree-at A z.1 (a.tally, a.events) (b.tally, (b.marks, b.events)) c.if-marks-i-eq0.true;
      words = tree-total z.0.is z.1 (a.tally, a.events) (b.tally, (b.marks, b.events)) c.if-marks-i-eq0.true;
    }

pub returns-else-marks-i-eq0 : goal.returns-else-marks-i-eq0
returns-else-marks-i-eq0 c =
    let z = c.requires in
    let a = c.emit-a-else-marks-i-eq0.ensures in
    let b = c.emit-tally.ensures in
    record {
      at = λ before marks₀ parents₀ events₀ A. pass-at A z.1 (a.tally, a.events) (b.tally, b.events) c.if-marks-i-eq0.false;
      words = pass-total z.0.is z.1 (a.tally, a.events) (b.tally, b.events);
    }
