-- A vertex is scanned: each edge on its list is traversed, and the vertices that it leads to are labelled and queued.
-- The invariant is `ScanAt`, whatever the areas as lent; each turn adds events, of which there are at most 10,000.
use Rattle.std.proofs.Common.{arith}
use Rattle.breadth_queue.proofs.Queueing.{kept-first, kept_turn, kept-fits, kept-pass, pass-falls, kept-join, join-falls, scan-start, scan-end}
use Rattle.breadth_queue.proofs.scan_vertex.Goals as goal
use Rattle.breadth_queue.proofs.scan_vertex.Goals.{then-marks-l-eq0, else-marks-l-eq0}

pub overflow_sub-e : goal.overflow_sub-e
overflow_sub-e c = (kept-first c.requires).low

pub bounds-g-v : goal.bounds-g-v
bounds-g-v c = let f = kept-first c.requires in omega arith

pub loop-e-init : goal.loop-e-init
loop-e-init c = record { within = λ a. scan-start c.requires a }

pub bounds-queue-last : goal.bounds-queue-last
bounds-queue-last c =
    let p = c.requires in
    let k = c.loop-e.invariant in
    let n = c.loop-e-test.true in
    let f = c.emit-t.ensures in
    omega (arith, kept-fits p k n (f.tally, f.events) c.if-marks-l-eq0.true, (kept_turn p k n).long_queue)

pub loop-e-smaller : goal.loop-e-smaller
loop-e-smaller c =
    let p = c.requires in
    let k = c.loop-e.invariant in
    let n = c.loop-e-test.true in
    let f = c.emit-t.ensures in
    elim c.if-marks-l-eq0.branch [
      | then-marks-l-eq0 w ↦ join-falls p k n (f.tally, f.events) w.if-marks-l-eq0.true (w.label-t.ensures.tally, (w.label-t.ensures.marks, w.label-t.ensures.events)) w.t-is
      | else-marks-l-eq0 w ↦ pass-falls p k n (f.tally, f.events) w.t-is
    ]

pub loop-e-preserved : goal.loop-e-preserved
loop-e-preserved c =
    let p = c.requires in
    let k = c.loop-e.invariant in
    let n = c.loop-e-test.true in
    let f = c.emit-t.ensures in
    elim c.if-marks-l-eq0.branch [
      | then-marks-l-eq0 w ↦ kept-join p k n (f.tally, f.events) w.if-marks-l-eq0.true (w.label-t.ensures.tally, (w.label-t.ensures.marks, w.label-t.ensures.events)) w.marks-is w.queue-is w.events-is w.t-is
      | else-marks-l-eq0 w ↦ kept-pass p k n (f.tally, f.events) w.if-marks-l-eq0.false w.marks-is w.queue-is w.events-is w.t-is
    ]

pub returns : goal.returns
returns c = λ before start k ms qs es a. scan-end c.requires a (c.loop-e.invariant.within a) c.loop-e-test.false (c.emit.ensures.tally, c.emit.ensures.events)
