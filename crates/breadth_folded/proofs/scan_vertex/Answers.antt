-- v is scanned, and the vertices that are labelled wait behind the others.
-- The loop keeps that v is being scanned, whatever the areas were as lent; each turn emits an event, and there is room for 10000.
use Rattle.std.proofs.Common.{List, ℕ, arith, refl}
use Rattle.images.specs.Checking.{image}
use Rattle.breadth_folded.specs.Threads.{FoldedAt}
use Rattle.breadth_folded.proofs.Threads.{Turned, some-passing, some-ahead, turned_as, scan-first, scan-start, scan-pass, scan-ends, scan-join, scan-end}
use Rattle.breadth_folded.proofs.scan_vertex.Goals.{Joined-marks-l-eq0}
use Rattle.breadth_folded.proofs.scan_vertex.Goals as goal
use Rattle.breadth_folded.proofs.scan_vertex.Goals.{then-marks-l-eq0, else-marks-l-eq0}

pub overflow_sub-a : goal.overflow_sub-a
overflow_sub-a c = let f = scan-first c.requires.is in omega arith

pub bounds-after-e : goal.bounds-after-e
bounds-after-e c = let f = scan-first c.requires.is in omega arith

pub loop-a-init : goal.loop-a-init
loop-a-init c = record { word = refl; within = λ F. scan-start F }

pub overflow_cast-x : goal.overflow_cast-x
overflow_cast-x c = let k = some-ahead c.requires c.loop-a.invariant c.loop-a-test.true in omega arith

pub offset_bounds-tail-e : goal.offset_bounds-tail-e
offset_bounds-tail-e c = let k = some-ahead c.requires c.loop-a.invariant c.loop-a-test.true in omega arith

pub bounds-tail-e : goal.bounds-tail-e
bounds-tail-e c = let k = some-ahead c.requires c.loop-a.invariant c.loop-a-test.true in omega arith

pub overflow_sub-l : goal.overflow_sub-l
overflow_sub-l c = let k = some-ahead c.requires c.loop-a.invariant c.loop-a-test.true in omega arith

pub bounds-marks-l : goal.bounds-marks-l
bounds-marks-l c = let k = some-ahead c.requires c.loop-a.invariant c.loop-a-test.true in omega arith

pub overflow_sub-k : goal.overflow_sub-k
overflow_sub-k c = let k = some-ahead c.requires c.loop-a.invariant c.loop-a-test.true in omega arith

pub bounds-after-k : goal.bounds-after-k
bounds-after-k c = let k = some-ahead c.requires c.loop-a.invariant c.loop-a-test.true in omega arith

pub last_node-last-requires : goal.last_node-last-requires
last_node-last-requires c =
    let p = c.requires in
    let i = c.loop-a.invariant in
    let E = c.emit-crossed.ensures in
    scan-ends p.is (some-passing p i) i.word c.loop-a-test.true (E.tally, E.events) c.if-marks-l-eq0.true

pub overflow_cast-a-in-loop-a : goal.overflow_cast-a-in-loop-a
overflow_cast-a-in-loop-a c = let k = some-ahead c.requires c.loop-a.invariant c.loop-a-test.true in omega arith

pub offset_bounds-after-e-in-loop-a : goal.offset_bounds-after-e-in-loop-a
offset_bounds-after-e-in-loop-a c = let k = some-ahead c.requires c.loop-a.invariant c.loop-a-test.true in omega arith

pub bounds-after-e-in-loop-a : goal.bounds-after-e-in-loop-a
bounds-after-e-in-loop-a c = let k = some-ahead c.requires c.loop-a.invariant c.loop-a-test.true in omega arith

-- A turn keeps what the loop keeps, by either arm of its test.
turned : (c : Joined-marks-l-eq0) → {before : List ℕ} {start : ℕ} {after₀ marks₀ events₀ : List ℕ}
    → (let s = c.args in let j = c.if-marks-l-eq0 in
    FoldedAt (image s.n s.m after₀ s.tail.now) before start s.v.0 s.f marks₀ events₀ s.after.now s.marks.now s.events.now s.tally
    → Turned (image s.n s.m after₀ s.tail.now) before start s.v.0 marks₀ events₀ s.tally c.loop-a.t j.after j.marks j.events j.t j.last c.loop-a.a)
turned c F =
    let P = c.loop-a.invariant.within F in
    let held = c.loop-a.invariant.word in
    let test = c.loop-a-test.true in
    let E = c.emit-crossed.ensures in
    elim c.if-marks-l-eq0.branch [
      | then-marks-l-eq0 z ↦ let J = z.label-joined.ensures in turned_as (scan-join F P held test (E.tally, E.events) z.if-marks-l-eq0.true (J.tally, (J.marks, J.events)) z.last_node-last.ensures) z.after-is z.marks-is z.events-is z.t-is z.last-is
      | else-marks-l-eq0 z ↦ turned_as (scan-pass F P held test (E.tally, E.events) z.if-marks-l-eq0.false) z.after-is z.marks-is z.events-is z.t-is z.last-is
    ]

pub loop-a-smaller : goal.loop-a-smaller
loop-a-smaller c = let k = turned (goal.at.loop-a-smaller c).Joined-marks-l-eq0 c.requires.is in omega (arith, k.more, k.few)

pub loop-a-preserved : goal.loop-a-preserved
loop-a-preserved c = record { word = refl; within = λ F. (turned (goal.at.loop-a-preserved c).Joined-marks-l-eq0 F).passing }

pub returns : goal.returns
returns c = λ before start after₀ marks₀ events₀ F. let i = c.loop-a.invariant in scan-end F (i.within F) i.word c.loop-a-test.false (c.emit-all.ensures.tally, c.emit-all.ensures.events)
