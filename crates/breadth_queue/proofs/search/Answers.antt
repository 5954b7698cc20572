-- The search: the vertices of the queue area are scanned one after the other, until all that were labelled are.
-- The invariant is `QueueAt`; each scan adds events, of which there are at most 10,000.
use Rattle.std.proofs.Common.{arith}
use Rattle.breadth_queue.proofs.Queueing.{search-start, search-scan, search-more, search-less, at_few, at-end}
use Rattle.breadth_queue.proofs.search.Goals as goal

pub loop-i-init : goal.loop-i-init
loop-i-init c = let b = c.begin-tally.ensures in search-start c.requires c.nodes.ensures.count c.clear.ensures (b.tally, (b.marks, b.events))

pub overflow_cast-tally : goal.overflow_cast-tally
overflow_cast-tally c = let f = at_few c.loop-i.invariant in omega arith

pub offset_bounds-queue-i : goal.offset_bounds-queue-i
offset_bounds-queue-i c = let f = at_few c.loop-i.invariant in omega arith

pub bounds-queue-i : goal.bounds-queue-i
bounds-queue-i c = let f = at_few c.loop-i.invariant in omega arith

pub overflow_add-i : goal.overflow_add-i
overflow_add-i c = let f = at_few c.loop-i.invariant in omega arith

pub scan_vertex-tally-requires : goal.scan_vertex-tally-requires
scan_vertex-tally-requires c = search-scan c.loop-i.invariant c.loop-i-test.true

pub loop-i-smaller : goal.loop-i-smaller
loop-i-smaller c = let s = search-less (c.scan_vertex-tally.ensures _ _ _ _ _ _ c.loop-i.invariant) in omega arith

pub loop-i-preserved : goal.loop-i-preserved
loop-i-preserved c = search-more (c.scan_vertex-tally.ensures _ _ _ _ _ _ c.loop-i.invariant)

pub returns : goal.returns
returns c = at-end c.loop-i.invariant c.loop-i-test.false
