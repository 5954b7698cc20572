-- The vertices that wait are scanned until none is left, and each word that led on is cleared.
-- The loop keeps which vertices wait; each scan emits an event, and there is room for 10000.
use Rattle.std.proofs.Common.{arith}
use Rattle.breadth_folded.proofs.Threads.{search-ends, search-start, some_next, search-leading, search-less, search-more, search-end}
use Rattle.breadth_folded.proofs.search.Goals as goal

pub last_node-f-requires : goal.last_node-f-requires
last_node-f-requires c = search-ends c.requires

pub loop-v-init : goal.loop-v-init
loop-v-init c = let b = c.begin-tally.ensures in search-start c.requires (b.tally, (b.marks, b.events)) c.last_node-f.ensures

pub scan_vertex-s-requires : goal.scan_vertex-s-requires
scan_vertex-s-requires c = some_next c.requires c.loop-v.invariant c.loop-v-test.true

pub overflow_sub-after : goal.overflow_sub-after
overflow_sub-after c = let k = search-leading c.requires c.loop-v.invariant c.loop-v-test.true c.scan_vertex-s.ensures in omega arith

pub bounds-after-s : goal.bounds-after-s
bounds-after-s c = let k = search-leading c.requires c.loop-v.invariant c.loop-v-test.true c.scan_vertex-s.ensures in omega arith

pub loop-v-smaller : goal.loop-v-smaller
loop-v-smaller c = search-less c.requires c.loop-v.invariant c.loop-v-test.true c.scan_vertex-s.ensures

pub loop-v-preserved : goal.loop-v-preserved
loop-v-preserved c = search-more c.requires c.loop-v.invariant c.loop-v-test.true c.scan_vertex-s.ensures

pub returns : goal.returns
returns c = search-end c.requires c.loop-v.invariant c.loop-v-test.false
