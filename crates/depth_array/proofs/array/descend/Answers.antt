-- Going on until no edge is ahead of the vertex being scanned.
-- The loop keeps the place, whatever areas were lent. Each turn counts two events more, and the search has at most 10,000.
use Rattle.std.proofs.Common.{arith}
use Rattle.depth_array.proofs.Increments.{within, advance-reads, some-onward, onward-ahead, onward_done}
use Rattle.depth_array.proofs.array.descend.Goals as goal

pub bounds-firsts-q : goal.bounds-firsts-q
bounds-firsts-q c = let w = within (some-onward c.loop-q.invariant.0 c.requires).is in omega arith

pub advance-q-requires : goal.advance-q-requires
advance-q-requires c = onward-ahead c.loop-q.invariant.0 c.requires c.loop-q-test.true

pub loop-q-smaller : goal.loop-q-smaller
loop-q-smaller c = let f = advance-reads (onward-ahead c.loop-q.invariant.0 c.requires c.loop-q-test.true) in omega (arith, c.advance-q.ensures.words)

pub returns-clause-done : goal.returns-clause-done
returns-clause-done c = onward_done c.loop-q.invariant.0 c.requires c.loop-q-test.false
