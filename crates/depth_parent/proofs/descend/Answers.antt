-- The search goes on while an edge is ahead.
-- Each turn goes from place to place and emits two events, of at most 10,000.
use Rattle.std.proofs.Common.{arith}
use Rattle.depth_parent.proofs.Parents.{advance-few, goes_some}
use Rattle.depth_parent.proofs.descend.Goals as goal

pub loop-q-smaller : goal.loop-q-smaller
loop-q-smaller c = let f = advance-few (goes_some c.requires c.loop-q.invariant.0).is c.loop-q-test.true in omega (arith, c.advance-q.ensures.words)
