-- The search goes back and on until the start has no edge left.
-- Each turn goes from place to place and emits two events or more, of at most 10,000.
use Rattle.std.proofs.Common.{arith}
use Rattle.depth_parent.proofs.Parents.{retreat-few, goes_some, goes_then}
use Rattle.depth_parent.proofs.finish.Goals as goal

pub loop-start-smaller : goal.loop-start-smaller
loop-start-smaller c = let f = retreat-few (goes_some c.requires (goes_then c.loop-start.invariant c.descend-d.ensures.at)).is c.descend-d.ensures.done c.if-d-eq0.false in omega (arith, c.retreat-q.ensures.words, c.descend-d.ensures.words)
