-- Going on until only the start is left, and no edge is ahead of it.
-- The loop keeps the place. Each turn counts two events more at least, and the search has at most 10,000.
use Rattle.std.proofs.Common.{arith}
use Rattle.depth_array.proofs.Increments.{back, some-onward, onward_then}
use Rattle.depth_array.proofs.array.finish.Goals as goal

pub loop-d-smaller : goal.loop-d-smaller
loop-d-smaller c =
    let d = c.descend-d.ensures in
    let b = back (some-onward (onward_then c.loop-d.invariant d.at) c.requires).is d.done c.if-d-eq0.false in
    omega (arith, c.retreat-q.ensures.words, d.words)
