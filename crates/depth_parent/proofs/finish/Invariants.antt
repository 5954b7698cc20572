use Rattle.std.proofs.Common.{◌-◌}
use Rattle.images.specs.Checking.{image_of}
use Rattle.walks.specs.Writing.{total}
use Rattle.depth_parent.specs.Parents.{Goes}
use Rattle.depth_parent.proofs.finish.Given as goal

abbrev pub invariant-loop-start : goal.invariant-loop-start
invariant-loop-start l = Goes (image_of l.g) l.start.0 l.initial.marks l.initial.parents l.initial.events l.initial.q l.marks l.parents l.events l.q

abbrev pub decreases-loop-start : goal.decreases-loop-start
decreases-loop-start l = 10000 - total l.q.tally
