use Rattle.std.proofs.Common.{◌≤◌, ◌-◌}
use Rattle.images.specs.Checking.{image_of}
use Rattle.walks.specs.Writing.{total}
use Rattle.depth_parent.specs.Parents.{Goes}
use Rattle.depth_parent.proofs.descend.Given as goal

abbrev pub invariant-loop-q : goal.invariant-loop-q
invariant-loop-q l = Goes (image_of l.g) l.start.0 l.initial.marks l.initial.parents l.initial.events l.initial.q l.marks l.parents l.events l.q × (total l.initial.q.tally ≤ total l.q.tally)

abbrev pub decreases-loop-q : goal.decreases-loop-q
decreases-loop-q l = 10000 - total l.q.tally
