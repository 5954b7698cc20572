use Rattle.std.proofs.Common.{◌-◌, ◌≤◌}
use Rattle.walks.specs.Writing.{total}
use Rattle.depth_array.specs.Increments.{Onward}
use Rattle.depth_array.proofs.array.descend.Given as goal

abbrev pub invariant-loop-q : goal.invariant-loop-q
invariant-loop-q l = Onward l.n l.m l.firsts l.initial.tails l.initial.marks l.initial.increments l.initial.events l.initial.q l.tails l.marks l.increments l.events l.q × (total l.initial.q.tally ≤ total l.q.tally)

abbrev pub decreases-loop-q : goal.decreases-loop-q
decreases-loop-q l = 10000 - total l.q.tally
