use Rattle.std.proofs.Common.{◌-◌}
use Rattle.walks.specs.Writing.{total}
use Rattle.depth_array.specs.Increments.{Onward}
use Rattle.depth_array.proofs.array.finish.Given as goal

abbrev pub invariant-loop-d : goal.invariant-loop-d
invariant-loop-d l = Onward l.n l.m l.firsts l.initial.tails l.initial.marks l.initial.increments l.initial.events l.initial.q l.tails l.marks l.increments l.events l.q

abbrev pub decreases-loop-d : goal.decreases-loop-d
decreases-loop-d l = 10000 - total l.q.tally
