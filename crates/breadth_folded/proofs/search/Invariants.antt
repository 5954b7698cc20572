use Rattle.std.proofs.Common.{◌-◌}
use Rattle.images.specs.Checking.{image}
use Rattle.walks.specs.Writing.{total}
use Rattle.breadth_folded.proofs.Threads.{Searching}
use Rattle.breadth_folded.proofs.search.Given as goal

abbrev pub invariant-loop-v : goal.invariant-loop-v
invariant-loop-v l = Searching (image l.n l.m l.fn.after l.tail) l.fn.before l.fn.start.0 l.fn.marks l.fn.events l.after l.marks l.events l.tally l.f l.v

abbrev pub decreases-loop-v : goal.decreases-loop-v
decreases-loop-v l = 10000 - total l.tally
