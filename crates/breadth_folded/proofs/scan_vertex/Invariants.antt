use Rattle.std.proofs.Common.{◌-◌}
use Rattle.walks.specs.Writing.{total}
use Rattle.breadth_folded.proofs.Threads.{ScanKept}
use Rattle.breadth_folded.proofs.scan_vertex.Given as goal

abbrev pub invariant-loop-a : goal.invariant-loop-a
invariant-loop-a l = ScanKept l.n l.m l.v.0 l.f l.initial.after l.tail l.initial.marks l.initial.events l.initial.t l.after l.marks l.events l.t l.last l.e l.a

abbrev pub decreases-loop-a : goal.decreases-loop-a
decreases-loop-a l = 10000 - total l.t
