use Rattle.std.proofs.Common.{◌-◌}
use Rattle.images.specs.Checking.{image_of}
use Rattle.walks.specs.Writing.{total}
use Rattle.breadth_queue.proofs.Queueing.{ScanKept}
use Rattle.breadth_queue.proofs.scan_vertex.Given as goal

abbrev pub invariant-loop-e : goal.invariant-loop-e
invariant-loop-e l = ScanKept (image_of l.g) l.v.0 l.initial.marks l.initial.queue l.initial.events l.initial.t l.marks l.queue l.events l.t l.e

abbrev pub decreases-loop-e : goal.decreases-loop-e
decreases-loop-e l = 10000 - total l.t
