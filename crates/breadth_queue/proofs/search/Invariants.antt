use Rattle.std.proofs.Common.{◌-◌}
use Rattle.images.specs.Checking.{image_of}
use Rattle.walks.specs.Writing.{total}
use Rattle.breadth_queue.specs.Queues.{QueueAt}
use Rattle.breadth_queue.proofs.search.Given as goal

abbrev pub invariant-loop-i : goal.invariant-loop-i
invariant-loop-i l = QueueAt (image_of l.g) l.before l.fn.start.0 l.i l.fn.marks l.fn.queue l.fn.events l.marks l.queue l.events l.tally

abbrev pub decreases-loop-i : goal.decreases-loop-i
decreases-loop-i l = 10000 - total l.tally
