use Rattle.std.proofs.Common.{length}
use Rattle.images.specs.Checking.{image}
use Rattle.scripts.proofs.Played.{Played}
use Rattle.scripts.proofs.play.replay.Given as goal

abbrev pub invariant-loop-left : goal.invariant-loop-left
invariant-loop-left l = Played (image l.fn.n l.fn.m l.fn.after l.fn.tail) l.fn.before l.fn.start.0 l.fn.marks l.fn.events l.fn.script l.left l.p l.after l.tail l.marks l.events

abbrev pub decreases-loop-left : goal.decreases-loop-left
decreases-loop-left l = length l.left
