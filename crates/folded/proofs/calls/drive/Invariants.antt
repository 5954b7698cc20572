use Rattle.std.proofs.Common.{◌-◌}
use Rattle.folded.specs.Steps.{Same, held}
use Rattle.folded.proofs.Driving.{Going}
use Rattle.folded.proofs.calls.drive.Given as goal

abbrev pub invariant-loop-areas : goal.invariant-loop-areas
invariant-loop-areas l = Going l.budget (held l.initial.state l.initial.areas) l.initial.areas.events.now l.state l.areas.after.now l.areas.tail.now l.areas.marks.now l.areas.events.now l.steps l.made × Same l.initial.areas l.areas

abbrev pub decreases-loop-areas : goal.decreases-loop-areas
decreases-loop-areas l = l.budget - l.steps
