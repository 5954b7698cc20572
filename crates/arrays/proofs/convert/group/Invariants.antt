use Rattle.images.specs.Checking.{image_of}
use Rattle.arrays.proofs.Grouping.{Grouped}
use Rattle.arrays.proofs.convert.group.Given as goal

abbrev pub invariant-loop-u : goal.invariant-loop-u
invariant-loop-u l = Grouped (image_of l.g) l.initial.firsts l.initial.tails l.initial.numbers l.firsts l.tails l.numbers l.p l.u
