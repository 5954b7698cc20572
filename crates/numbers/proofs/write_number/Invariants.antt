use Rattle.std.proofs.Common.{◌≡◌, length}
use Rattle.numbers.proofs.NumberLoops.{Putting}
use Rattle.numbers.proofs.write_number.Given as goal

abbrev pub invariant-loop-i : goal.invariant-loop-i
invariant-loop-i l = (length l.area ≡ length l.initial.area) × Putting l.x l.k l.at l.initial.area l.area l.rest l.i
