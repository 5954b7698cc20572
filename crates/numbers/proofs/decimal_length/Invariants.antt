use Rattle.std.proofs.Common.{◌≡◌, ◌+◌, ◌≤◌}
use Rattle.numbers.specs.Decimal.{decimal_length}
use Rattle.numbers.proofs.decimal_length.Given as goal

abbrev pub invariant-loop-part : goal.invariant-loop-part
invariant-loop-part l = (l.k + decimal_length l.part ≡ 1 + decimal_length l.x) × (l.k + l.part ≤ 1 + l.x)

abbrev pub decreases-loop-part : goal.decreases-loop-part
decreases-loop-part l = l.part
