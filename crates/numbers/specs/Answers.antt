-- The answer of the reader of numbers: what each case says.
use Rattle.std.specs.Prelude.{Option, Some, None}
use Rattle.std.proofs.Math.Option as math
use Rattle.numbers.specs.Decimal.{Field}
use Rattle.numbers.specs.declared.Number.{Number}

-- A number and the place past it, or none.
abbrev pub number_found : Option Number → math.Option Field
number_found (Some f) = math.some (record { value = f.value; next = f.next })
number_found None = math.none
