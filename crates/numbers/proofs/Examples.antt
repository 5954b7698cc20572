-- The examples of numbers read and written, in two theorems.
-- By computation on the definitions.
use Rattle.std.proofs.Common.{refl}
use Rattle.numbers.specs.Decimal.{decimal_length, written, number_at}
use Rattle.numbers.specs.Examples.{examples, Said, SamplesClaim}

pub examples-said : Said examples
unfolding number_at
examples-said = (refl, (refl, (refl, (refl, (refl, (refl, (refl, (refl, (refl, (refl, tt))))))))))

pub samples-claim : SamplesClaim
unfolding decimal_length written
samples-claim = record { by_formula = refl; from_table = refl; as_written = refl }
