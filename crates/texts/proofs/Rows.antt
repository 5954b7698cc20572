-- The table of numbers, in one theorem: by computation on the definitions.
use Rattle.std.proofs.Common.{refl}
use Rattle.lists.specs.Rows.{AllAnswered}
use Rattle.numbers.specs.Decimal.{number_at}
use Rattle.texts.specs.Text.{listing_of, head_at, lines_at, line_at, field_at}
use Rattle.texts.specs.Loading.{lines_out, listing_number, reading}
use Rattle.texts.specs.Rows.{numbers}

pub numbers-hold : AllAnswered numbers
unfolding listing_of head_at lines_at line_at field_at number_at lines_out listing_number reading
numbers-hold = refl
