-- The converter gives its number, and writes the array form where that is 0.
-- The number is asked first, on areas that are only read; where it is 0 there is room, and the writing is that of `group`.
use Rattle.arrays.proofs.Grouping.{convert-group}
use Rattle.arrays.proofs.convert.to_array.Goals as goal

pub group-requires : goal.group-requires
group-requires c = convert-group c.in_ok-check_conversion.ensures
