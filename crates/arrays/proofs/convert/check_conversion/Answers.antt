-- The number of a conversion is that of its first test which fails.
-- Past the sizes and the areas the number is the checker's.
use Rattle.std.proofs.Common.{◌++◌, ◌∙◌}
use Rattle.std.proofs.lemmas.Result.{err_from_is_err_and}
use Rattle.graphs.specs.Refusals.{image_areas, image_refusals, image_number}
use Rattle.graphs.proofs.Refusals.{tested-short, tested-long}
use Rattle.images.specs.Checking.{image_of}
use Rattle.arrays.specs.Arrays.{converted_areas}
use Rattle.arrays.proofs.Grouping.{convert-same, areas-long}
use Rattle.arrays.proofs.Refusing.{by-sizes, by-areas}
use Rattle.arrays.proofs.convert.check_conversion.Goals as goal

pub returns-in_err-check_sizes : goal.returns-in_err-check_sizes
unfolding image_number
returns-in_err-check_sizes c =
    let z = c.args in
    let g = image_of z.g.now in
    let p = err_from_is_err_and c.from_residual.result c.from_residual.ensures.1 in
    rw (p.1, p.2) (by-sizes g.n g.m (image_areas g ++ converted_areas g z.firsts.now z.tails.now z.numbers.now) (image_refusals g) c.in_err-check_sizes.field-0.0 c.in_err-check_sizes.ensures)

pub returns-then-not-has_room : goal.returns-then-not-has_room
unfolding image_number
returns-then-not-has_room c =
    let z = c.args in
    let g = image_of z.g.now in
    by-areas g.n g.m (image_areas g ++ converted_areas g z.firsts.now z.tails.now z.numbers.now) (image_refusals g) c.in_ok-check_sizes.ensures (tested-short c.has_room.ensures c.if-not-has_room.true)

pub returns : goal.returns
returns c =
    let z = c.args in
    let g = image_of z.g.now in
    let areas = converted_areas g z.firsts.now z.tails.now z.numbers.now in
    c.check_image.ensures ∙ convert-same g areas (areas-long g areas (tested-long c.has_room.ensures c.if-not-has_room.false))
