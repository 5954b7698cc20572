-- `images::check::check_image` meets its contract: the number of the first of 1, 2, 3, 5, 6 and 7 that is true.
use Rattle.std.proofs.Common.{[], ◌∷◌, ◌++◌, sym, ◌∙◌}
use Rattle.std.proofs.lemmas.Result.{err_from_is_err_and}
use Rattle.refusals.proofs.Numbers.{refused-not-taken}
use Rattle.graphs.specs.Refusals.{Refusal, refuse, short, image_areas, image_refusals, image_number, sizes_out}
use Rattle.graphs.proofs.Refusals.{first-true, first-false, first-refused, first_rest, sizes-numbered, tested-short, tested-long}
use Rattle.graphs.specs.Image.{Image}
use Rattle.images.specs.Checking.{image_of}
use Rattle.images.proofs.check.check_image.Goals as goal

abbrev areas : Image → Refusal
areas g = refuse 3 (short (image_areas g ++ []))

pub returns-in_err-check_sizes : goal.returns-in_err-check_sizes
unfolding image_number
returns-in_err-check_sizes c =
    let g = image_of c.args.g.now in
    let p = err_from_is_err_and c.from_residual.result c.from_residual.ensures.1 in
    rw (p.1, p.2) (first-refused (sizes_out g.n g.m) (areas g ∷ image_refusals g) c.in_err-check_sizes.ensures (refused-not-taken c.in_err-check_sizes.field-0.0))

pub returns-then-not-is_long : goal.returns-then-not-is_long
unfolding image_number
returns-then-not-is_long c =
    let g = image_of c.args.g.now in
    let own = image_refusals g in
    first-true own (tested-short c.is_long.ensures c.if-not-is_long.true) ∙ sym (first_rest (sizes_out g.n g.m) (areas g ∷ own) (sizes-numbered g.n g.m) (sym c.in_ok-check_sizes.ensures))

pub returns : goal.returns
unfolding image_number
returns c =
    let g = image_of c.args.g.now in
    let own = image_refusals g in
    c.check_words.ensures ∙ first-false 3 own (tested-long c.is_long.ensures c.if-not-is_long.false) ∙ sym (first_rest (sizes_out g.n g.m) (areas g ∷ own) (sizes-numbered g.n g.m) (sym c.in_ok-check_sizes.ensures))
