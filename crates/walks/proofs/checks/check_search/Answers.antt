-- The number of a search is that of the first test which fails, and past the checker that of the list.
use Rattle.std.proofs.Common.{refl, sym, ap, not, ◌∙◌}
use Rattle.std.proofs.lemmas.Result.{err_from_is_err_and}
use Rattle.graphs.proofs.Refusals.{tested-short, tested-long}
use Rattle.refusals.proofs.Numbers.{refused-not-taken}
use Rattle.images.specs.Checking.{image_of}
use Rattle.walks.proofs.Numbers.{search-sized, search-short, search-own, search-start, search-first, search-list}
use Rattle.walks.proofs.checks.check_search.Goals as goal

pub returns-in_err-check_sizes : goal.returns-in_err-check_sizes
returns-in_err-check_sizes c = λ areas e.
    let z = c.args in
    let p = err_from_is_err_and c.from_residual.result c.from_residual.ensures.1 in
    rw (p.1, p.2) (search-sized (image_of z.g.now) z.before.now z.start.0 areas c.in_err-check_sizes.ensures (refused-not-taken c.in_err-check_sizes.field-0.0))

pub returns-then-not-is_long : goal.returns-then-not-is_long
returns-then-not-is_long c = λ areas e.
    let z = c.args in
    search-short (image_of z.g.now) z.before.now z.start.0 areas c.in_ok-check_sizes.ensures (tested-short c.is_long.ensures c.if-not-is_long.true)

pub returns-then-not-long : goal.returns-then-not-long
returns-then-not-long c = λ areas e.
    let z = c.args in
    search-own (image_of z.g.now) z.before.now z.start.0 areas c.in_ok-check_sizes.ensures (tested-long c.is_long.ensures c.if-not-is_long.false) (tested-short e c.if-not-long.true)

pub returns-then-not-is_vertex : goal.returns-then-not-is_vertex
returns-then-not-is_vertex c = λ areas e.
    let z = c.args in
    search-start (image_of z.g.now) z.before.now z.start.0 areas c.in_ok-check_sizes.ensures (tested-long c.is_long.ensures c.if-not-is_long.false) (tested-long e c.if-not-long.false) (ap not (sym c.is_vertex.ensures ∙ c.if-not-is_vertex.true))

pub returns-in_err-check_image : goal.returns-in_err-check_image
returns-in_err-check_image c = λ areas e.
    let z = c.args in
    let p = err_from_is_err_and c.from_residual-in_err-check_image.result c.from_residual-in_err-check_image.ensures.1 in
    rw (p.1, p.2) (search-first (image_of z.g.now) z.before.now z.start.0 areas (tested-long e c.if-not-long.false) (sym c.is_vertex.ensures ∙ c.if-not-is_vertex.false) c.in_err-check_image.ensures (refused-not-taken c.in_err-check_image.field-0.0))

pub returns : goal.returns
returns c = λ areas e.
    let z = c.args in
    c.check_list.ensures ∙ search-list (image_of z.g.now) z.before.now z.start.0 areas (tested-long e c.if-not-long.false) (sym c.is_vertex.ensures ∙ c.if-not-is_vertex.false) c.in_ok-check_image.ensures refl
