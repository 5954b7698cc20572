-- The number of a query is that of its first test which fails.
use Rattle.std.proofs.Common.{[], ◌∷◌, ◌++◌, ◌∙◌}
use Rattle.std.proofs.lemmas.Result.{err_from_is_err_and}
use Rattle.graphs.specs.Refusals.{refuse, array_areas, vertex_out, array_refusals, array_number}
use Rattle.graphs.proofs.Refusals.{tested-short, tested-long}
use Rattle.arrays.specs.Arrays.{form_of}
use Rattle.arrays.proofs.Refusing.{by-sizes, by-areas, by-own}
use Rattle.arrays.proofs.query.check_query.Goals as goal

pub returns-in_err-check_sizes : goal.returns-in_err-check_sizes
unfolding array_number
returns-in_err-check_sizes c =
    let a = form_of c.args.a.now in
    let p = err_from_is_err_and c.from_residual.result c.from_residual.ensures.1 in
    rw (p.1, p.2) (by-sizes a.n a.m (array_areas a ++ []) (refuse 4 (vertex_out a.n c.args.u.0) ∷ array_refusals a) c.in_err-check_sizes.field-0.0 c.in_err-check_sizes.ensures)

pub returns-then-not-is_long : goal.returns-then-not-is_long
unfolding array_number
returns-then-not-is_long c =
    let a = form_of c.args.a.now in
    by-areas a.n a.m (array_areas a ++ []) (refuse 4 (vertex_out a.n c.args.u.0) ∷ array_refusals a) c.in_ok-check_sizes.ensures (tested-short c.is_long.ensures c.if-not-is_long.true)

pub returns : goal.returns
unfolding array_number
returns c =
    let a = form_of c.args.a.now in
    c.check_words.ensures ∙ by-own a.n a.m (array_areas a ++ []) (refuse 4 (vertex_out a.n c.args.u.0) ∷ array_refusals a) c.in_ok-check_sizes.ensures (tested-long c.is_long.ensures c.if-not-is_long.false)
