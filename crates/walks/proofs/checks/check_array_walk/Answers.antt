-- The number of a walk of an array form is that of the first test which fails, and past the query that of the list.
use Rattle.std.proofs.Common.{refl, not, ◌∙◌, ◌≡◌, ◌+◌, ◌*◌, ◌&&◌, ℕ, List, [], ◌∷◌, ◌++◌, length, leb}
use Rattle.std.proofs.lemmas.Result.{err_from_is_err_and}
use Rattle.graphs.specs.Refusals.{Lent, lent, short}
use Rattle.graphs.proofs.Refusals.{tested-short, tested-long}
use Rattle.refusals.proofs.Numbers.{refused-not-taken}
use Rattle.arrays.specs.Arrays.{form_of}
use Rattle.walks.specs.Promises.{written_areas}
use Rattle.walks.proofs.Numbers.{array-sized, array-short, array-own, array-first, array-list, own-test, more-lent}
use Rattle.walks.proofs.checks.check_array_walk.Goals as goal

abbrev written : (n m : ℕ) (marks increments events : List ℕ) → List Lent
written n m marks increments events = written_areas (n + m) marks events ++ lent n increments ∷ []

-- The areas that the walk writes, as the code tests them.
areas : (n m : ℕ) (marks increments events : List ℕ)
    → (leb (n + m) (length marks) && (leb (6 * (n + m)) (length events) && leb n (length increments))) ≡ not (short (written n m marks increments events))
areas n m marks increments events =
    more-lent (n + m) marks (lent (6 * (n + m)) events ∷ lent n increments ∷ []) _ (more-lent (6 * (n + m)) events (lent n increments ∷ []) _ (own-test n increments))

pub returns-in_err-check_sizes : goal.returns-in_err-check_sizes
returns-in_err-check_sizes c =
    let z = c.args in
    let a = form_of z.a.now in
    let p = err_from_is_err_and c.from_residual.result c.from_residual.ensures.1 in
    rw (p.1, p.2) (array-sized a z.before.now z.start.0 (written a.n a.m z.marks.now z.increments.now z.events.now) c.in_err-check_sizes.ensures (refused-not-taken c.in_err-check_sizes.field-0.0))

pub returns-then-not-is_long : goal.returns-then-not-is_long
returns-then-not-is_long c =
    let z = c.args in
    let a = form_of z.a.now in
    array-short a z.before.now z.start.0 (written a.n a.m z.marks.now z.increments.now z.events.now) c.in_ok-check_sizes.ensures (tested-short c.is_long.ensures c.if-not-is_long.true)

pub returns-then-not-are_long : goal.returns-then-not-are_long
returns-then-not-are_long c =
    let z = c.args in
    let a = form_of z.a.now in
    array-own a z.before.now z.start.0 (written a.n a.m z.marks.now z.increments.now z.events.now) c.in_ok-check_sizes.ensures (tested-long c.is_long.ensures c.if-not-is_long.false)
    (tested-short (c.are_long.ensures ∙ areas a.n a.m z.marks.now z.increments.now z.events.now) c.if-not-are_long.true)

pub returns-in_err-check_query : goal.returns-in_err-check_query
returns-in_err-check_query c =
    let z = c.args in
    let a = form_of z.a.now in
    let p = err_from_is_err_and c.from_residual-in_err-check_query.result c.from_residual-in_err-check_query.ensures.1 in
    rw (p.1, p.2)
    (array-first a z.before.now z.start.0 z.marks.now z.increments.now z.events.now (tested-long (c.are_long.ensures ∙ areas a.n a.m z.marks.now z.increments.now z.events.now) c.if-not-are_long.false)
    c.in_err-check_query.ensures (refused-not-taken c.in_err-check_query.field-0.0))

pub returns : goal.returns
returns c =
    let z = c.args in
    let a = form_of z.a.now in
    c.check_list.ensures
    ∙ array-list a z.before.now z.start.0 z.marks.now z.increments.now z.events.now (tested-long (c.are_long.ensures ∙ areas a.n a.m z.marks.now z.increments.now z.events.now) c.if-not-are_long.false)
    c.in_ok-check_query.ensures refl
