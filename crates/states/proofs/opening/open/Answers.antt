-- An opening is refused with the number of its tests; past them the start is a vertex, and its areas are as long as stated.
use Rattle.std.proofs.Common.{refl, sym, ap, ◌∙◌, arith}
use Rattle.std.proofs.lemmas.Result.{err_from_is_err_and}
use Rattle.lists.specs.Words.{at, put}
use Rattle.refusals.proofs.Numbers.{refused-not-taken}
use Rattle.images.specs.Checking.{image_of}
use Rattle.walks.proofs.Writing.{Starts}
use Rattle.folding.specs.Calls.{taken}
use Rattle.states.specs.Answers.{seen_of}
use Rattle.states.proofs.Opened.{numbered, open-refused, open_taken, opens, opened}
use Rattle.states.proofs.opening.open.Goals as goal

pub returns-in_err-check_search : goal.returns-in_err-check_search
returns-in_err-check_search c =
    let z = c.args in
    let g = image_of z.g.now in
    let p = err_from_is_err_and c.from_residual.result c.from_residual.ensures.1 in
    let e = numbered g z.before.now z.start.0 z.marks.now z.events.now c.nodes-nodes.ensures.count c.is_long-long.ensures c.in_err-check_search.ensures in
    rw (p.1, p.2) (ap seen_of (sym (open-refused g z.before.now z.start.0 z.marks.now z.events.now e (refused-not-taken c.in_err-check_search.field-0.0))))

pub overflow_sub-i : goal.overflow_sub-i
overflow_sub-i c =
    let z = c.args in
    let g = image_of z.g.now in
    let O = opens g z.before.now z.start.0 z.marks.now z.events.now (numbered g z.before.now z.start.0 z.marks.now z.events.now c.nodes-nodes.ensures.count c.is_long-long.ensures c.in_ok-check_search.ensures) refl in
    omega (arith, O.start_vertex)

pub bounds-marks-i : goal.bounds-marks-i
bounds-marks-i c =
    let z = c.args in
    let g = image_of z.g.now in
    let O = opens g z.before.now z.start.0 z.marks.now z.events.now (numbered g z.before.now z.start.0 z.marks.now z.events.now c.nodes-nodes.ensures.count c.is_long-long.ensures c.in_ok-check_search.ensures) refl in
    omega (arith, O.start_vertex, O.long_marks)

pub bounds-g-i : goal.bounds-g-i
bounds-g-i c =
    let z = c.args in
    let g = image_of z.g.now in
    let O = opens g z.before.now z.start.0 z.marks.now z.events.now (numbered g z.before.now z.start.0 z.marks.now z.events.now c.nodes-nodes.ensures.count c.is_long-long.ensures c.in_ok-check_search.ensures) refl in
    omega (arith, O.start_vertex, O.long_after)

pub returns : goal.returns
unfolding at put
returns c =
    let z = c.args in
    let g = image_of z.g.now in
    let e = numbered g z.before.now z.start.0 z.marks.now z.events.now c.nodes-nodes.ensures.count c.is_long-long.ensures c.in_ok-check_search.ensures in
    let B = c.begin.ensures in
    let begun : Starts c.nodes-nodes.result z.before.now z.start.0 z.marks.now z.events.now c.begin.new.marks c.begin.new.events c.begin.result = (B.tally, (B.marks, B.events)) in
    let A = opened g z.before.now z.start.0 z.marks.now z.events.now e refl (rw c.nodes-nodes.ensures.count at begun) in
    (λ i. record { answer = taken; steps = 0; count = 1; config = record { n = g.n; m = g.m; start = z.start.0; v = z.start.0; e = at 0 g.after z.start.0; f = 0; phase = 1; next = 2; circular = 0; after = g.after; tail = g.tail; marks = A.0 i }; area = A.1 i })
    ∙ ap seen_of (sym (open_taken g z.before.now z.start.0 z.marks.now z.events.now e refl))
