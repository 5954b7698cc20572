-- The loop keeps what was performed, and what the words that are left lead to.
use Rattle.std.proofs.Common.{sym, ◌-◌, length, drop, length-drop, arith, take_all}
use Rattle.std.proofs.lemmas.Result.{err_from_is_err_and}
use Rattle.images.specs.Checking.{image}
use Rattle.scripts.proofs.Played.{from_low, playing, refused-by, none_made, first-played, next-played, last-played}
use Rattle.scripts.proofs.play.replay.Goals as goal

pub returns-in_err-opened : goal.returns-in_err-opened
returns-in_err-opened c =
    let z = c.args in
    let p = err_from_is_err_and c.from_residual.result c.from_residual.ensures.1 in
    let g = image z.n z.m z.after.now z.tail.now in
    let k = c.in_err-opened.field-0.0 in
    rw (p.1, p.2)
    (record {
      number = refused-by g z.before.now z.start.0 z.marks.now z.events.now z.script.now k c.in_err-opened.ensures;
      told = none_made g z.before.now z.start.0 z.marks.now z.events.now z.script.now k c.in_err-opened.ensures;
    })

pub loop-left-init : goal.loop-left-init
loop-left-init c = let z = c.args in first-played (image z.n z.m z.after.now z.tail.now) z.before.now z.start.0 z.marks.now z.events.now z.script.now c.in_ok-opened.opened c.in_ok-opened.ensures

pub perform-p-requires-clause-written : goal.perform-p-requires-clause-written
perform-p-requires-clause-written c = from_low (playing c.loop-left.invariant)

pub loop-left-preserved : goal.loop-left-preserved
loop-left-preserved c =
    let left = c.loop-left.left.now in
    next-played c.loop-left.invariant c.order_of-order.result c.in-len3-up.len_at_least (take_all (length left - 3) (drop 3 left) (omega (arith, length-drop 3 left))) c.order_of-order.ensures c.perform-p.ensures

pub returns : goal.returns
returns c = record { number = sym c.loop-left.invariant.opened; told = last-played c.loop-left.invariant c.in_default.len_below }
