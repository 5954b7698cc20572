-- `images::check::flag_list` meets its contract: it flags the edges of the list, up to the first that has its flag already.
-- The loop keeps that the work left is the whole work; each turn flags one edge more, and there are m.
use Rattle.std.proofs.Common.{arith, ap, sym, suc}
use Rattle.images.specs.Checking.{Flagging, flagged}
use Rattle.images.proofs.Checks.{follows-few, along-start, along-turn, along-end, along-again, along-more}
use Rattle.images.proofs.check.flag_list.Goals as goal

pub loop-r-init : goal.loop-r-init
loop-r-init c = along-start c.requires (suc c.args.g.now.m) (omega arith)

pub bounds-flags-k : goal.bounds-flags-k
bounds-flags-k c = omega (arith, along-turn c.loop-r.invariant c.loop-r-test.true)

pub returns-then-flags-k-ne0 : goal.returns-then-flags-k-ne0
returns-then-flags-k-ne0 c =
    let again = along-again c.loop-r.invariant c.loop-r-test.true c.if-flags-k-ne0.true in
    record { count = sym (ap flagged again); flags = sym (ap (λ (f : Flagging). f.flags) again) }

pub bounds-flags-k-in-loop-r : goal.bounds-flags-k-in-loop-r
bounds-flags-k-in-loop-r c = omega (arith, along-turn c.loop-r.invariant c.loop-r-test.true)

pub overflow_add-c : goal.overflow_add-c
overflow_add-c c = omega (arith, along-turn c.loop-r.invariant c.loop-r-test.true)

pub loop-r-smaller : goal.loop-r-smaller
loop-r-smaller c = omega (arith, follows-few (along-more c.loop-r.invariant c.loop-r-test.true c.if-flags-k-ne0.false).follows)

pub loop-r-preserved : goal.loop-r-preserved
loop-r-preserved c = along-more c.loop-r.invariant c.loop-r-test.true c.if-flags-k-ne0.false

pub returns : goal.returns
returns c =
    let end = along-end c.loop-r.invariant c.loop-r-test.false in
    record { count = sym (ap flagged end); flags = sym (ap (λ (f : Flagging). f.flags) end) }
