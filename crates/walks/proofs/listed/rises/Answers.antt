-- `walks::listed::rises` meets its contract: what it returns is the test of the whole list.
-- The loop keeps that the rest of the list rises over the last word exactly where the whole list rises.
use Rattle.std.proofs.Common.{arith}
use Rattle.walks.proofs.Blanks.{not-rising, past_all, rising, risen}
use Rattle.walks.proofs.listed.rises.Goals as goal

pub returns-then-x-last : goal.returns-then-x-last
returns-then-x-last c = let low = c.if-x-last.true in not-rising _ _ _ _ c.loop-x.invariant c.loop-x-test.true (omega arith)

pub returns-then-x-n : goal.returns-then-x-n
returns-then-x-n c =
    let over = c.if-x-last.false in
    let high = c.if-x-n.true in
    past_all _ _ _ _ c.loop-x.invariant c.loop-x-test.true (omega arith) (omega arith)

pub loop-x-preserved : goal.loop-x-preserved
loop-x-preserved c =
    let over = c.if-x-last.false in
    let within = c.if-x-n.false in
    rising _ _ _ _ c.loop-x.invariant c.loop-x-test.true (omega arith) (omega arith)

pub returns : goal.returns
returns c = risen _ _ _ _ c.loop-x.invariant c.loop-x-test.false
