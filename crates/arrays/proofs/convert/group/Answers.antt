-- The lists of all vertices are written one behind the other, and the first position of each.
-- After u turns the three areas begin with what belongs to the elements 1 to u.
use Rattle.arrays.proofs.Grouping.{group-start, group-list, group-more, group-end}
use Rattle.arrays.proofs.convert.group.Goals as goal

pub loop-u-init : goal.loop-u-init
loop-u-init c = group-start c.requires

pub list_edges-p-requires : goal.list_edges-p-requires
list_edges-p-requires c = group-list c.requires c.loop-u.invariant c.loop-u-test.true

pub loop-u-preserved : goal.loop-u-preserved
loop-u-preserved c = group-more c.requires c.loop-u.invariant c.loop-u-test.true (c.list_edges-p.ensures.next, (c.list_edges-p.ensures.tails, c.list_edges-p.ensures.numbers))

pub returns : goal.returns
returns c = let all = group-end c.requires c.loop-u.invariant c.loop-u-test.false in
    record { firsts = all.0; tails = all.1.0; numbers = all.1.1 }
