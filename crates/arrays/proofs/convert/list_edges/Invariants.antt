use Rattle.std.proofs.Common.{suc, ◌-◌}
use Rattle.images.specs.Checking.{image_of}
use Rattle.arrays.proofs.Grouping.{Listed, Turn}
use Rattle.arrays.proofs.convert.list_edges.Given as goal

abbrev pub invariant-loop-r : goal.invariant-loop-r
invariant-loop-r l = record {
  listed : Listed (image_of l.g) l.fn.u.0 l.p l.initial.tails l.initial.numbers l.tails l.numbers l.q l.r;
  turn : Turn (image_of l.g) l.tails l.numbers l.q l.r;
}

abbrev pub decreases-loop-r : goal.decreases-loop-r
decreases-loop-r l = suc l.g.m - l.q
