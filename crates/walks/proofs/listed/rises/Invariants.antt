use Rattle.std.proofs.Common.{◌≡◌, drop}
use Rattle.graphs.specs.Refusals.{rises}
use Rattle.walks.proofs.listed.rises.Given as goal

abbrev pub invariant-loop-x : goal.invariant-loop-x
invariant-loop-x l = rises l.n l.last (drop l.x-index l.list) ≡ rises l.n 0 l.list
