use Rattle.std.proofs.Common.{◌≤◌}
use Rattle.images.proofs.Checks.{Met}
use Rattle.images.proofs.check.list_out.Given as goal

abbrev pub invariant-loop-first : goal.invariant-loop-first
invariant-loop-first l = (l.first-index ≤ l.g.n) × Met l.g.n l.g.m l.g.after.now l.flags l.count l.first-index
