use Rattle.std.proofs.Common.{◌+◌}
use Rattle.graphs.specs.Nodes.{is_link}
use Rattle.images.proofs.Checks.{Tested}
use Rattle.images.proofs.check.after_out.Given as goal

abbrev pub invariant-loop-word : goal.invariant-loop-word
invariant-loop-word l = Tested (is_link l.g.n l.g.m) l.g.after.now (l.g.n + l.g.m) l.word-index l.out
