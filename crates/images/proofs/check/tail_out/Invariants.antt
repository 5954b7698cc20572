use Rattle.graphs.specs.Nodes.{is_vertex}
use Rattle.images.proofs.Checks.{Tested}
use Rattle.images.proofs.check.tail_out.Given as goal

abbrev pub invariant-loop-word : goal.invariant-loop-word
invariant-loop-word l = Tested (is_vertex l.n) l.tail l.m l.word-index l.out
