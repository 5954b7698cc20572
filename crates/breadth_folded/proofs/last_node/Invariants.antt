use Rattle.graphs.proofs.Sound.{edges_left}
use Rattle.breadth_folded.specs.Threads.{last_from}
use Rattle.breadth_folded.proofs.Threads.{Following}
use Rattle.breadth_folded.proofs.last_node.Given as goal

abbrev pub invariant-loop-a : goal.invariant-loop-a
invariant-loop-a l = Following l.g.n l.g.m l.g.after.now (last_from l.g.m l.g.after.now l.x) l.f l.a

abbrev pub decreases-loop-a : goal.decreases-loop-a
decreases-loop-a l = edges_left l.g.m l.g.after.now l.a
