-- `images::check::tail_out` meets its contract: what it returns is condition 6.
-- Where the area is too short, a missing word is 0 and no vertex. The loop keeps whether a tail that was passed is no vertex.
use Rattle.std.proofs.Common.{refl, arith}
use Rattle.graphs.specs.Nodes.{is_vertex}
use Rattle.graphs.specs.Refusals.{tail_out}
use Rattle.images.proofs.Checks.{short-out, tested-next, tested-all}
use Rattle.images.proofs.check.tail_out.Goals as goal

pub returns-then-tail-top : goal.returns-then-tail-top
unfolding tail_out
returns-then-tail-top c = let a = c.args in short-out (is_vertex a.n) a.tail.now a.m c.if-tail-top.true refl

pub loop-word-preserved : goal.loop-word-preserved
loop-word-preserved c = tested-next c.loop-word.invariant refl (omega arith) c.loop-word-test.true c.is_vertex-vertex.ensures

pub returns : goal.returns
unfolding tail_out
returns c = tested-all c.loop-word.invariant refl (omega arith) c.loop-word-test.false
