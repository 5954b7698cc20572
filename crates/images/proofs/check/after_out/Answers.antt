-- `images::check::after_out` meets its contract: what it returns is condition 5, whatever the tails.
-- The loop keeps whether an after word that was passed is no link.
use Rattle.graphs.specs.Refusals.{after_out}
use Rattle.images.proofs.Checks.{tested-next, tested-all}
use Rattle.images.proofs.check.after_out.Goals as goal

pub loop-word-preserved : goal.loop-word-preserved
loop-word-preserved c = tested-next c.loop-word.invariant c.nodes.ensures.count c.requires.long_after c.loop-word-test.true c.is_link-link.ensures

pub returns : goal.returns
unfolding after_out
returns c = λ tail. tested-all c.loop-word.invariant c.nodes.ensures.count c.requires.long_after c.loop-word-test.false
