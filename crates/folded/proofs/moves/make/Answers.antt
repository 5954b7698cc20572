use Rattle.folded.specs.Steps.{held}
use Rattle.folded.proofs.Picked.{coming, goes-forward, picks-onward}
use Rattle.folded.proofs.moves.make.Goals as goal

pub returns-then-s-ne0-clause-left : goal.returns-then-s-ne0-clause-left
returns-then-s-ne0-clause-left c = let z = c.args in let w = held z.s z.areas.now in coming w z.made z.areas.now.events.now (picks-onward w (goes-forward w c.if-s.true c.if-s-ne0.true)) c.advance.ensures.left
