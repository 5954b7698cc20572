use Rattle.folded.specs.Steps.{held}
use Rattle.folded.proofs.Backs.{relink-out, relink-made}
use Rattle.folded.proofs.back.relink.Goals as goal

pub returns-then-w-s-clause-left : goal.returns-then-w-s-clause-left
returns-then-w-s-clause-left c = let z = c.args in relink-out (held z.s z.areas.now) z.made z.areas.now.events.now c.if-w-s.true

pub returns-clause-left : goal.returns-clause-left
returns-clause-left c = let z = c.args in relink-made (held z.s z.areas.now) z.made z.areas.now.events.now c.relinked-phase.ensures c.if-w-s.false
