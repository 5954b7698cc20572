use Rattle.folded.specs.Steps.{held}
use Rattle.folded.proofs.Backs.{finish-out, finish-made}
use Rattle.folded.proofs.back.finish.Goals as goal

pub returns-then-v-s-clause-left : goal.returns-then-v-s-clause-left
returns-then-v-s-clause-left c = let z = c.args in finish-out (held z.s z.areas.now) z.made z.areas.now.events.now c.if-v-s.true

pub returns-clause-left : goal.returns-clause-left
returns-clause-left c = let z = c.args in finish-made (held z.s z.areas.now) z.made z.areas.now.events.now c.if-v-s.false c.unmark.ensures c.write.ensures
