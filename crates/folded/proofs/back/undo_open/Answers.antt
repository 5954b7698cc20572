use Rattle.folded.specs.Steps.{held}
use Rattle.folded.proofs.Backs.{undo-open-out, undo-open-made}
use Rattle.folded.proofs.back.undo_open.Goals as goal

pub returns-then-v-s-clause-left : goal.returns-then-v-s-clause-left
returns-then-v-s-clause-left c = let z = c.args in undo-open-out (held z.s z.areas.now) z.made z.areas.now.events.now c.if-v-s.true

pub returns-clause-left : goal.returns-clause-left
returns-clause-left c = let z = c.args in undo-open-made (held z.s z.areas.now) z.made z.areas.now.events.now c.if-v-s.false c.rest_marks.ensures
