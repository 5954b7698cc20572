use Rattle.folded.specs.Steps.{held}
use Rattle.folded.proofs.Picked.{coming, picks-relink, picks-undo-open, picks-undo-tree, picks-finish, picks-retreat}
use Rattle.folded.proofs.moves.go_back.Goals as goal

pub returns-then-f-s-clause-left : goal.returns-then-f-s-clause-left
returns-then-f-s-clause-left c = let z = c.args in let w = held z.s z.areas.now in coming w z.made z.areas.now.events.now (picks-relink w c.requires.1 c.if-f-s.true) c.relink.ensures.left

pub returns-then-f-eq0-clause-left : goal.returns-then-f-eq0-clause-left
returns-then-f-eq0-clause-left c = let z = c.args in let w = held z.s z.areas.now in coming w z.made z.areas.now.events.now (picks-undo-open w c.requires.1 c.if-f-s.false c.if-s.true c.if-f-eq0.true) c.undo_open.ensures.left

pub returns-then-s-clause-left : goal.returns-then-s-clause-left
returns-then-s-clause-left c = let z = c.args in let w = held z.s z.areas.now in coming w z.made z.areas.now.events.now (picks-undo-tree w c.requires.1 c.if-f-s.false c.if-s.true c.if-f-eq0.false) c.undo_tree.ensures.left

pub returns-then-f-eq0-2-clause-left : goal.returns-then-f-eq0-2-clause-left
returns-then-f-eq0-2-clause-left c = let z = c.args in let w = held z.s z.areas.now in coming w z.made z.areas.now.events.now (picks-finish w c.requires.1 c.if-f-s.false c.if-s.false c.if-f-eq0-2.true) c.finish.ensures.left

pub returns-clause-left : goal.returns-clause-left
returns-clause-left c = let z = c.args in let w = held z.s z.areas.now in coming w z.made z.areas.now.events.now (picks-retreat w c.requires.1 c.if-f-s.false c.if-s.false c.if-f-eq0-2.false) c.retreat.ensures.left
