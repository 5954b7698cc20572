use Rattle.folded.proofs.Stores.{read-own, read-other}
use Rattle.folded.proofs.tried.read_after.Goals as goal

pub returns-then-x-v : goal.returns-then-x-v
returns-then-x-v c = let a = c.args in let p = c.requires in read-own a.areas.now.after.now a.x a.v a.e c.if-x-v.true p.2 p.3

pub returns : goal.returns
returns c = let a = c.args in let p = c.requires in read-other a.areas.now.after.now a.x a.v a.e c.if-x-v.false p.0 p.2
