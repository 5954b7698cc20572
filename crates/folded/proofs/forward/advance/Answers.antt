use Rattle.std.proofs.Common.{sym, ◌∙◌}
use Rattle.graphs.proofs.Nodes.{vertex-is}
use Rattle.lists.proofs.Words.{read_past}
use Rattle.folded.specs.Steps.{held}
use Rattle.folded.proofs.Forwards.{target-vertex, mark, onward-unfit, onward-tree, onward-nontree}
use Rattle.folded.proofs.forward.advance.Goals as goal

pub returns-then-not-is_vertex-clause-left : goal.returns-then-not-is_vertex-clause-left
returns-then-not-is_vertex-clause-left c = let a = c.args in sym (onward-unfit (held a.s a.areas.now) a.made a.areas.now.events.now (sym c.is_vertex.ensures ∙ c.if-not-is_vertex.true))

pub tree-requires : goal.tree-requires
tree-requires c = let a = c.args in let p = c.requires in let h = vertex-is _ _ (sym c.is_vertex.ensures ∙ c.if-not-is_vertex.false) in (p.0, p.1, sym (read_past a.s.n a.areas.now.tail.now a.s.e.0), h.0, h.1, p.2)

pub returns-then-mark-eq0-clause-left : goal.returns-then-mark-eq0-clause-left
returns-then-mark-eq0-clause-left c = let a = c.args in onward-tree (held a.s a.areas.now) a.made a.areas.now.events.now c.if-mark-eq0.true c.tree.ensures.left

pub returns-clause-left : goal.returns-clause-left
returns-clause-left c = let a = c.args in onward-nontree (held a.s a.areas.now) a.made a.areas.now.events.now c.if-mark-eq0.false c.nontree.ensures.left

pub nontree-requires : goal.nontree-requires
nontree-requires c = let a = c.args in let p = c.requires in let w = held a.s a.areas.now in (p.0, p.1, target-vertex w (sym c.is_vertex.ensures ∙ c.if-not-is_vertex.false), mark w, p.2)
