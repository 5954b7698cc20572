-- Marks and parents are cleared, and the start is labelled.
-- That is the place after the first event.
use Rattle.depth_parent.proofs.Parents.{open_at}
use Rattle.depth_parent.proofs.open.Goals as goal

pub returns : goal.returns
returns c = let b = c.begin-tally.ensures in open_at c.requires c.clear.ensures (b.tally, (rw c.nodes.ensures.count at b.marks, b.events))
