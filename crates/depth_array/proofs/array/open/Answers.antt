-- The areas are cleared and the start is labelled: the first place of the search.
use Rattle.depth_array.proofs.Increments.{begun}
use Rattle.depth_array.proofs.array.open.Goals as goal

pub returns : goal.returns
returns c = let b = c.begin-tally.ensures in begun c.requires c.clear.ensures (b.tally, (b.marks, b.events))
