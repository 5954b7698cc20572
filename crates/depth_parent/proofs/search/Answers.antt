-- The whole search.
-- It begins at the first place and has come to the last; the scan of the start is the last event.
use Rattle.depth_parent.proofs.Parents.{search-ends}
use Rattle.depth_parent.proofs.search.Goals as goal

pub returns : goal.returns
returns c = search-ends (c.finish-q.ensures.at _ _ _ _ c.open-p.ensures) c.finish-q.ensures.done.0 c.finish-q.ensures.done.1 (c.emit.ensures.tally, c.emit.ensures.events)
