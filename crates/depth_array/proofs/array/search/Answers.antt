-- The search from its first place to its last, where the scan of the start ends it.
use Rattle.depth_array.proofs.Increments.{ended}
use Rattle.depth_array.proofs.array.search.Goals as goal

pub returns : goal.returns
returns c =
    let f = c.finish-q.ensures in
    ended (f.at _ _ _ _ _ _ c.open-p.ensures) f.done.0 f.done.1 (c.emit.ensures.tally, c.emit.ensures.events)
