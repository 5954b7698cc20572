-- Fewer than seven words for the tally are one short area more; seven words or more add nothing to the number.
-- All else is as the walker leaves it, and of a walk taken its tally is stored.
use Rattle.std.proofs.Common.{refl, ◌∙◌, []}
use Rattle.graphs.proofs.Refusals.{refused}
use Rattle.images.specs.Checking.{image}
use Rattle.tally_words.proofs.Numbers.{walk-long, walk-short}
use Rattle.tally_words.proofs.Handing.{handed-over}
use Rattle.tally_words.proofs.bfs_folded_in_words.Goals as goal

pub returns-then-counts-lt7 : goal.returns-then-counts-lt7
returns-then-counts-lt7 c =
    let a = c.args in
    let k = walk-short (image a.n a.m a.after.now a.tail.now) a.before.now a.start a.marks.now a.events.now [] a.counts.now (λ areas e. c.number.ensures ∙ c.check_walk.ensures areas e) c.if-counts-lt7.true in
    record { walk = (k.0, refused _ _ a.counts.now k.1, refused _ _ a.marks.now k.1, refused _ _ a.events.now k.1); after = refl }

pub returns : goal.returns
returns c =
    let a = c.args in
    let e = c.bfs_folded-w.ensures in
    let o = c.hand_over.ensures in
    let long = walk-long (image a.n a.m a.after.now a.tail.now) a.before.now a.start a.marks.now a.events.now [] a.counts.now c.if-counts-lt7.false in
    record { walk = handed-over a.counts.now c.bfs_folded-w.result e.walk long o.number o.words; after = e.after }
