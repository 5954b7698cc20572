-- Fewer than seven words for the tally are one short area more; seven words or more add nothing to the number.
-- All else is as the walker leaves it, and of a walk taken its tally is stored.
use Rattle.std.proofs.Common.{refl, ◌∙◌}
use Rattle.graphs.proofs.Refusals.{refused}
use Rattle.arrays.specs.Arrays.{array_in}
use Rattle.tally_words.proofs.Numbers.{array_long, array-short}
use Rattle.tally_words.proofs.Handing.{handed-over}
use Rattle.tally_words.proofs.dfs_array_in_words.Goals as goal

pub returns-then-counts-lt7 : goal.returns-then-counts-lt7
returns-then-counts-lt7 c =
    let a = c.args in
    let k = array-short (array_in a.n a.m a.firsts.now a.tails.now) a.before.now a.start a.marks.now a.increments.now a.events.now a.counts.now (c.number.ensures ∙ c.check_array_walk.ensures) c.if-counts-lt7.true in
    record { walk = (k.0, refused _ _ a.counts.now k.1, refused _ _ a.marks.now k.1, refused _ _ a.events.now k.1); tails = refl; increments = refused _ _ a.increments.now k.1 }

pub returns : goal.returns
returns c =
    let a = c.args in
    let e = c.dfs_array-w.ensures in
    let o = c.hand_over.ensures in
    let long = array_long (array_in a.n a.m a.firsts.now a.tails.now) a.before.now a.start a.marks.now a.increments.now a.events.now a.counts.now c.if-counts-lt7.false in
    record { walk = handed-over a.counts.now c.dfs_array-w.result e.walk long o.number o.words; tails = e.tails; increments = rw o.number e.increments }
