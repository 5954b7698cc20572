-- The areas of the walk's own come behind the marks and the event words.
use Rattle.std.proofs.Common.{ℕ, ◌+◌, ◌*◌, ◌++◌, ◌∷◌, ◌&&◌, leb, length, ap, ◌∙◌}
use Rattle.graphs.specs.Refusals.{lent}
use Rattle.walks.specs.Promises.{written_areas}
use Rattle.walks.proofs.Numbers.{more-lent}
use Rattle.walks.proofs.checks.check_walk.Goals as goal

pub returns : goal.returns
returns c = λ own e.
    let z = c.args in
    let nodes = z.g.now.n + z.g.now.m in
    c.check_search.ensures (written_areas nodes z.marks.now z.events.now ++ own) (c.are_long-all.ensures ∙ ap (λ (k : ℕ). leb k (length z.marks.now) && (leb (6 * k) (length z.events.now) && z.long)) c.nodes.ensures.count ∙ more-lent nodes z.marks.now (lent (6 * nodes) z.events.now ∷ own) _ (more-lent (6 * nodes) z.events.now own _ e))
