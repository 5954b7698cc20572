-- The scan of v ends, and the search goes back along the tree edge into it.
-- The parent word of v is the tree edge into the vertex gone back to: null at the start, else it leads to that vertex.
use Rattle.std.proofs.Common.{◌∙◌, arith}
use Rattle.depth_parent.proofs.Parents.{retreat-reads, back_start, back_target, retreat-total, retreat-at}
use Rattle.depth_parent.proofs.retreat.Goals as goal
use Rattle.depth_parent.proofs.retreat.Goals.{then-f-eq0, else-f-eq0}

pub bounds-parents-p : goal.bounds-parents-p
bounds-parents-p c = let f = retreat-reads c.requires in omega arith

pub overflow_sub-u : goal.overflow_sub-u
overflow_sub-u c = let f = retreat-reads c.requires in let e = f.2 c.if-f-eq0.false in omega arith

pub overflow_sub-u-else-f-eq0 : goal.overflow_sub-u-else-f-eq0
overflow_sub-u-else-f-eq0 c = let f = retreat-reads c.requires in let e = f.2 c.if-f-eq0.false in omega arith

pub bounds-g-f : goal.bounds-g-f
bounds-g-f c = let f = retreat-reads c.requires in let e = f.2 c.if-f-eq0.false in omega arith

pub bounds-g-p : goal.bounds-g-p
bounds-g-p c = let f = retreat-reads c.requires in omega arith

pub returns : goal.returns
returns c =
    let z = c.requires in
    let a = c.emit-a.ensures in
    let b = c.emit-tally.ensures in
    record {
      at = λ before marks₀ parents₀ events₀ A. retreat-at A z.1 z.2 (a.tally, a.events) c.if-f-eq0.u.0 (b.tally, b.events) (elim c.if-f-eq0.branch [ then-f-eq0 w ↦ (λ j. (w.u-is j).0) ∙ back_start A z.1 z.2 w.if-f-eq0.true | else-f-eq0 w ↦ (λ j. (w.u-is j).0) ∙ back_target A z.1 z.2 w.if-f-eq0.false ]);
      words = retreat-total z.0.is z.1 z.2 (a.tally, a.events) c.if-f-eq0.u.0 (b.tally, b.events) (elim c.if-f-eq0.branch [ then-f-eq0 w ↦ (λ j. (w.u-is j).0) ∙ back_start z.0.is z.1 z.2 w.if-f-eq0.true | else-f-eq0 w ↦ (λ j. (w.u-is j).0) ∙ back_target z.0.is z.1 z.2 w.if-f-eq0.false ]);
    }
