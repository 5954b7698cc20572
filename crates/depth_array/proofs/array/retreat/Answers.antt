-- Going back along the tree edge into v keeps the place, and its tail gets v back.
-- The increment of the parent says which of its edges that is; each answer is a law of `Increments`.
use Rattle.std.proofs.Common.{refl, arith}
use Rattle.depth_array.proofs.Increments.{retreat-reads, back-move, back-words}
use Rattle.depth_array.proofs.array.retreat.Goals as goal

pub bounds-increments-i : goal.bounds-increments-i
bounds-increments-i c = let f = retreat-reads c.requires in omega arith

pub overflow_add-p : goal.overflow_add-p
overflow_add-p c = let f = retreat-reads c.requires in omega arith

pub overflow_sub-p : goal.overflow_sub-p
overflow_sub-p c = let f = retreat-reads c.requires in omega arith

pub overflow_sub-j : goal.overflow_sub-j
overflow_sub-j c = let f = retreat-reads c.requires in omega arith

pub bounds-tails-j : goal.bounds-tails-j
bounds-tails-j c = let f = retreat-reads c.requires in omega arith

pub bounds-tails-j-2 : goal.bounds-tails-j-2
bounds-tails-j-2 c = let f = retreat-reads c.requires in omega arith

pub overflow_add-n : goal.overflow_add-n
overflow_add-n c = let f = retreat-reads c.requires in omega arith

pub overflow_add-result : goal.overflow_add-result
overflow_add-result c = let f = retreat-reads c.requires in omega arith

pub returns : goal.returns
returns c =
    let z = c.requires in
    let a = c.emit-a.ensures in
    let b = c.emit-tally.ensures in
    record {
      at = λ before start t m i e A. back-move A z.1 z.2 (a.tally, a.events) _ refl (b.tally, b.events);
      words = back-words z.0.is z.1 z.2 (a.tally, a.events) _ refl (b.tally, b.events);
    }
