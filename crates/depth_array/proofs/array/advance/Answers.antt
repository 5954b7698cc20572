-- Traversing the edge at the next position keeps the place: on to the vertex that it leads to, or to the next position.
-- Its increment and its mark tell whether that vertex is labelled or on the blank; each answer is a law of `Increments`.
use Rattle.std.proofs.Common.{sym, ◌∙◌, arith, length-set}
use Rattle.depth_array.proofs.Increments.{advance-reads, nontree-move, nontree-words, tree-move, tree-words}
use Rattle.depth_array.proofs.array.advance.Goals as goal

pub bounds-tails-j : goal.bounds-tails-j
bounds-tails-j c = let f = advance-reads c.requires in omega arith

pub overflow_sub-i : goal.overflow_sub-i
overflow_sub-i c = let f = advance-reads c.requires in omega arith

pub is_new-requires : goal.is_new-requires
is_new-requires c = let f = advance-reads c.requires in (omega arith, omega arith)

pub overflow_sub-increments : goal.overflow_sub-increments
overflow_sub-increments c = let f = advance-reads c.requires in omega arith

pub bounds-increments-here : goal.bounds-increments-here
bounds-increments-here c = let f = advance-reads c.requires in omega arith

pub bounds-tails-j-then-is_new : goal.bounds-tails-j-then-is_new
bounds-tails-j-then-is_new c = let f = advance-reads c.requires in omega arith

pub bounds-increments-i : goal.bounds-increments-i
bounds-increments-i c = let f = advance-reads c.requires in simp length-set (omega arith)

pub bounds-firsts-i : goal.bounds-firsts-i
bounds-firsts-i c = let f = advance-reads c.requires in omega arith

pub returns-then-is_new : goal.returns-then-is_new
returns-then-is_new c =
    let z = c.requires in
    let a = c.emit-a.ensures in
    let b = c.label-tally.ensures in
    let fresh = sym c.is_new.ensures ∙ c.if-is_new.true in
    record {
      at = λ before start t m i e A. tree-move A z.1 (a.tally, a.events) (b.tally, (b.marks, b.events)) fresh;
      words = tree-words z.0.is z.1 (a.tally, a.events) (b.tally, (b.marks, b.events)) fresh;
    }

pub returns-else-is_new : goal.returns-else-is_new
returns-else-is_new c =
    let z = c.requires in
    let a = c.emit-a-else-is_new.ensures in
    let b = c.emit-tally.ensures in
    record {
      at = λ before start t m i e A. nontree-move A z.1 (a.tally, a.events) (b.tally, b.events) (sym c.is_new.ensures ∙ c.if-is_new.false);
      words = nontree-words z.0.is z.1 (a.tally, a.events) (b.tally, b.events);
    }
