-- Linking: from the last value line to the first, each edge is put in front of its vertex's list.
-- When k lines are left, the words are those of `Linked` at k, for whatever lines and area the words came from.
use Rattle.std.proofs.Common.{◌≡◌, arith, length-set}
use Rattle.texts.proofs.Linking.{Room, cleared-front, linked-none, linked-next, linked-all, link-room}
use Rattle.texts.proofs.link.Goals.{In-loop-k}
use Rattle.texts.proofs.link.Goals as goal

-- What each turn may count on.
room : (c : In-loop-k) → Room c.args.n c.loop-k.k c.loop-k.after
room c = link-room c.requires (cleared-front c.requires.placed (c.fill.ensures.after (λ y h. h))) c.loop-k.invariant c.loop-k-test.true

pub overflow_sub-v : goal.overflow_sub-v
overflow_sub-v c = let r = room (goal.at.overflow_sub-v c).In-loop-k in omega arith

pub bounds-after-v : goal.bounds-after-v
bounds-after-v c = let r = room (goal.at.bounds-after-v c).In-loop-k in omega arith

pub bounds-after-v-in-loop-k : goal.bounds-after-v-in-loop-k
bounds-after-v-in-loop-k c = let r = room (goal.at.bounds-after-v-in-loop-k c).In-loop-k in simp length-set (omega arith)

pub loop-k-preserved : goal.loop-k-preserved
loop-k-preserved c = λ ls area h. linked-next c.loop-k.k (c.loop-k.invariant ls area h) c.loop-k-test.true

pub returns : goal.returns
returns c = λ start ls area p.
    let h = c.loop-k.invariant ls area (linked-none p (cleared-front p (c.fill.ensures.after (λ y h. h)))) in
    let z : c.loop-k.k ≡ 0 = omega arith in
    linked-all start (rw z at h)
