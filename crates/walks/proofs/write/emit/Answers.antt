-- Three words are stored behind those of the events tallied, where they have room.
use Rattle.std.proofs.Common.{◌≡◌, ap, ◌∙◌, sym, true, ℕ, ◌*◌, ◌-◌, arith, length, length-set}
use Rattle.walks.specs.Writing.{total, has_room}
use Rattle.walks.proofs.Storing.{Room, room-is, count_most, not_written, written}
use Rattle.walks.proofs.write.emit.Goals.{After-count-at}
use Rattle.walks.proofs.write.emit.Goals as goal

has : (c : After-count-at) → (let a = c.args in has_room a.kind a.tally (length a.events.now) ≡ true)
has c = sym c.has_room.ensures ∙ c.if-not-has_room.false

room : (c : After-count-at) → (let a = c.args in Room a.kind a.tally (length a.events.now))
room c = let a = c.args in room-is a.kind a.tally (length a.events.now) (has c)

pub returns-then-not-has_room : goal.returns-then-not-has_room
returns-then-not-has_room c =
    let a = c.args in
    let all = not_written a.kind a.r.0 a.u.0 a.tally a.events.now (sym c.has_room.ensures ∙ c.if-not-has_room.true) in
    record { tally = all.0; events = all.1 }

pub overflow_mul-at : goal.overflow_mul-at
overflow_mul-at c = omega (arith, (room (goal.at.overflow_mul-at c).After-count-at).few, c.count-at.ensures)

pub offset_bounds-events-at : goal.offset_bounds-events-at
offset_bounds-events-at c = omega (arith, (room (goal.at.offset_bounds-events-at c).After-count-at).few, c.count-at.ensures)

pub bounds-events-at : goal.bounds-events-at
bounds-events-at c = omega (arith, (room (goal.at.bounds-events-at c).After-count-at).room, c.count-at.ensures)

pub overflow_add-events : goal.overflow_add-events
overflow_add-events c = omega (arith, (room (goal.at.overflow_add-events c).After-count-at).few, c.count-at.ensures)

pub offset_bounds-events-at-2 : goal.offset_bounds-events-at-2
offset_bounds-events-at-2 c = omega (arith, (room (goal.at.offset_bounds-events-at-2 c).After-count-at).few, c.count-at.ensures)

pub bounds-events-at-2 : goal.bounds-events-at-2
bounds-events-at-2 c = simp length-set (omega (arith, (room (goal.at.bounds-events-at-2 c).After-count-at).room, c.count-at.ensures))

pub overflow_add-events-2 : goal.overflow_add-events-2
overflow_add-events-2 c = omega (arith, (room (goal.at.overflow_add-events-2 c).After-count-at).few, c.count-at.ensures)

pub offset_bounds-events-at-3 : goal.offset_bounds-events-at-3
offset_bounds-events-at-3 c = omega (arith, (room (goal.at.offset_bounds-events-at-3 c).After-count-at).few, c.count-at.ensures)

pub bounds-events-at-3 : goal.bounds-events-at-3
bounds-events-at-3 c = simp length-set (omega (arith, (room (goal.at.bounds-events-at-3 c).After-count-at).room, c.count-at.ensures))

pub overflow_sub-k : goal.overflow_sub-k
overflow_sub-k c = (room (goal.at.overflow_sub-k c).After-count-at).low

pub bounds-t-k : goal.bounds-t-k
bounds-t-k c = omega (arith, (room (goal.at.bounds-t-k c).After-count-at).low, (room (goal.at.bounds-t-k c).After-count-at).high)

pub overflow_add-t : goal.overflow_add-t
overflow_add-t c = let a = c.args in omega (arith, (room (goal.at.overflow_add-t c).After-count-at).few, count_most a.tally (a.kind - 1))

pub bounds-t-k-2 : goal.bounds-t-k-2
bounds-t-k-2 c = omega (arith, (room (goal.at.bounds-t-k-2 c).After-count-at).low, (room (goal.at.bounds-t-k-2 c).After-count-at).high)

pub returns : goal.returns
returns c =
    let a = c.args in
    let e : 3 * c.count-at.result ≡ 3 * total a.tally = ap (λ (x : ℕ). 3 * x) c.count-at.ensures in
    let all = written a.kind a.r.0 a.u.0 a.tally a.events.now (has (goal.at.returns c).After-count-at) (3 * c.count-at.result) e in
    record { tally = all.0; events = all.1 }
