-- The mark is stored and the event written, where both have room.
use Rattle.std.proofs.Common.{◌∙◌, sym, arith}
use Rattle.walks.proofs.Storing.{room-is, count_most, not-labelled, no-label-past, no-label-room, is-labelled}
use Rattle.walks.proofs.write.label.Goals as goal

pub returns-then-x-eq0 : goal.returns-then-x-eq0
returns-then-x-eq0 c = let a = c.args in let all = not-labelled a.u.0 a.tally a.marks.now a.events.now (rw c.if-x-eq0.true) in
    record { tally = all.0; marks = all.1.0; events = all.1.1 }

pub returns-then-x-marks : goal.returns-then-x-marks
returns-then-x-marks c = let a = c.args in let all = not-labelled a.u.0 a.tally a.marks.now a.events.now (no-label-past a.u.0 a.tally a.marks.now a.events.now c.if-x-marks.true) in
    record { tally = all.0; marks = all.1.0; events = all.1.1 }

pub returns-then-not-has_room : goal.returns-then-not-has_room
returns-then-not-has_room c =
    let a = c.args in
    let x = c.if-x-eq0.false in
    let y = c.if-x-marks.false in
    let no = sym c.has_room.ensures ∙ c.if-not-has_room.true in
    let all = not-labelled a.u.0 a.tally a.marks.now a.events.now (no-label-room a.u.0 a.tally a.marks.now a.events.now (omega arith) (omega arith) no) in
    record { tally = all.0; marks = all.1.0; events = all.1.1 }

pub overflow_add-marks : goal.overflow_add-marks
overflow_add-marks c =
    let a = c.args in
    let R = room-is 1 a.tally _ (sym c.has_room.ensures ∙ c.if-not-has_room.false) in
    omega (arith, R.few, count_most a.tally 0)

pub overflow_cast-marks : goal.overflow_cast-marks
overflow_cast-marks c =
    let a = c.args in
    let R = room-is 1 a.tally _ (sym c.has_room.ensures ∙ c.if-not-has_room.false) in
    omega (arith, R.few, count_most a.tally 0)

pub returns : goal.returns
returns c =
    let a = c.args in
    let x = c.if-x-eq0.false in
    let y = c.if-x-marks.false in
    let has = sym c.has_room.ensures ∙ c.if-not-has_room.false in
    let all = is-labelled a.u.0 a.tally a.marks.now a.events.now (omega arith) (omega arith) has (c.emit.ensures.tally, c.emit.ensures.events) in
    record { tally = all.0; marks = all.1.0; events = all.1.1 }
