-- The digits of the number are put into the area where there is room for them all.
-- The loop keeps: the last digits stand in the area from place at + i on, and `rest` has the first i.
use Rattle.std.proofs.Common.{arith, length-set}
use Rattle.numbers.proofs.NumberLoops.{Put, putting-next, put-none, put_all}
use Rattle.numbers.proofs.write_number.Goals.{Joined-then-area-at, then-area-at-via-then-area-at, then-area-at-via-else-area-at+then-area-at-2}
use Rattle.numbers.proofs.write_number.Goals as goal

no-room : (c : Joined-then-area-at) → Put c.args.x c.args.at c.args.area.now c.args.at c.args.area.now
no-room c =
    let z = c.args in
    put-none z.x c.decimal_length-k.result z.at z.area.now c.decimal_length-k.ensures
    (elim c.then-area-at.branch [
      | then-area-at-via-then-area-at w ↦ omega arith
      | then-area-at-via-else-area-at+then-area-at-2 w ↦ omega arith
    ])

pub returns-then-area-at-clause-next : goal.returns-then-area-at-clause-next
returns-then-area-at-clause-next c = (no-room (goal.at.returns-then-area-at-clause-next c).Joined-then-area-at).0

pub returns-then-area-at-clause-words : goal.returns-then-area-at-clause-words
returns-then-area-at-clause-words c = (no-room (goal.at.returns-then-area-at-clause-words c).Joined-then-area-at).1

pub loop-i-preserved : goal.loop-i-preserved
loop-i-preserved c =
    let z = c.args in
    let l = c.loop-i in
    (simp length-set (omega arith), putting-next z.x c.decimal_length-k.result z.at z.area.now l.area l.rest l.i l.invariant.1 (omega arith) (omega arith))

pub returns : goal.returns
returns c =
    let z = c.args in
    let l = c.loop-i in
    let all = put_all z.x c.decimal_length-k.result z.at z.area.now c.decimal_length-k.ensures l.area l.rest l.i l.invariant.1 (omega arith) (omega arith) in
    record { next = all.0; words = all.1 }
