-- The number that stands at a place is found, or digits out of form.
use Rattle.std.proofs.Common.{◌≤◌, arith}
use Rattle.numbers.proofs.NumberLoops.{Ahead, Counted, counted-of, number_past, none-counted, number-over, number-read, reading-digit, reading-room, reading-next, converted, unconverted}
use Rattle.numbers.proofs.read_number.Goals.{After-digits_ahead-count}
use Rattle.numbers.proofs.read_number.Goals as goal

here : (c : After-digits_ahead-count) → Counted c.args.text.now c.args.at c.in_ok-rest.rest.now c.digits_ahead-count.result
here c = counted-of c.in_ok-rest.ensures.lookup.0.2 (omega arith) c.min-most.ensures c.digits_ahead-count.ensures

all : (c : After-digits_ahead-count) → c.digits_ahead-count.result ≤ 5 → Ahead c.args.text.now c.args.at c.in_ok-rest.rest.now c.digits_ahead-count.result
all c h = (here c).all h

pub returns-in_err-rest : goal.returns-in_err-rest
returns-in_err-rest c = rw c.from_residual.ensures (number_past c.args.text.now c.args.at (omega (arith, c.in_err-rest.ensures.lookup)))

pub returns-then-count-eq0 : goal.returns-then-count-eq0
returns-then-count-eq0 c = none-counted (here (goal.at.returns-then-count-eq0 c).After-digits_ahead-count) c.then-count-eq0.either

pub overflow_mul-value : goal.overflow_mul-value
overflow_mul-value c =
    let a = all (goal.at.overflow_mul-value c).After-digits_ahead-count c.if-count-gt-MOST_DIGITS.false in
    omega (arith, reading-room a c.loop-digit-test.true c.if-count-gt-MOST_DIGITS.false c.loop-digit.invariant)

pub overflow_sub-digit : goal.overflow_sub-digit
overflow_sub-digit c = (reading-digit (all (goal.at.overflow_sub-digit c).After-digits_ahead-count c.if-count-gt-MOST_DIGITS.false) c.loop-digit-test.true).low

pub overflow_add-value : goal.overflow_add-value
overflow_add-value c =
    let a = all (goal.at.overflow_add-value c).After-digits_ahead-count c.if-count-gt-MOST_DIGITS.false in
    omega (arith, reading-digit a c.loop-digit-test.true, reading-room a c.loop-digit-test.true c.if-count-gt-MOST_DIGITS.false c.loop-digit.invariant)

pub loop-digit-preserved : goal.loop-digit-preserved
loop-digit-preserved c =
    let a = all (goal.at.loop-digit-preserved c).After-digits_ahead-count c.if-count-gt-MOST_DIGITS.false in
    rw c.from.ensures (reading-next a c.loop-digit-test.true c.loop-digit.invariant)

pub returns-in_err-value : goal.returns-in_err-value
returns-in_err-value c =
    let a = all (goal.at.returns-in_err-value c).After-digits_ahead-count c.if-count-gt-MOST_DIGITS.false in
    rw c.from_residual-in_err-value.ensures
    (number-over a c.loop-digit.invariant c.loop-digit-test.false (unconverted c.try_from.result c.try_from.ensures c.in_err-value.ensures.value))

pub returns : goal.returns
returns c =
    number-read
    (all (goal.at.returns c).After-digits_ahead-count c.if-count-gt-MOST_DIGITS.false)
    c.loop-digit.invariant
    c.loop-digit-test.false
    c.if-count-eq0.false
    c.if-count-gt-MOST_DIGITS.false
    (converted c.try_from.result c.try_from.ensures c.in_ok-value.ensures.value)
