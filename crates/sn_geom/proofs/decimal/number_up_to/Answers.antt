use Rattle.std.proofs.Common.{arith, sym, ◌∙◌, ◌+◌, ◌*◌, ◌≡◌, drop}
use Rattle.std.specs.Str.Parse.{digits_value_after}
use Rattle.sn_geom.proofs.DigitValues.{digit_value-at, digits_step, digits_value_after-le}
use Rattle.sn_geom.proofs.decimal.number_up_to.Goals as goal
use Rattle.sn_geom.proofs.decimal.number_up_to.Goals.{After-from}

pub overflow_mul-number : goal.overflow_mul-number
overflow_mul-number c = omega arith

pub overflow_sub-digit : goal.overflow_sub-digit
overflow_sub-digit c =
    (digit_value-at c.args.digits.now c.loop-digit.digit-index c.requires.digits c.loop-digit-test.true).1

-- the digit that was read goes behind the number before it
read_one : (c : After-from) → digits_value_after 10 (c.loop-digit.number * 10 + c.from.result) (drop (c.loop-digit.digit-index + 1) c.args.digits.now) ≡ digits_value_after 10 c.args.start c.args.digits.now
read_one c =
    rw c.from.ensures (sym (digits_step c.loop-digit.number c.args.digits.now c.loop-digit.digit-index c.requires.digits c.loop-digit-test.true) ∙ c.loop-digit.invariant.1)

pub returns-then-number-most : goal.returns-then-number-most
returns-then-number-most c = λ h.
    let next = c.loop-digit.number * 10 + c.from.result in
    let rest = drop (c.loop-digit.digit-index + 1) c.args.digits.now in
    omega (arith, read_one (goal.at.returns-then-number-most c).After-from, digits_value_after-le next rest)

pub loop-digit-preserved : goal.loop-digit-preserved
loop-digit-preserved c = (c.if-number-most.false, read_one (goal.at.loop-digit-preserved c).After-from)
