use Rattle.std.proofs.Common.{◌≡◌, ◌+◌, ◌*◌, ◌-◌, get_or, arith}
use Rattle.sn_lex.proofs.Digits.{digits_step, too_great, all_digits}
use Rattle.sn_lex.proofs.read.instance_number.Goals as goal

pub returns-in_err-checked_mul : goal.returns-in_err-checked_mul
returns-in_err-checked_mul c =
    rw c.from_residual.ensures (too_great c.args.digits.now c.loop-digit.digit-index _ c.requires c.loop-digit-test.true c.loop-digit.invariant.1 (omega (arith, c.in_err-checked_mul.ensures)))

pub returns-in_err-number : goal.returns-in_err-number
returns-in_err-number c =
    rw c.from_residual-in_err-number.ensures (too_great c.args.digits.now c.loop-digit.digit-index _ c.requires c.loop-digit-test.true c.loop-digit.invariant.1 (omega (arith, c.in_err-number.ensures, c.in_ok-checked_mul.ensures, c.from.ensures)))

pub loop-digit-preserved : goal.loop-digit-preserved
loop-digit-preserved c =
    let digits = c.args.digits.now in
    let next : c.in_ok-number.number ≡ c.loop-digit.number * 10 + (get_or digits c.loop-digit.digit-index 0 - 48) = omega (arith, c.in_ok-number.ensures, c.in_ok-checked_mul.ensures, c.from.ensures) in
    (omega (arith, c.in_ok-number.ensures), omega (arith, next, digits_step digits c.loop-digit.digit-index _ c.requires c.loop-digit-test.true c.loop-digit.invariant.1))

pub returns-else-number-eq0 : goal.returns-else-number-eq0
returns-else-number-eq0 c =
    let whole = all_digits c.args.digits.now c.loop-digit.digit-index _ c.loop-digit-test.false c.loop-digit.invariant.1 in
    ((omega (arith, whole, c.if-number-eq0.false), omega (arith, whole, c.loop-digit.invariant.0)), whole)
