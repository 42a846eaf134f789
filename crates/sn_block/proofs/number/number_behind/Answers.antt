use Rattle.std.proofs.Common.{◌+◌, ◌-◌, ◌*◌, ◌∙◌, ap, get_or, arith, ℕ}
use Rattle.std.specs.Prelude.{min}
use Rattle.sn_block.proofs.Digits.{digit_value-at, capped_more}
use Rattle.sn_block.proofs.number.number_behind.Goals as goal

pub with_digit-number-requires-clause-low : goal.with_digit-number-requires-clause-low
with_digit-number-requires-clause-low c = (digit_value-at c.args.digits.now c.loop-digit.digit-index c.requires.digits c.loop-digit-test.true).1

pub with_digit-number-requires-clause-high : goal.with_digit-number-requires-clause-high
with_digit-number-requires-clause-high c = (digit_value-at c.args.digits.now c.loop-digit.digit-index c.requires.digits c.loop-digit-test.true).2

pub loop-digit-preserved : goal.loop-digit-preserved
loop-digit-preserved c = (
  c.with_digit-number.ensures
      ∙ (ap (λ (n : ℕ). min c.args.most (n * 10 + (get_or c.args.digits.now c.loop-digit.digit-index 0 - 48))) c.loop-digit.invariant.0
      ∙ capped_more c.args.most c.args.start c.args.digits.now c.loop-digit.digit-index c.requires.digits c.loop-digit-test.true),
  omega (arith, c.with_digit-number.ensures),
)
