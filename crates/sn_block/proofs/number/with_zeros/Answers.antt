use Rattle.std.proofs.Common.{◌+◌, ◌-◌, ◌*◌, ◌∙◌, ap, arith, ℕ}
use Rattle.std.specs.Prelude.{min}
use Rattle.sn_block.specs.declared.number.TheConstants.{MOST_SIZE}
use Rattle.sn_block.proofs.Digits.{capped_zero}
use Rattle.sn_block.proofs.number.with_zeros.Goals as goal

pub loop-place-preserved : goal.loop-place-preserved
loop-place-preserved c = (
  c.with_digit-size.ensures
      ∙ (ap (λ (n : ℕ). min MOST_SIZE (n * 10 + (48 - 48))) c.loop-place.invariant.0 ∙ capped_zero MOST_SIZE c.args.start c.loop-place._place),
  omega (arith, c.with_digit-size.ensures),
)
