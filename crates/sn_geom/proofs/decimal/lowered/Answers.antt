use Rattle.std.proofs.Common.{◌<◌, ◌^◌, ℕ, arith}
use Rattle.std.proofs.Math.Nat.{one-le-pow}
use Rattle.sn_geom.proofs.RoundingLaws.{RoundsTo-up, RoundsTo-down}
use Rattle.sn_geom.proofs.decimal.lowered.Goals as goal

some_ten : (k : ℕ) → 0 < 10 ^ k
some_ten k = omega (arith, one-le-pow k 10 (omega arith))

pub nonzero_div-quotient : goal.nonzero_div-quotient
nonzero_div-quotient c = omega (arith, some_ten c.args.places)

pub nonzero_rem-rest : goal.nonzero_rem-rest
nonzero_rem-rest c = omega (arith, some_ten c.args.places)

pub overflow_sub-unit : goal.overflow_sub-unit
overflow_sub-unit c = omega (arith, some_ten c.args.places)

pub returns-then-rest-unit : goal.returns-then-rest-unit
returns-then-rest-unit c =
    rw (← c.in-Some.ensures.1) (RoundsTo-up c.args.n c.in-Some.unit (omega (arith, some_ten c.args.places)) c.if-rest-unit.true)

pub returns-else-rest-unit : goal.returns-else-rest-unit
returns-else-rest-unit c =
    rw (← c.in-Some.ensures.1) (RoundsTo-down c.args.n c.in-Some.unit (omega (arith, some_ten c.args.places)) c.if-rest-unit.false)
