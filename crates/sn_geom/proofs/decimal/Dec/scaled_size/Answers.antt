use Rattle.std.proofs.Common.{◌*◌, ◌<◌, ◌^◌, pos, SomeIff, arith}
use Rattle.std.proofs.lemmas.Int.{ints}
use Rattle.sn_geom.specs.Decimal.{Decimal}
use Rattle.sn_geom.specs.Rounding.{RoundsTo}
use Rattle.sn_geom.proofs.Powers.{lowered_power, raised_power, scales, scales_or_past}
use Rattle.sn_geom.proofs.decimal.Dec.scaled_size.Goals as goal

pub returns-then-self-lt0 : goal.returns-then-self-lt0
returns-then-self-lt0 c =
    let d : Decimal = record { negative = c.self.inside.neg; digits = c.self.inside.digits; exponent = c.self.inside.exp } in
    let size : RoundsTo (pos (d.digits * c.args.k)) (10 ^ c.from-places.result) (pos c.lowered.result) = rw (← c.from.ensures) c.lowered.ensures in
    rw (← c.self.view_is) (scales d c.args.k c.lowered.result (lowered_power (d.digits * c.args.k) c.lowered.result c.from-places.result d.exponent (omega (arith, ints)) (omega (arith, ints)) size))

pub returns-else-self-lt0 : goal.returns-else-self-lt0
returns-else-self-lt0 c =
    let d : Decimal = record { negative = c.self.inside.neg; digits = c.self.inside.digits; exponent = c.self.inside.exp } in
    let n = d.digits * c.args.k in
    let size : SomeIff c.raised.result (n * 10 ^ c.from-places.result < 2 ^ 128) (n * 10 ^ c.from-places.result) = rw (← c.from.ensures) c.raised.ensures in
    rw (← c.self.view_is) (scales_or_past d c.args.k c.raised.result (raised_power n c.from-places.result d.exponent c.raised.result (omega (arith, ints)) (omega (arith, ints)) size))
