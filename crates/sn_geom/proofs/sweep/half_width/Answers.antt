use Rattle.std.proofs.Common.{◌*◌, arith}
use Rattle.std.proofs.lemmas.Nat.{mul-le}
use Rattle.sn_geom.proofs.Discs.{is_half_width}
use Rattle.sn_geom.proofs.sweep.half_width.Goals as goal

pub overflow_sub-rest : goal.overflow_sub-rest
overflow_sub-rest c =
    let h = mul-le (2 * c.args.dy) (2 * c.args.dy) c.args.d c.args.d c.if-d-dy.false c.if-d-dy.false in
    omega (arith, c.squared.ensures, c.squared-2.ensures)

pub returns-clause-greatest : goal.returns-clause-greatest
returns-clause-greatest c =
    is_half_width c.args.d c.args.dy _ _ c.if-d-dy.false (omega (arith, c.squared.ensures, c.squared-2.ensures)) c.isqrt.ensures.square_le c.isqrt.ensures.next_square_gt
