use Rattle.std.proofs.Common.{◌↔◌, arith}
use Rattle.std.proofs.lemmas.Int.{ints}
use Rattle.sn_geom.proofs.Nearness.{near_behind, near_past, near_beside}
use Rattle.sn_geom.proofs.sweep.near.Goals as goal

both : {P Q R : Type 0} → P ↔ Q → Q ↔ R → P ↔ R
both e f = (λ p. f.0 (e.0 p), λ r. e.1 (f.1 r))

pub returns-then-along-le0 : goal.returns-then-along-le0
returns-then-along-le0 c =
    let direction = c.between-direction.ensures in
    let from_a = c.between-from_a.ensures in
    both c.is_within.ensures (near_behind _ _ _ _ _ _ _ _ direction.x direction.y from_a.x from_a.y (rw (← c.dot-along.ensures.value) (omega (arith, ints))))

pub returns-then-unsigned_abs-length_squared : goal.returns-then-unsigned_abs-length_squared
returns-then-unsigned_abs-length_squared c =
    let direction = c.between-direction.ensures in
    let from_a = c.between-from_a.ensures in
    let from_b = c.between.ensures in
    both c.is_within-then-unsigned_abs-length_squared.ensures
    (near_past _ _ _ _ _ _ _ _ _ _ _ direction.x direction.y from_a.x from_a.y from_b.x from_b.y c.dot-along.ensures.value (omega (arith, ints)) (omega (arith, ints)))

pub returns : goal.returns
returns c =
    let direction = c.between-direction.ensures in
    let from_a = c.between-from_a.ensures in
    both c.is_beside.ensures
    (near_beside _ _ _ _ _ _ _ _ _ direction.x direction.y from_a.x from_a.y c.dot-along.ensures.value (omega (arith, ints)) (omega (arith, ints)))
