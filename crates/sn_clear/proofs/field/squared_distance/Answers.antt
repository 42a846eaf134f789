use Rattle.std.proofs.Common.{◌*◌, ◌^◌, ◌≤◌, arith}
use Rattle.std.proofs.lemmas.Nat.{mul-le}
use Rattle.sn_clear.proofs.field.squared_distance.Goals as goal

pub overflow_add-result : goal.overflow_add-result
overflow_add-result c =
    let across : c.abs_diff-across.result ≤ 2 ^ 31 = omega (arith, c.abs_diff-across.ensures, c.requires.first.0, c.requires.second.0) in
    let along : c.abs_diff-along.result ≤ 2 ^ 31 = omega (arith, c.abs_diff-along.ensures, c.requires.first.1, c.requires.second.1) in
    let a : c.abs_diff-across.result * c.abs_diff-across.result ≤ 2 ^ 31 * 2 ^ 31 = mul-le _ _ _ _ across across in
    let b : c.abs_diff-along.result * c.abs_diff-along.result ≤ 2 ^ 31 * 2 ^ 31 = mul-le _ _ _ _ along along in
    record { fits = omega (arith, a, b) }
