use Rattle.std.proofs.Common.{◌≡◌, ◌<◌, length, arith, ap}
use Rattle.std.proofs.lemmas.List.{nil_from_length}
use Rattle.std.proofs.lemmas.Bool.Decides.{nat_tests}
use Rattle.sn_geom.proofs.NumberText.{exponent_cut, exponent_read}
use Rattle.sn_geom.proofs.decimal.text.read_exponent.Goals as goal

pub returns-then-not-is_empty-clause-none : goal.returns-then-not-is_empty-clause-none
returns-then-not-is_empty-clause-none c = λ e h.
    let left = c.split_digits.result.1.now in
    let cut = exponent_cut _ _ _ _ left _ c.in_ok-after.ensures.found c.split_sign-negative.ensures c.split_digits.ensures e h in
    let none : length left ≡ 0 = ap length cut.1 in
    absurd (grind (arith, nat_tests))

pub returns-clause-found : goal.returns-clause-found
returns-clause-found c =
    let left = c.split_digits.result.1.now in
    let none : length left ≡ 0 = grind (arith, nat_tests) in
    let some : 0 < length c.split_digits.result.0.now = grind (arith, nat_tests) in
    exponent_read _ _ _ _ left _ c.in_ok-after.ensures.found c.split_sign-negative.ensures c.split_digits.ensures some (nil_from_length left none)
