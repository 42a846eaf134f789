use Rattle.std.proofs.Common.{◌≡◌, ◌<◌, length, arith, ap}
use Rattle.std.proofs.lemmas.Bool.Decides.{nat_tests}
use Rattle.sn_geom.proofs.NumberText.{whole_cut, fraction_cut, parts_read}
use Rattle.sn_geom.proofs.decimal.text.split.Goals as goal

pub returns-then-is_empty-clause-none : goal.returns-then-is_empty-clause-none
returns-then-is_empty-clause-none c = λ t.
    let cut = whole_cut _ _ _ _ _ c.split_sign-negative.ensures c.split_digits.ensures t.0 t.1 in
    let some : 0 < length t.0.whole = t.1.whole.0 in
    let same : length c.split_digits.result.0.now ≡ length t.0.whole = ap length cut.0 in
    absurd (grind (arith, nat_tests))

pub returns-in_err-exponent-clause-none : goal.returns-in_err-exponent-clause-none
returns-in_err-exponent-clause-none c = rw c.from_residual.ensures (λ t.
    let whole = whole_cut _ _ _ _ _ c.split_sign-negative.ensures c.split_digits.ensures t.0 t.1 in
    let last = fraction_cut _ _ _ c.split_fraction.ensures t.0 t.1.fraction whole.1 in
    c.in_err-exponent.ensures.none t.0.exponent (record { each = t.1.exponent; spelled = last.1 }))

pub returns-clause-found : goal.returns-clause-found
returns-clause-found c =
    let some : 0 < length c.split_digits.result.0.now = grind (arith, nat_tests) in
    parts_read _ _ _ _ _ _ _ _ _ c.split_sign-negative.ensures c.split_digits.ensures some c.split_fraction.ensures c.in_ok-exponent.ensures.found
