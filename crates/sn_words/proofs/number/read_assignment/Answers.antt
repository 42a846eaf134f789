use Rattle.std.proofs.Common.{w32, arith}
use Rattle.std.proofs.lemmas.Int.{to_z-of_z, fits_signed_from_abs}
use Rattle.sn_words.proofs.WordLemmas.{no_equals_sign, no_name, no_value, assignment_read}
use Rattle.sn_words.proofs.number.read_assignment.Goals as goal

pub returns-in_err-name-clause-none : goal.returns-in_err-name-clause-none
returns-in_err-name-clause-none c = rw c.from_residual.ensures (no_equals_sign _ c.in_err-name.ensures.none)

pub returns-then-not-is_name-clause-none : goal.returns-then-not-is_name-clause-none
returns-then-not-is_name-clause-none c =
    no_name _ c.in_ok-name.name.now c.in_ok-name.text.now c.in_ok-name.ensures.some (λ named. let told = c.is_name.ensures.1 named in cc)

pub returns-in_err-value-clause-none : goal.returns-in_err-value-clause-none
returns-in_err-value-clause-none c =
    rw c.from_residual-in_err-value.ensures (no_value _ c.in_ok-name.name.now c.in_ok-name.text.now c.in_ok-name.ensures.some c.in_err-value.ensures.none)

pub returns-clause-some : goal.returns-clause-some
returns-clause-some c =
    assignment_read _ c.in_ok-name.name.now c.in_ok-name.text.now c.in_ok-value.value _ c.in_ok-name.ensures.some (c.is_name.ensures.0 c.if-not-is_name.false)
    (to_z-of_z w32 c.in_ok-value.value (fits_signed_from_abs w32 c.in_ok-value.value (omega (arith, c.in_ok-value.ensures.some.1)))) c.in_ok-value.ensures.some.0 c.in_ok-value.ensures.some.1
