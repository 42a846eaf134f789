-- Facts on single bytes.
use Rattle.std.proofs.Common.{◌≡◌, ℕ, true, subst, inl, inr, ◌⊎◌, arith}
use Rattle.std.proofs.lemmas.Bool.{false≢true}
use Rattle.std.proofs.lemmas.Bool.Decides.{nat_tests}
use Rattle.std.specs.Char.{is_ascii_digit}
use Rattle.sn_lex.specs.Character.{is_sign}

pub sign_is : (c : ℕ) → is_sign c ≡ true → (c ≡ 43) ⊎ (c ≡ 45)
sign_is c h = grind (arith, nat_tests)

pub sign_no_digit : (c : ℕ) → is_sign c ≡ true → is_ascii_digit c ≡ true → ⊥
sign_no_digit c sign digit = elim (sign_is c sign) [
  | inl e ↦ false≢true (subst (λ (k : ℕ). is_ascii_digit k ≡ true) e digit)
  | inr e ↦ false≢true (subst (λ (k : ℕ). is_ascii_digit k ≡ true) e digit)
]
