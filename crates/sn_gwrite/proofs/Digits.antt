-- The last digits of a number, and its decimal text with zeros before it.
use Rattle.std.proofs.Common.{ℕ, zero, suc, ◌≡◌, ◌+◌, ◌-◌, ◌*◌, ◌/◌, ◌%◌, ◌^◌, ◌<◌, ◌≤◌, [], ◌∷◌, ◌++◌, length, replicate, decimal, refl, ap, ◌∙◌, arith, add-one, append_assoc, length-append, inl, inr}
use Rattle.std.proofs.Math.Nat.{pow-suc}
use Rattle.std.proofs.lemmas.List.{replicate_more}
use Rattle.std.proofs.lemmas.Fmt.{decimal_digit, decimal_step}
use Rattle.std.proofs.lemmas.Bool.{cases_lt}
use Rattle.sn_gwrite.specs.Length.{last_digits}

last_digits-zero : (places : ℕ) → last_digits places 0 ≡ replicate places 48
last_digits-zero zero = refl
last_digits-zero (suc places) =
    ap (λ digits. digits ++ 48 ∷ []) (last_digits-zero places) ∙ replicate_more places 48 ∙ ap (λ count. replicate count 48) (add-one places)

one_digit : (places n : ℕ) → n < 10 → last_digits (suc places) n ≡ replicate (suc places - length (decimal n)) 48 ++ decimal n
one_digit places n small =
    let front : n / 10 ≡ 0 = omega arith in
    let last : n % 10 ≡ n = omega arith in
    let count : suc places - 1 ≡ places = omega arith in
    rw (decimal_digit n small, front, last, count, last_digits-zero places) refl

more_digits : (places n : ℕ) → 10 ≤ n → n < 2 ^ 64
    → last_digits places (n / 10) ≡ replicate (places - length (decimal (n / 10))) 48 ++ decimal (n / 10)
    → last_digits (suc places) n ≡ replicate (suc places - length (decimal n)) 48 ++ decimal n
more_digits places n large fits front =
    let count : suc places - (length (decimal (n / 10)) + 1) ≡ places - length (decimal (n / 10)) = omega arith in
    rw (decimal_step n large fits, length-append (decimal (n / 10)) ((48 + n % 10) ∷ []), count)
    (ap (λ digits. digits ++ (48 + n % 10) ∷ []) front ∙ append_assoc _ (decimal (n / 10)) ((48 + n % 10) ∷ []))

more_places : (places n : ℕ) → 10 ≤ n → n < 10 ^ suc places → 0 < places
more_places zero n large below = absurd (omega arith)
more_places (suc places) n large below = omega arith

-- a number that is written in so many digits, with zeros before its own
pub last_digits-padded : (places n : ℕ) → 0 < places → n < 10 ^ places → n < 2 ^ 64
    → last_digits places n ≡ replicate (places - length (decimal n)) 48 ++ decimal n
last_digits-padded zero n some below fits = absurd (omega arith)
last_digits-padded (suc places) n some below fits =
    let power : 10 ^ suc places ≡ 10 ^ places * 10 = pow-suc 10 places in
    elim (cases_lt n 10) [
      | inl small ↦ one_digit places n small
      | inr large ↦
          let lower : n / 10 < 10 ^ places = omega arith in
          let room : 0 < places = more_places places n large below in
          more_digits places n large fits (last_digits-padded places (n / 10) room lower (omega arith))
    ]
