-- Digits read at so many places: whole counts of a unit.
use Rattle.std.proofs.Common.{◌≡◌, ℕ, zero, suc, ◌+◌, ◌*◌, ◌/◌, ◌^◌, ◌<◌, ◌≤◌, ◌==◌, true, List, [], ◌∷◌, ◌++◌, length, take, drop, refl, ap, sym, ◌∙◌, arith}
use Rattle.std.proofs.Math.Nat.{pow-suc, mul-div_cancel}
use Rattle.std.proofs.lemmas.Bool.{and_parts, and_from}
use Rattle.std.proofs.lemmas.Bool.Decides.{nat_tests}
use Rattle.std.specs.Prelude.{◌↔◌}
use Rattle.std.specs.List.{list_all}
use Rattle.std.specs.Char.{digit_value}
use Rattle.std.specs.Str.Parse.{AllDigits, digits_value, digits_value_after}
use Rattle.sn_geom.specs.LineText.{is_digit, is_fraction, is_number, is_fine, size_of, whole, fraction, decimals, are_zeros, zeros, padded}
use Rattle.sn_geom.proofs.DigitValues.{digits_value_after-append}

-- ---- equations of products

cancel : (m n q : ℕ) → 0 < q → m * q ≡ n * q → m ≡ n
cancel m n q h e = sym (mul-div_cancel m h) ∙ (ap (λ x. x / q) e ∙ mul-div_cancel n h)

tens : (v n q r : ℕ) → (v * (q * 10) ≡ n * (r * 10)) ↔ (v * q ≡ n * r)
tens v n q r = (
  (λ e. let f : (v * q) * 10 ≡ (n * r) * 10 = grind arith in cancel (v * q) (n * r) 10 (omega arith) f),
  (λ e. let f : (v * q) * 10 ≡ (n * r) * 10 = ap (λ x. x * 10) e in grind arith),
)

-- ---- digits at places

pad : ℕ → List ℕ → List ℕ
pad zero ds = []
pad (suc p) [] = 48 ∷ pad p []
pad (suc p) (d ∷ ds) = d ∷ pad p ds

pad_is : (p z : ℕ) (ds : List ℕ) → p ≤ z → take p (ds ++ zeros z) ≡ pad p ds
unfolding pad
pad_is zero z ds h = refl
pad_is (suc p) zero [] h = absurd (omega arith)
pad_is (suc p) (suc z) [] h = ap (λ xs. 48 ∷ xs) (pad_is p z [] (omega arith))
pad_is (suc p) z (d ∷ ds) h = ap (λ xs. d ∷ xs) (pad_is p z ds (omega arith))

-- zeros make a number tenfold each
pad_none : (w p : ℕ) → digits_value_after 10 w (pad p []) ≡ w * 10 ^ p
unfolding pad
pad_none w zero = omega arith
pad_none w (suc p) =
    let ih : digits_value_after 10 (w * 10 + 0) (pad p []) ≡ (w * 10 + 0) * 10 ^ p = pad_none (w * 10 + 0) p in
    rw pow-suc (ih ∙ grind arith)

-- digits of no value behind the unit

zero_digit : (d : ℕ) → digit_value d < 10 → digit_value d ≡ 0 → (d == 48) ≡ true
zero_digit d low h = grind (arith, nat_tests)

digit_zero : (d : ℕ) → (d == 48) ≡ true → digit_value d ≡ 0
digit_zero d h = grind (arith, nat_tests)

ten_more : (n w d : ℕ) → d < 10 → n * 10 ≡ w * 10 + d → (d ≡ 0) × (n ≡ w)
ten_more n w d low h = (omega arith, omega arith)

behind_unit : (w n : ℕ) (ds : List ℕ) → AllDigits 10 ds → (digits_value_after 10 w ds ≡ n * 10 ^ length ds) ↔ ((are_zeros ds ≡ true) × (n ≡ w))
behind_unit w n [] a = ((λ e. (refl, omega arith)), (λ h. omega (arith, h.1)))
behind_unit w n (d ∷ ds) a =
    let ih : (digits_value_after 10 (w * 10 + digit_value d) ds ≡ (n * 10) * 10 ^ length ds) ↔ ((are_zeros ds ≡ true) × (n * 10 ≡ w * 10 + digit_value d)) = behind_unit (w * 10 + digit_value d) (n * 10) ds a.1 in
    let same : n * (10 ^ length ds * 10) ≡ (n * 10) * 10 ^ length ds = grind arith in (
      (λ e. let r = ih.0 ((rw pow-suc at e) ∙ same) in
          let t = ten_more n w (digit_value d) a.0 r.1 in
          (and_from (d == 48) (are_zeros ds) (zero_digit d a.0 t.0) r.0, t.1)),
      (λ h. let p : ((d == 48) ≡ true) × (are_zeros ds ≡ true) = and_parts (d == 48) (are_zeros ds) h.0 in
          let z : digit_value d ≡ 0 = digit_zero d p.0 in
          let more : n * 10 ≡ w * 10 + digit_value d = omega (arith, h.1, z) in
          rw pow-suc (ih.1 (p.1, more) ∙ sym same)),
    )

at_places : (w n p : ℕ) (ds : List ℕ) → AllDigits 10 ds → (digits_value_after 10 w ds * 10 ^ p ≡ n * 10 ^ length ds) ↔ ((are_zeros (drop p ds) ≡ true) × (n ≡ digits_value_after 10 w (pad p ds)))
unfolding pad
at_places w n zero ds a =
    let ih = behind_unit w n ds a in
    ((λ e. ih.0 (omega (arith, e))), (λ h. let e = ih.1 h in omega (arith, e)))
at_places w n (suc p) [] a =
    let all : digits_value_after 10 w (pad (suc p) []) ≡ w * 10 ^ suc p = pad_none w (suc p) in
    ((λ e. (refl, sym (all ∙ (e ∙ omega arith)))), (λ h. sym (omega (arith, h.1, all))))
at_places w n (suc p) (d ∷ ds) a =
    let ih = at_places (w * 10 + digit_value d) n p ds a.1 in
    let t = tens (digits_value_after 10 (w * 10 + digit_value d) ds) n (10 ^ p) (10 ^ length ds) in
    ((λ e. ih.0 (t.0 (rw (pow-suc, pow-suc) at e))), (λ h. rw (pow-suc, pow-suc) (t.1 (ih.1 h))))

-- ---- the text

digit_is : (b : ℕ) → is_digit b ≡ true → digit_value b < 10
digit_is b h = grind (arith, nat_tests)

pub digits_are : (ds : List ℕ) → list_all is_digit ds ≡ true → AllDigits 10 ds
digits_are [] h = tt
digits_are (d ∷ ds) h = let p : (is_digit d ≡ true) × (list_all is_digit ds ≡ true) = and_parts (is_digit d) (list_all is_digit ds) h in (digit_is d p.0, digits_are ds p.1)

behind_point : (xs : List ℕ) → is_fraction xs ≡ true → AllDigits 10 (drop 1 xs)
behind_point [] h = tt
behind_point (x ∷ xs) h = digits_are xs (and_parts (x == 46) (list_all is_digit xs) h).1

decimal_digits : (text : List ℕ) → is_number text ≡ true → AllDigits 10 (decimals text)
unfolding is_number decimals
decimal_digits text h = behind_point (fraction text) (and_parts (is_fraction (fraction text)) _ h).0

size_is : (text : List ℕ) (p : ℕ) → size_of p text ≡ digits_value_after 10 (digits_value 10 (whole text)) (pad p (decimals text))
unfolding size_of
size_is text p =
    digits_value_after-append 0 (whole text) (padded p (decimals text))
    ∙ ap (λ xs. digits_value_after 10 (digits_value 10 (whole text)) xs) (pad_is p p (decimals text) (omega arith))

pub fine_is_whole_count :
    (text : List ℕ) (p n : ℕ) → is_number text ≡ true →
    (digits_value 10 (whole text ++ decimals text) * 10 ^ p ≡ n * 10 ^ length (decimals text)) ↔ ((is_fine p text ≡ true) × (n ≡ size_of p text))
unfolding is_fine
fine_is_whole_count text p n h =
    let all : digits_value 10 (whole text ++ decimals text) ≡ digits_value_after 10 (digits_value 10 (whole text)) (decimals text) = digits_value_after-append 0 (whole text) (decimals text) in
    let r = at_places (digits_value 10 (whole text)) n p (decimals text) (decimal_digits text h) in (
      (λ e. let x = r.0 (sym (ap (λ v. v * 10 ^ p) all) ∙ e) in (x.0, x.1 ∙ sym (size_is text p))),
      (λ x. ap (λ v. v * 10 ^ p) all ∙ r.1 (x.0, x.1 ∙ size_is text p)),
    )
