-- Numbers that digits write, counted up to a limit.
use Rattle.std.proofs.Common.{◌≡◌, ℕ, zero, suc, ◌+◌, ◌-◌, ◌*◌, ◌<◌, ◌≤◌, Bool, true, false, List, [], ◌∷◌, ◌++◌, length, get_or, take, drop, refl, ap, ◌∙◌, sym, arith, add-one, one-add, cond, ◌==◌, length-take}
use Rattle.std.proofs.Math.Seq.{take-append-add}
use Rattle.std.proofs.lemmas.List.Folds.{length-prefix_len}
use Rattle.std.proofs.lemmas.Bool.{and_parts, and_left, and_right, and_from, le-leb}
use Rattle.std.proofs.lemmas.Bool.Decides.{nat_tests}
use Rattle.std.proofs.lemmas.List.{take_more, take-replicate}
use Rattle.std.proofs.lemmas.Str.Parse.{digit_at}
use Rattle.std.specs.Prelude.{min, ◌&&◌, nat_le}
use Rattle.std.specs.List.{list_all, prefix_len}
use Rattle.std.specs.Char.{digit_value}
use Rattle.std.specs.Str.Parse.{AllDigits, digits_value, digits_value_after}
use Rattle.sn_geom.specs.LineText.{is_digit, zeros, padded, unsigned, whole, fraction, decimals, is_fraction, is_number, is_fine, are_zeros, size_of}

-- a digit's value
pub digit_value-at : (ds : List ℕ) (i : ℕ) → AllDigits 10 ds → i < length ds → (digit_value (get_or ds i 0) ≡ get_or ds i 0 - 48) × (48 ≤ get_or ds i 0) × (get_or ds i 0 ≤ 57)
digit_value-at ds i each h = let r = digit_at ds i each h in grind (arith, nat_tests)

pub digits_behind : (n : ℕ) (ds es : List ℕ) → digits_value_after 10 n (ds ++ es) ≡ digits_value_after 10 (digits_value_after 10 n ds) es
digits_behind n [] es = refl
digits_behind n (d ∷ ds) es = digits_behind (n * 10 + digit_value d) ds es

capped : (m a d : ℕ) → min m (min m a * 10 + d) ≡ min m (a * 10 + d)
capped m a d = grind arith

-- one digit more was read
pub capped_more : (m n : ℕ) (ds : List ℕ) (i : ℕ) → AllDigits 10 ds → i < length ds →
    min m (min m (digits_value_after 10 n (take i ds)) * 10 + (get_or ds i 0 - 48)) ≡ min m (digits_value_after 10 n (take (i + 1) ds))
capped_more m n ds i each h =
    let last : digit_value (get_or ds i 0) ≡ get_or ds i 0 - 48 = (digit_value-at ds i each h).0 in
    capped m (digits_value_after 10 n (take i ds)) (get_or ds i 0 - 48)
    ∙ (ap (λ d. min m (digits_value_after 10 n (take i ds) * 10 + d)) (sym last)
    ∙ (ap (λ v. min m v) (sym (digits_behind n (take i ds) (get_or ds i 0 ∷ [])))
    ∙ ap (λ xs. min m (digits_value_after 10 n xs)) (sym (take_more ds i 0 h))))

-- one zero more
zeros_suc : (k : ℕ) → zeros (suc k) ≡ zeros k ++ 48 ∷ []
zeros_suc zero = refl
zeros_suc (suc k) = ap (λ xs. 48 ∷ xs) (zeros_suc k)

zeros_more : (k : ℕ) → zeros (k + 1) ≡ zeros k ++ 48 ∷ []
zeros_more k = rw add-one (zeros_suc k)

pub capped_zero : (m n k : ℕ) → min m (min m (digits_value_after 10 n (zeros k)) * 10 + (48 - 48)) ≡ min m (digits_value_after 10 n (zeros (k + 1)))
capped_zero m n k =
    capped m (digits_value_after 10 n (zeros k)) (48 - 48)
    ∙ (ap (λ v. min m v) (sym (digits_behind n (zeros k) (48 ∷ [])))
    ∙ ap (λ xs. min m (digits_value_after 10 n xs)) (sym (zeros_more k)))

-- digits that pass the test are digits
digit_is : (b : ℕ) → is_digit b ≡ true → digit_value b < 10
digit_is b h = grind (arith, nat_tests)

pub digits_are : (ds : List ℕ) → list_all is_digit ds ≡ true → AllDigits 10 ds
digits_are [] h = tt
digits_are (d ∷ ds) h = let p : (is_digit d ≡ true) × (list_all is_digit ds ≡ true) = and_parts (is_digit d) (list_all is_digit ds) h in (digit_is d p.0, digits_are ds p.1)

pub digits_front : (k : ℕ) (ds : List ℕ) → AllDigits 10 ds → AllDigits 10 (take k ds)
digits_front zero ds h = tt
digits_front (suc k) [] h = tt
digits_front (suc k) (d ∷ ds) h = (h.0, digits_front k ds h.1)

prefix_step : (d : ℕ) (ds : List ℕ) (t : Bool) → is_digit d ≡ t → AllDigits 10 (take (prefix_len is_digit ds) ds) → AllDigits 10 (take (cond t (1 + prefix_len is_digit ds) 0) (d ∷ ds))
prefix_step d ds true e h = rw one-add (digit_is d e, h)
prefix_step d ds false e h = tt

fraction_digits : (xs : List ℕ) → is_fraction xs ≡ true → AllDigits 10 (drop 1 xs)
fraction_digits [] h = tt
fraction_digits (x ∷ xs) h = digits_are xs (and_parts (x == 46) (list_all is_digit xs) h).1

-- the digits that a text begins with
pub digits_prefix : (ds : List ℕ) → AllDigits 10 (take (prefix_len is_digit ds) ds)
digits_prefix [] = tt
digits_prefix (d ∷ ds) = prefix_step d ds (is_digit d) refl (digits_prefix ds)

-- the limit may be put in anywhere
pub capped_behind : (m a : ℕ) (ds : List ℕ) → min m (digits_value_after 10 (min m a) ds) ≡ min m (digits_value_after 10 a ds)
capped_behind m a [] = grind arith
capped_behind m a (d ∷ ds) =
    let n = digit_value d in
    sym (capped_behind m (min m a * 10 + digit_value d) ds)
    ∙ (ap (λ v. min m (digits_value_after 10 v ds)) (capped m a (digit_value d)) ∙ capped_behind m (a * 10 + digit_value d) ds)

-- fewer digits than places: zeros for the others
pub padded_short : (p : ℕ) (ds : List ℕ) → length ds < p → padded p ds ≡ ds ++ zeros (p - length ds)
padded_short p ds h =
    let k = p - length ds in
    let sum : p ≡ length ds + (p - length ds) = omega arith in
    let less : p - length ds ≤ p = omega arith in
    ap (λ n. take n (ds ++ zeros p)) sum ∙ (take-append-add ds (zeros p) (p - length ds) ∙ ap (λ xs. ds ++ xs) (take-replicate (p - length ds) p 48 less))

pub padded_size_is : (m start size : ℕ) (p : ℕ) (ds : List ℕ) → length ds < p → size ≡ min m (digits_value_after 10 start ds) →
    min m (digits_value_after 10 size (zeros (p - length ds))) ≡ min m (digits_value_after 10 start (padded p ds))
padded_size_is m start size p ds short e =
    ap (λ v. min m (digits_value_after 10 v (zeros (p - length ds)))) e
    ∙ (capped_behind m (digits_value_after 10 start ds) (zeros (p - length ds))
    ∙ ap (λ v. min m v) (sym (digits_behind start ds (zeros (p - length ds))) ∙ ap (λ xs. digits_value_after 10 start xs) (sym (padded_short p ds short))))

-- ---- the parts of a number's text

module _ (text digits rest behind : List ℕ) (n : ℕ) (d_is : digits ≡ unsigned text) (n_is : n ≡ prefix_len is_digit digits) (r_is : rest ≡ drop n digits) (b_is : behind ≡ drop 1 rest) where
  whole_is : whole text ≡ take n digits
  unfolding whole
  whole_is = rw (n_is, d_is) refl

  fraction_is : fraction text ≡ rest
  unfolding fraction whole
  fraction_is = rw (r_is, n_is, d_is) (ap (λ k. drop k (unsigned text)) (length-prefix_len is_digit (unsigned text)))

  decimals_is : decimals text ≡ behind
  unfolding decimals
  decimals_is = ap (λ xs. drop 1 xs) fraction_is ∙ sym b_is

  pub number_is : n ≤ length digits → is_number text ≡ (is_fraction rest && nat_le 1 (n + length behind))
  unfolding is_number
  number_is within =
      let front : length (take n digits) ≡ n = simp length-take (omega arith) in
      rw (whole_is, fraction_is, decimals_is, front) refl

  pub no_fraction : n ≤ length digits → is_fraction rest ≡ false → is_number text ≡ false
  no_fraction within h = number_is within ∙ and_left (is_fraction rest) (nat_le 1 (n + length behind)) h

  pub no_digit : n ≤ length digits → n + length behind ≡ 0 → is_number text ≡ false
  no_digit within h = number_is within ∙ and_right (is_fraction rest) (nat_le 1 (n + length behind)) (ap (λ k. nat_le 1 k) h)

  pub has_digit : n ≤ length digits → is_fraction rest ≡ true → (n + length behind ≡ 0 → ⊥) → is_number text ≡ true
  has_digit within h some = number_is within ∙ and_from (is_fraction rest) (nat_le 1 (n + length behind)) h (le-leb 1 (n + length behind) (omega arith))

  pub size_is : (m places size front : ℕ) → front ≡ min m (digits_value 10 (take n digits)) → size ≡ min m (digits_value_after 10 front (padded places behind)) → size ≡ min m (size_of places text)
  unfolding size_of
  size_is m places size front f s =
      let parts : digits_value 10 (whole text ++ padded places (decimals text)) ≡ digits_value 10 (take n digits ++ padded places behind) = rw (whole_is, decimals_is) refl in
      s ∙ (ap (λ v. min m (digits_value_after 10 v (padded places behind))) f
      ∙ (capped_behind m (digits_value 10 (take n digits)) (padded places behind)
      ∙ ap (λ v. min m v) (sym (digits_behind 0 (take n digits) (padded places behind)) ∙ sym parts)))

  pub fine_is : (places : ℕ) → is_fine places text ≡ are_zeros (drop places behind)
  unfolding is_fine
  fine_is places = rw decimals_is refl

  pub whole_digits : AllDigits 10 (take n digits)
  whole_digits = rw n_is (digits_prefix digits)

  pub behind_digits : is_fraction rest ≡ true → AllDigits 10 behind
  behind_digits h = rw b_is (fraction_digits rest h)
