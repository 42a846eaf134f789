-- The number of a word: a sign, and digits with a point.
use Rattle.std.proofs.Common.{◌≡◌, ℕ, suc, ◌+◌, ◌≤◌, ◌==◌, Bool, true, false, cond, List, [], ◌∷◌, ◌++◌, length, drop, refl, ap, sym, ◌∙◌, arith, zero-add, one-add}
use Rattle.std.proofs.lemmas.Bool.{and_parts, and_from, or_left, or_right, leb-true, le-leb, eqb-true}
use Rattle.std.proofs.lemmas.Bool.Decides.{nat_tests}
use Rattle.std.proofs.lemmas.List.Folds.{length-prefix_len}
use Rattle.std.proofs.lemmas.List.Sums.{sum_by-cons}
use Rattle.std.specs.Prelude.{◌↔◌, ◌||◌, ◌&&◌, nat_le, count_by}
use Rattle.std.specs.List.{list_all, prefix_len}
use Rattle.sn_geom.specs.Decimal.{Sign, unsigned, plus, minus, sign_text}
use Rattle.sn_geom.specs.LineText as line
use Rattle.sn_geom.specs.LineText.{is_digit, is_sign, is_fraction, is_number, whole, fraction, decimals}
use Rattle.sn_geom.specs.LineTextLaws.{IsDigitsAndPoint}

abbrev is_part : ℕ → Bool
is_part b = is_digit b || b == 46

abbrev is_point : ℕ → Bool
is_point b = b == 46

-- the digits in front, and what stands behind them
abbrev front : List ℕ → ℕ
front xs = prefix_len is_digit xs

abbrev rest : List ℕ → List ℕ
rest xs = drop (front xs) xs

count_yes : (p : ℕ → Bool) (x : ℕ) (xs : List ℕ) → p x ≡ true → count_by p (x ∷ xs) ≡ suc (count_by p xs)
count_yes p x xs e = sum_by-cons (λ y. cond (p y) 1 0) x xs ∙ (ap (λ b. cond b 1 0 + count_by p xs) e ∙ one-add (count_by p xs))

count_no : (p : ℕ → Bool) (x : ℕ) (xs : List ℕ) → p x ≡ false → count_by p (x ∷ xs) ≡ count_by p xs
count_no p x xs e = sum_by-cons (λ y. cond (p y) 1 0) x xs ∙ (ap (λ b. cond b 1 0 + count_by p xs) e ∙ zero-add (count_by p xs))

digit_no_point : (b : ℕ) → is_digit b ≡ true → is_point b ≡ false
digit_no_point b h = grind (arith, nat_tests)

part_no_sign : (b : ℕ) → is_part b ≡ true → is_sign b ≡ false
part_no_sign b h = grind (arith, nat_tests)

other_is_point : (b : ℕ) → is_digit b ≡ false → is_part b ≡ true → is_point b ≡ true
other_is_point b e h = sym (ap (λ t. t || is_point b) e) ∙ h

front_digit : (x : ℕ) (xs : List ℕ) → is_digit x ≡ true → front (x ∷ xs) ≡ suc (front xs)
front_digit x xs e = ap (λ b. cond b (1 + front xs) 0) e ∙ one-add (front xs)

front_other : (x : ℕ) (xs : List ℕ) → is_digit x ≡ false → front (x ∷ xs) ≡ 0
front_other x xs e = ap (λ b. cond b (1 + front xs) 0) e

rest_digit : (x : ℕ) (xs : List ℕ) → is_digit x ≡ true → rest (x ∷ xs) ≡ rest xs
rest_digit x xs e = ap (λ n. drop n (x ∷ xs)) (front_digit x xs e)

rest_other : (x : ℕ) (xs : List ℕ) → is_digit x ≡ false → rest (x ∷ xs) ≡ x ∷ xs
rest_other x xs e = ap (λ n. drop n (x ∷ xs)) (front_other x xs e)

-- ---- digits alone

pub record AreParts (xs : List ℕ) (points : ℕ) : Type 0 where
  pub bytes : list_all is_part xs ≡ true
  pub count : count_by is_point xs ≤ points

digits_are_parts : (xs : List ℕ) → list_all is_digit xs ≡ true → AreParts xs 0
digits_are_parts [] h = record { bytes = refl; count = omega arith }
digits_are_parts (x ∷ xs) h =
    let p : (is_digit x ≡ true) × (list_all is_digit xs ≡ true) = and_parts (is_digit x) (list_all is_digit xs) h in
    let r = digits_are_parts xs p.1 in
    record {
      bytes = and_from (is_part x) (list_all is_part xs) (or_left (is_digit x) (is_point x) p.0) r.bytes;
      count = rw (count_no is_point x xs (digit_no_point x p.0)) r.count;
    }

parts_step : (x : ℕ) (xs : List ℕ) (t : Bool) → is_digit x ≡ t → is_part x ≡ true → count_by is_point (x ∷ xs) ≤ 0 → (is_digit x ≡ true) × (count_by is_point xs ≤ 0)
parts_step x xs true e h c = (e, rw (count_no is_point x xs (digit_no_point x e)) at c)
parts_step x xs false e h c = let more = count_yes is_point x xs (other_is_point x e h) in absurd (omega (arith, more, c))

parts_are_digits : (xs : List ℕ) → AreParts xs 0 → list_all is_digit xs ≡ true
parts_are_digits [] h = refl
parts_are_digits (x ∷ xs) h =
    let p : (is_part x ≡ true) × (list_all is_part xs ≡ true) = and_parts (is_part x) (list_all is_part xs) h.bytes in
    let r : (is_digit x ≡ true) × (count_by is_point xs ≤ 0) = parts_step x xs (is_digit x) refl p.0 h.count in
    and_from (is_digit x) (list_all is_digit xs) r.0 (parts_are_digits xs (record { bytes = p.1; count = r.1 }))

-- ---- digits and a point

fraction_step : (x : ℕ) (xs : List ℕ) (t : Bool) → is_digit x ≡ t → is_fraction (rest (x ∷ xs)) ≡ true → (is_fraction (rest xs) ≡ true → AreParts xs 1) → AreParts (x ∷ xs) 1
fraction_step x xs true e h tail =
    let r = tail (ap is_fraction (sym (rest_digit x xs e)) ∙ h) in
    record {
      bytes = and_from (is_part x) (list_all is_part xs) (or_left (is_digit x) (is_point x) e) r.bytes;
      count = rw (count_no is_point x xs (digit_no_point x e)) r.count;
    }
fraction_step x xs false e h tail =
    let p : (is_point x ≡ true) × (list_all is_digit xs ≡ true) = and_parts (is_point x) (list_all is_digit xs) (ap is_fraction (sym (rest_other x xs e)) ∙ h) in
    let r = digits_are_parts xs p.1 in
    record {
      bytes = and_from (is_part x) (list_all is_part xs) (or_right (is_digit x) (is_point x) p.0) r.bytes;
      count = rw (count_yes is_point x xs p.0) (omega (arith, r.count));
    }

fraction_parts : (xs : List ℕ) → is_fraction (rest xs) ≡ true → AreParts xs 1
fraction_parts [] h = record { bytes = refl; count = omega arith }
fraction_parts (x ∷ xs) h = fraction_step x xs (is_digit x) refl h (fraction_parts xs)

back_step : (x : ℕ) (xs : List ℕ) (t : Bool) → is_digit x ≡ t → is_part x ≡ true → list_all is_part xs ≡ true → count_by is_point (x ∷ xs) ≤ 1 → (count_by is_point xs ≤ 1 → is_fraction (rest xs) ≡ true) → is_fraction (rest (x ∷ xs)) ≡ true
back_step x xs true e h b c tail = ap is_fraction (rest_digit x xs e) ∙ tail (rw (count_no is_point x xs (digit_no_point x e)) at c)
back_step x xs false e h b c tail =
    let point : is_point x ≡ true = other_is_point x e h in
    let more = count_yes is_point x xs point in
    let few : count_by is_point xs ≤ 0 = omega (arith, more, c) in
    ap is_fraction (rest_other x xs e) ∙ and_from (is_point x) (list_all is_digit xs) point (parts_are_digits xs (record { bytes = b; count = few }))

parts_fraction : (xs : List ℕ) → AreParts xs 1 → is_fraction (rest xs) ≡ true
parts_fraction [] h = refl
parts_fraction (x ∷ xs) h =
    let p : (is_part x ≡ true) × (list_all is_part xs ≡ true) = and_parts (is_part x) (list_all is_part xs) h.bytes in
    back_step x xs (is_digit x) refl p.0 p.1 h.count (λ c. parts_fraction xs (record { bytes = p.1; count = c }))

-- ---- the count of digits

all_count : (xs : List ℕ) → list_all is_digit xs ≡ true → count_by is_digit xs ≡ length xs
all_count [] h = refl
all_count (x ∷ xs) h =
    let p : (is_digit x ≡ true) × (list_all is_digit xs ≡ true) = and_parts (is_digit x) (list_all is_digit xs) h in
    count_yes is_digit x xs p.0 ∙ ap (λ n. suc n) (all_count xs p.1)

count_step : (x : ℕ) (xs : List ℕ) (t : Bool) → is_digit x ≡ t → is_fraction (rest (x ∷ xs)) ≡ true → (is_fraction (rest xs) ≡ true → count_by is_digit xs ≡ front xs + length (drop 1 (rest xs))) → count_by is_digit (x ∷ xs) ≡ front (x ∷ xs) + length (drop 1 (rest (x ∷ xs)))
count_step x xs true e h tail =
    let ih = tail (ap is_fraction (sym (rest_digit x xs e)) ∙ h) in
    let n = count_yes is_digit x xs e in
    let f = front_digit x xs e in
    let r = ap (λ ys. length (drop 1 ys)) (rest_digit x xs e) in
    omega (arith, ih, n, f, r)
count_step x xs false e h tail =
    let p : (is_point x ≡ true) × (list_all is_digit xs ≡ true) = and_parts (is_point x) (list_all is_digit xs) (ap is_fraction (sym (rest_other x xs e)) ∙ h) in
    let n = count_no is_digit x xs e in
    let f = front_other x xs e in
    let r : length (drop 1 (rest (x ∷ xs))) ≡ length xs = ap (λ ys. length (drop 1 ys)) (rest_other x xs e) in
    let all = all_count xs p.1 in
    omega (arith, n, f, r, all)

digit_count : (xs : List ℕ) → is_fraction (rest xs) ≡ true → count_by is_digit xs ≡ front xs + length (drop 1 (rest xs))
digit_count [] h = refl
digit_count (x ∷ xs) h = count_step x xs (is_digit x) refl h (digit_count xs)

-- ---- the text

number_is : (text : List ℕ) → is_number text ≡ (is_fraction (rest (line.unsigned text)) && nat_le 1 (front (line.unsigned text) + length (drop 1 (rest (line.unsigned text)))))
unfolding is_number whole fraction decimals
number_is text = rw (length-prefix_len is_digit (line.unsigned text)) refl

body_is : (text : List ℕ) → is_number text ≡ true → IsDigitsAndPoint (line.unsigned text)
body_is text h =
    let u = line.unsigned text in
    let p : (is_fraction (rest (line.unsigned text)) ≡ true) × (nat_le 1 (front (line.unsigned text) + length (drop 1 (rest (line.unsigned text)))) ≡ true) = and_parts (is_fraction (rest (line.unsigned text))) (nat_le 1 (front (line.unsigned text) + length (drop 1 (rest (line.unsigned text))))) (sym (number_is text) ∙ h) in
    let r = fraction_parts (line.unsigned text) p.0 in
    record {
      bytes = r.bytes;
      one_point = r.count;
      some_digit = rw (digit_count (line.unsigned text) p.0) (leb-true 1 (front (line.unsigned text) + length (drop 1 (rest (line.unsigned text)))) p.1);
    }

pub record IsSigned (text : List ℕ) : Type 0 where
  pub sign : Sign
  pub is : text ≡ sign_text sign ++ line.unsigned text

sign_step : (b : ℕ) (bs : List ℕ) (s t : Bool) → (b == 43) ≡ s → (b == 45) ≡ t → IsSigned (b ∷ bs)
unfolding line.unsigned
sign_step b bs true t e f = let same : b ≡ 43 = eqb-true b 43 e in record { sign = plus; is = rw e (ap (λ c. c ∷ bs) same) }
sign_step b bs false true e f = let same : b ≡ 45 = eqb-true b 45 f in record { sign = minus; is = rw (e, f) (ap (λ c. c ∷ bs) same) }
sign_step b bs false false e f = record { sign = unsigned; is = rw (e, f) refl }

signed : (text : List ℕ) → IsSigned text
unfolding line.unsigned
signed [] = record { sign = unsigned; is = refl }
signed (b ∷ bs) = sign_step b bs (b == 43) (b == 45) refl refl

no_sign : (body : List ℕ) → list_all is_part body ≡ true → line.unsigned body ≡ body
unfolding line.unsigned
no_sign [] h = refl
no_sign (b ∷ bs) h = rw (part_no_sign b (and_parts (is_part b) (list_all is_part bs) h).0) refl

unsigned_is : (sign : Sign) (body : List ℕ) → list_all is_part body ≡ true → line.unsigned (sign_text sign ++ body) ≡ body
unfolding line.unsigned
unsigned_is unsigned body h = no_sign body h
unsigned_is plus body h = refl
unsigned_is minus body h = refl

number_from : (text : List ℕ) (sign : Sign) (body : List ℕ) → text ≡ sign_text sign ++ body → IsDigitsAndPoint body → is_number text ≡ true
number_from text sign body e h =
    let u : line.unsigned text ≡ body = ap line.unsigned e ∙ unsigned_is sign body h.bytes in
    let f : is_fraction (rest body) ≡ true = parts_fraction body (record { bytes = h.bytes; count = h.one_point }) in
    let n : nat_le 1 (front body + length (drop 1 (rest body))) ≡ true = le-leb 1 (front body + length (drop 1 (rest body))) (rw (sym (digit_count body f)) h.some_digit) in
    number_is text
    ∙ (ap (λ xs. is_fraction (rest xs) && nat_le 1 (front xs + length (drop 1 (rest xs)))) u
    ∙ and_from (is_fraction (rest body)) (nat_le 1 (front body + length (drop 1 (rest body)))) f n)

pub sign_and_digits : (text : List ℕ) → (is_number text ≡ true) ↔ ((sign : Sign) × (body : List ℕ) × (text ≡ sign_text sign ++ body) × IsDigitsAndPoint body)
sign_and_digits text = (
  (λ h. let s = signed text in (s.sign, line.unsigned text, s.is, body_is text h)),
  (λ x. number_from text x.0 x.1 x.2 x.3),
)
