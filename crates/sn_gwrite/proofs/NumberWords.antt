-- The texts of whole numbers and of lengths, as the words of a line read them.
use Rattle.std.proofs.Common.{ℕ, ◌≡◌, ◌+◌, ◌<◌, ◌≤◌, ◌^◌, Bool, true, false, ◌||◌, List, [], ◌∷◌, ◌++◌, length, take, drop, decimal, ℤ, pos, negsuc, refl, sym, ap, ◌∙◌, subst, arith, append_assoc, append-nil, drop_of_length-le}
use Rattle.std.proofs.Math.Seq.{drop-append_seam, take-append_seam}
use Rattle.std.proofs.Math.ListN.{replicate}
use Rattle.std.proofs.lemmas.Bool.Decides.{nat_tests}
use Rattle.std.proofs.lemmas.Fmt.{decimal_is_IsNumeral}
use Rattle.std.proofs.lemmas.List.Sums.{take_while-cons}
use Rattle.std.proofs.lemmas.Str.Parse.{digit_from_value}
use Rattle.std.specs.Char.{digit_value}
use Rattle.std.specs.Fmt.{sign_text}
use Rattle.std.specs.Int.{IsInRange}
use Rattle.std.specs.Int.{is_negative as int_is_negative}
use Rattle.std.specs.List.{list_all}
use Rattle.std.specs.Prelude.{not, filter, take_while, nat_le, unsigned_abs}
use Rattle.std.specs.Str.Parse.{AllDigits, IsNumeral, digits_value}
use Rattle.sn_geom.specs.declared.limits.TheConstants.{DECIMALS}
use Rattle.sn_geom.specs.Decimal.{with_sign}
use Rattle.sn_geom.specs.LineTable.{places_of, is_within}
use Rattle.sn_geom.specs.LineText.{run, is_blank, is_digit, is_sign, is_numeric, is_negative, unsigned, whole, fraction, decimals, is_number, is_fine, is_fraction, padded, size_of}
use Rattle.sn_gwrite.specs.Length.{ShowsLength}
use Rattle.sn_gwrite.proofs.ShownLengths.{is_negative-pos}

-- ---- the bytes of a number

abbrev pub AllNumeric : List ℕ → Type 0
AllNumeric [] = Unit {0}
AllNumeric (b ∷ bs) = (is_numeric b ≡ true) × AllNumeric bs

pub AllNumeric-append : (xs ys : List ℕ) → AllNumeric xs → AllNumeric ys → AllNumeric (xs ++ ys)
AllNumeric-append [] ys h k = k
AllNumeric-append (x ∷ xs) ys h k = (h.0, AllNumeric-append xs ys h.1 k)

range_digit : (c : ℕ) → 48 ≤ c → c ≤ 57 → is_digit c ≡ true
range_digit c low high = grind (arith, nat_tests)

range_no_sign : (c : ℕ) → 48 ≤ c → c ≤ 57 → is_sign c ≡ false
range_no_sign c low high = grind (arith, nat_tests)

range_no_minus : (c : ℕ) → 48 ≤ c → is_negative (c ∷ []) ≡ false
unfolding is_negative
range_no_minus c low = grind (arith, nat_tests)

range_numeric : (c : ℕ) → 48 ≤ c → c ≤ 57 → is_numeric c ≡ true
range_numeric c low high = rw (range_digit c low high) refl

digit_digit : (c : ℕ) → digit_value c < 10 → is_digit c ≡ true
digit_digit c h = let r : IsInRange 48 57 c = digit_from_value c h in range_digit c r.0 r.1

digit_no_sign : (c : ℕ) → digit_value c < 10 → is_sign c ≡ false
digit_no_sign c h = let r : IsInRange 48 57 c = digit_from_value c h in range_no_sign c r.0 r.1

pub digits_numeric : (ds : List ℕ) → AllDigits 10 ds → AllNumeric ds
digits_numeric [] h = tt
digits_numeric (d ∷ ds) h = let r : IsInRange 48 57 d = digit_from_value d h.0 in (range_numeric d r.0 r.1, digits_numeric ds h.1)

numeric_no_blank : (b : ℕ) → is_numeric b ≡ true → is_blank b ≡ false
numeric_no_blank b h = grind (arith, nat_tests)

run_step : (p q : ℕ → Bool) (b : ℕ) (bs : List ℕ) → p b ≡ true → q b ≡ true
    → filter q (take_while p (b ∷ bs)) ≡ b ∷ filter q (take_while p bs)
run_step p q b bs e f = rw (take_while-cons p b bs, e) (rw f refl)

-- the text of a number, and then the run of what stands behind it
pub run_over : (text rest : List ℕ) → AllNumeric text → run (text ++ rest) ≡ text ++ run rest
unfolding run
run_over [] rest h = refl
run_over (b ∷ bs) rest h =
    let blank : is_blank b ≡ false = numeric_no_blank b h.0 in
    run_step (λ c. is_numeric c || is_blank c) (λ c. not (is_blank c)) b (bs ++ rest) (rw h.0 refl) (rw blank refl)
    ∙ ap (λ xs. b ∷ xs) (run_over bs rest h.1)

-- ---- the parts of a number

take_digits : (w tail : List ℕ) → AllDigits 10 w → take_while is_digit tail ≡ []
    → take_while is_digit (w ++ tail) ≡ w
take_digits [] tail h e = e
take_digits (c ∷ cs) tail h e =
    rw (take_while-cons is_digit c (cs ++ tail), digit_digit c h.0) (ap (λ xs. c ∷ xs) (take_digits cs tail h.1 e))

-- a text of a sign, digits and a tail that no digit begins
pub record HasPieces (text : List ℕ) (negative : Bool) (front tail : List ℕ) : Type 0 where
  pub sign : is_negative text ≡ negative
  pub whole_is : whole text ≡ front
  pub fraction_is : fraction text ≡ tail

unsigned_pieces : (text front tail : List ℕ) → AllDigits 10 front → take_while is_digit tail ≡ []
    → unsigned text ≡ front ++ tail → (whole text ≡ front) × (fraction text ≡ tail)
unfolding whole fraction
unsigned_pieces text front tail each ends e =
    let w : take_while is_digit (unsigned text) ≡ front = ap (take_while is_digit) e ∙ take_digits front tail each ends in
    (w, ap (λ xs. drop (length xs) (unsigned text)) w ∙ (ap (drop (length front)) e ∙ drop-append_seam front tail))

unsigned_front : (front tail : List ℕ) → IsNumeral 10 front
    → (is_negative (front ++ tail) ≡ false) × (unsigned (front ++ tail) ≡ front ++ tail)
unfolding is_negative unsigned
unsigned_front [] tail h = absurd (omega arith)
unsigned_front (c ∷ cs) tail h =
    let r : IsInRange 48 57 c = digit_from_value c h.1.0 in
    (range_no_minus c r.0, rw (range_no_sign c r.0 r.1) refl)

minus_pieces : (front tail : List ℕ) → IsNumeral 10 front → take_while is_digit tail ≡ []
    → HasPieces (45 ∷ (front ++ tail)) true front tail
unfolding is_negative unsigned
minus_pieces front tail h ends =
    let p = unsigned_pieces (45 ∷ (front ++ tail)) front tail h.1 ends refl in
    record { sign = refl; whole_is = p.0; fraction_is = p.1 }

pub has_pieces : (negative : Bool) (front tail : List ℕ) → IsNumeral 10 front → take_while is_digit tail ≡ []
    → HasPieces (sign_text negative ++ (front ++ tail)) negative front tail
has_pieces true front tail h ends = minus_pieces front tail h ends
has_pieces false front tail h ends =
    let u = unsigned_front front tail h in
    let p = unsigned_pieces (front ++ tail) front tail h.1 ends u.1 in
    record { sign = u.0; whole_is = p.0; fraction_is = p.1 }

pub digits_all : (ds : List ℕ) → AllDigits 10 ds → list_all is_digit ds ≡ true
digits_all [] h = refl
digits_all (d ∷ ds) h = rw (digit_digit d h.0, digits_all ds h.1) refl

some_digits : (n k : ℕ) → 0 < n → nat_le 1 (n + k) ≡ true
some_digits n k h = grind (arith, nat_tests)

pieces_number : (text front tail : List ℕ) (negative : Bool) → HasPieces text negative front tail
    → is_fraction tail ≡ true → 0 < length front → is_number text ≡ true
unfolding is_number
pieces_number text front tail negative h fraction some =
    rw (h.fraction_is, h.whole_is, fraction) (some_digits (length front) (length (decimals text)) some)

pieces_fine : (text front tail : List ℕ) (negative : Bool) (places : ℕ) → HasPieces text negative front tail
    → length (drop 1 tail) ≤ places → is_fine places text ≡ true
unfolding is_fine decimals
pieces_fine text front tail negative places h few = rw (h.fraction_is, drop_of_length-le (drop 1 tail) few) refl

pieces_size : (text front tail ds : List ℕ) (negative : Bool) (places : ℕ) → HasPieces text negative front tail
    → padded places (drop 1 tail) ≡ ds → size_of places text ≡ digits_value 10 (front ++ ds)
unfolding size_of decimals
pieces_size text front tail ds negative places h e = rw (h.fraction_is, h.whole_is) (ap (λ xs. digits_value 10 (front ++ xs)) e)

-- ---- the values of words

-- the text is that of a number, which the letter takes as this value
pub record ShowsValue (letter : ℕ) (text : List ℕ) (value : ℤ) : Type 0 where
  pub bytes : AllNumeric text
  pub number : is_number text ≡ true
  pub fine : is_fine (places_of letter) text ≡ true
  pub is : with_sign (is_negative text) (size_of (places_of letter) text) ≡ value
  pub within : is_within letter value ≡ true

pub whole_shows : (letter n : ℕ) → places_of letter ≡ 0 → is_within letter (pos n) ≡ true → n < 2 ^ 64
    → ShowsValue letter (decimal n) (pos n)
whole_shows letter n places within fits =
    let numeral : IsNumeral 10 (decimal n) × (digits_value 10 (decimal n) ≡ n) = decimal_is_IsNumeral n fits in
    let pieces : HasPieces (decimal n) false (decimal n) [] = subst (λ text. HasPieces text false (decimal n) []) (append-nil (decimal n)) (has_pieces false (decimal n) [] numeral.0 refl) in
    let size : size_of 0 (decimal n) ≡ n = pieces_size (decimal n) (decimal n) [] [] false 0 pieces refl ∙ (ap (digits_value 10) (append-nil (decimal n)) ∙ numeral.1) in
    record {
      bytes = digits_numeric (decimal n) numeral.0.1;
      number = pieces_number (decimal n) (decimal n) [] false pieces refl numeral.0.0;
      fine = rw places (pieces_fine (decimal n) (decimal n) [] false 0 pieces (omega arith));
      is = rw (places, pieces.sign, size) refl;
      within = within;
    }

sign_numeric : (negative : Bool) → AllNumeric (sign_text negative)
sign_numeric true = (refl, tt)
sign_numeric false = tt

signed_size : (z : ℤ) → with_sign (int_is_negative z) (unsigned_abs z) ≡ z
signed_size (pos n) = rw (is_negative-pos n) refl
signed_size (negsuc n) = refl

pub length_numeric : (text : List ℕ) (z : ℤ) → ShowsLength text z → AllNumeric text
length_numeric text z shows =
    let tail = 46 ∷ shows.decimals in
    let sign = sign_text (int_is_negative z) in
    let e : text ≡ sign ++ (shows.whole ++ tail) = rw shows.parts (simp append_assoc) in
    let back : AllNumeric (shows.whole ++ tail) = AllNumeric-append shows.whole tail (digits_numeric shows.whole shows.whole_digits.1) (refl, digits_numeric shows.decimals shows.decimal_digits) in
    rw e (AllNumeric-append sign (shows.whole ++ tail) (sign_numeric (int_is_negative z)) back)

-- the text that shows a length is that number for a letter whose unit is the length's
pub length_shows : (letter : ℕ) (text : List ℕ) (z : ℤ) → places_of letter ≡ DECIMALS
    → is_within letter z ≡ true → ShowsLength text z → ShowsValue letter text z
length_shows letter text z places within shows =
    let negative = int_is_negative z in
    let tail = 46 ∷ shows.decimals in
    let e : text ≡ sign_text negative ++ (shows.whole ++ tail) = rw shows.parts (simp append_assoc) in
    let pieces : HasPieces text negative shows.whole tail = subst (λ t. HasPieces t negative shows.whole tail) (sym e) (has_pieces negative shows.whole tail shows.whole_digits refl) in
    let pad : padded DECIMALS shows.decimals ≡ shows.decimals = subst (λ n. take n (shows.decimals ++ replicate DECIMALS 48) ≡ shows.decimals) shows.places (take-append_seam shows.decimals (replicate DECIMALS 48)) in
    let size : size_of DECIMALS text ≡ unsigned_abs z = pieces_size text shows.whole tail shows.decimals negative DECIMALS pieces pad ∙ shows.value in
    record {
      bytes = length_numeric text z shows;
      number = pieces_number text shows.whole tail negative pieces (rw (digits_all shows.decimals shows.decimal_digits) refl) shows.whole_digits.0;
      fine = rw places (pieces_fine text shows.whole tail negative DECIMALS pieces (omega (arith, shows.places)));
      is = rw (places, pieces.sign, size) (signed_size z);
      within = within;
    }
