-- The fronts of a text that are integers, reals or the beginnings of reals.
use Rattle.std.proofs.Common.{◌≡◌, ℕ, ◌+◌, ◌<◌, ◌≤◌, Bool, true, false, cond, ◌||◌, eqb, List, [], ◌∷◌, ◌++◌, length, append_assoc, refl, sym, ap, ◌∙◌, subst, arith, inl, inr, ◌⊎◌, length-append}
use Rattle.std.proofs.lemmas.Bool.{and_parts, both_ways, true≢false, or_left, or_right}
use Rattle.std.specs.List.{list_all}
use Rattle.std.specs.Char.{is_ascii_digit}
use Rattle.sn_lex.specs.Character.{is_sign}
use Rattle.sn_lex.specs.Form.{IsInteger, IsPlainReal, IsScaledReal, IsBrokenReal, HeadFails}
use Rattle.sn_lex.specs.Split.{SplitsRun, HasNoInteger, LeavesInteger, unsigned}
use Rattle.sn_lex.proofs.Runs.{run_bounds, one_run}
use Rattle.sn_lex.proofs.Bytes.{sign_no_digit}

-- An integer at the front is no longer than the integer that a byte other than a digit follows.
pub integer_bounds : (w a y b : List ℕ) → HeadFails is_ascii_digit a → IsInteger w → IsInteger y → w ++ a ≡ y ++ b → length y ≤ length w
integer_bounds w a y b ends (inl digits) (inl others) same = run_bounds is_ascii_digit w a y b ends others.1 same
integer_bounds [] a y b ends (inl digits) (inr signed) same = absurd (omega (arith, digits.0))
integer_bounds (c ∷ w) a y b ends (inl digits) (inr (s, ds, sign, others, e)) same =
    let whole : c ∷ (w ++ a) ≡ s ∷ (ds ++ b) = same ∙ ap (λ l. l ++ b) e in
    let heads : c ≡ s = cc in
    let digit : is_ascii_digit c ≡ true = (and_parts (is_ascii_digit c) (list_all is_ascii_digit w) digits.1).0 in
    absurd (sign_no_digit s sign (subst (λ (k : ℕ). is_ascii_digit k ≡ true) heads digit))
integer_bounds w a [] b ends (inr signed) (inl others) same = omega arith
integer_bounds w a (c ∷ y) b ends (inr (s, ds, sign, digits, e)) (inl others) same =
    let whole : s ∷ (ds ++ a) ≡ c ∷ (y ++ b) = sym (ap (λ l. l ++ a) e) ∙ same in
    let heads : c ≡ s = cc in
    let digit : is_ascii_digit c ≡ true = (and_parts (is_ascii_digit c) (list_all is_ascii_digit y) others.1).0 in
    absurd (sign_no_digit s sign (subst (λ (k : ℕ). is_ascii_digit k ≡ true) heads digit))
integer_bounds w a y b ends (inr (s, ds, sign, digits, e)) (inr (t, es, minus, others, f)) same =
    let whole : s ∷ (ds ++ a) ≡ t ∷ (es ++ b) = sym (ap (λ l. l ++ a) e) ∙ same ∙ ap (λ l. l ++ b) f in
    let tails : ds ++ a ≡ es ++ b = cc in
    let shorter = run_bounds is_ascii_digit ds a es b ends others.1 tails in
    omega (arith, ap length e, ap length f)

-- Two integers at the front that bytes other than digits follow are one.
pub one_integer : (w a y b : List ℕ) → HeadFails is_ascii_digit a → HeadFails is_ascii_digit b → IsInteger w → IsInteger y → w ++ a ≡ y ++ b → (w ≡ y) × (a ≡ b)
one_integer w a y b ends stops (inl digits) (inl others) same = one_run is_ascii_digit w a y b ends stops digits.1 others.1 same
one_integer [] a y b ends stops (inl digits) (inr signed) same = absurd (omega (arith, digits.0))
one_integer (c ∷ w) a y b ends stops (inl digits) (inr (s, ds, sign, others, e)) same =
    let whole : c ∷ (w ++ a) ≡ s ∷ (ds ++ b) = same ∙ ap (λ l. l ++ b) e in
    let heads : c ≡ s = cc in
    let digit : is_ascii_digit c ≡ true = (and_parts (is_ascii_digit c) (list_all is_ascii_digit w) digits.1).0 in
    absurd (sign_no_digit s sign (subst (λ (k : ℕ). is_ascii_digit k ≡ true) heads digit))
one_integer w a [] b ends stops (inr signed) (inl others) same = absurd (omega (arith, others.0))
one_integer w a (c ∷ y) b ends stops (inr (s, ds, sign, digits, e)) (inl others) same =
    let whole : s ∷ (ds ++ a) ≡ c ∷ (y ++ b) = sym (ap (λ l. l ++ a) e) ∙ same in
    let heads : c ≡ s = cc in
    let digit : is_ascii_digit c ≡ true = (and_parts (is_ascii_digit c) (list_all is_ascii_digit y) others.1).0 in
    absurd (sign_no_digit s sign (subst (λ (k : ℕ). is_ascii_digit k ≡ true) heads digit))
one_integer w a y b ends stops (inr (s, ds, sign, digits, e)) (inr (t, es, minus, others, f)) same =
    let whole : s ∷ (ds ++ a) ≡ t ∷ (es ++ b) = sym (ap (λ l. l ++ a) e) ∙ same ∙ ap (λ l. l ++ b) f in
    let tails : ds ++ a ≡ es ++ b = cc in
    let found = one_run is_ascii_digit ds a es b ends stops digits.1 others.1 tails in
    let heads : s ≡ t = cc in
    let middle : ds ≡ es = found.0 in
    (cc, found.1)

-- An integer begins with a digit or a sign.
pub integer_begins : (w rest : List ℕ) (c : ℕ) (cs : List ℕ) → IsInteger w → c ∷ cs ≡ w ++ rest → (is_ascii_digit c || is_sign c) ≡ true
integer_begins [] rest c cs (inl digits) same = absurd (omega (arith, digits.0))
integer_begins (d ∷ w) rest c cs (inl digits) same =
    let heads : d ≡ c = cc in
    or_left (is_ascii_digit c) (is_sign c) (subst (λ (k : ℕ). is_ascii_digit k ≡ true) heads (and_parts (is_ascii_digit d) (list_all is_ascii_digit w) digits.1).0)
integer_begins w rest c cs (inr (s, ds, sign, digits, e)) same =
    let whole : c ∷ cs ≡ s ∷ (ds ++ rest) = same ∙ ap (λ l. l ++ rest) e in
    let heads : s ≡ c = cc in
    or_right (is_ascii_digit c) (is_sign c) (subst (λ (k : ℕ). is_sign k ≡ true) heads sign)

-- What `unsigned` and then the digits leave.

integer_at_head : (c : ℕ) (cs ds after : List ℕ) (b : Bool) → is_sign c ≡ b → SplitsRun is_ascii_digit (cond b cs (c ∷ cs)) ds after → 0 < length ds → LeavesInteger (c ∷ cs) after
integer_at_head c cs ds after true sign splits some = record { integer = c ∷ ds; is_integer = inr (c, ds, sign, (some, splits.passes), refl); whole = ap (λ l. c ∷ l) splits.whole; ends = splits.ends }
integer_at_head c cs ds after false plain splits some = record { integer = ds; is_integer = inl (some, splits.passes); whole = splits.whole; ends = splits.ends }

pub leaves_integer : (bytes ds after : List ℕ) → SplitsRun is_ascii_digit (unsigned bytes) ds after → 0 < length ds → LeavesInteger bytes after
leaves_integer [] ds after splits some = absurd (omega (arith, ap length splits.whole, length-append ds after))
leaves_integer (c ∷ cs) ds after splits some = integer_at_head c cs ds after (is_sign c) refl splits some

none_at_head : (c : ℕ) (cs ds after : List ℕ) (b : Bool) → is_sign c ≡ b → SplitsRun is_ascii_digit (cond b cs (c ∷ cs)) ds after → length ds ≡ 0 → HasNoInteger (c ∷ cs)
none_at_head c cs ds after true sign splits none [] rest same (inl digits) = absurd (omega (arith, digits.0))
none_at_head c cs ds after true sign splits none (d ∷ text) rest same (inl digits) =
    let heads : d ≡ c = cc in
    sign_no_digit c sign (subst (λ (k : ℕ). is_ascii_digit k ≡ true) heads (and_parts (is_ascii_digit d) (list_all is_ascii_digit text) digits.1).0)
none_at_head c cs ds after true sign splits none text rest same (inr (s, es, minus, digits, e)) =
    let whole : c ∷ cs ≡ s ∷ (es ++ rest) = same ∙ ap (λ l. l ++ rest) e in
    let tails : ds ++ after ≡ es ++ rest = sym splits.whole ∙ cc in
    omega (arith, run_bounds is_ascii_digit ds after es rest splits.ends digits.1 tails, digits.0)
none_at_head c cs ds after false plain splits none text rest same (inl digits) =
    omega (arith, run_bounds is_ascii_digit ds after text rest splits.ends digits.1 (sym splits.whole ∙ same), digits.0)
none_at_head c cs ds after false plain splits none text rest same (inr (s, es, minus, digits, e)) =
    let whole : c ∷ cs ≡ s ∷ (es ++ rest) = same ∙ ap (λ l. l ++ rest) e in
    let heads : s ≡ c = cc in
    both_ways (is_sign c) plain (subst (λ (k : ℕ). is_sign k ≡ true) heads minus)

pub none_in_nothing : HasNoInteger []
none_in_nothing [] rest same (inl digits) = omega (arith, digits.0)
none_in_nothing [] rest same (inr (s, es, minus, digits, e)) = cc
none_in_nothing (d ∷ text) rest same integer = cc

pub no_integer : (bytes ds after : List ℕ) → SplitsRun is_ascii_digit (unsigned bytes) ds after → length ds ≡ 0 → HasNoInteger bytes
no_integer [] ds after splits none = none_in_nothing
no_integer (c ∷ cs) ds after splits none = none_at_head c cs ds after (is_sign c) refl splits none

-- The beginnings of numbers.

-- nothing, a sign alone, or an integer: what may follow the E of a real
abbrev pub IsExponentFront : List ℕ → Type 0
IsExponentFront v = (v ≡ []) ⊎ (((s : ℕ) × (is_sign s ≡ true) × (v ≡ s ∷ [])) ⊎ IsInteger v)

-- digits, and then nothing, or E and what may follow it
abbrev pub IsFractionFront : List ℕ → Type 0
IsFractionFront z = (list_all is_ascii_digit z ≡ true) ⊎ ((f : List ℕ) × (v : List ℕ) × (list_all is_ascii_digit f ≡ true) × IsExponentFront v × (z ≡ f ++ 69 ∷ v))

-- a sign alone, an integer, or an integer, a point and what may follow it
abbrev pub IsNumberFront : List ℕ → Type 0
IsNumberFront y = ((s : ℕ) × (is_sign s ≡ true) × (y ≡ s ∷ [])) ⊎ (IsInteger y ⊎ ((w : List ℕ) × (z : List ℕ) × IsInteger w × IsFractionFront z × (y ≡ w ++ 46 ∷ z)))

pub front_of_plain : (text : List ℕ) → IsPlainReal text → IsNumberFront text
front_of_plain text (w, f, integer, digits, e) = inr (inr (w, f, integer, inl digits, e))

front_of_longer : (text plain v : List ℕ) → IsPlainReal plain → IsExponentFront v → text ≡ plain ++ 69 ∷ v → IsNumberFront text
front_of_longer text plain v (w, f, integer, digits, e) exponent same =
    inr (inr (w, f ++ 69 ∷ v, integer, inr (f, v, digits, exponent, refl), same ∙ ap (λ l. l ++ 69 ∷ v) e ∙ append_assoc w (46 ∷ f) (69 ∷ v)))

pub front_of_scaled : (text : List ℕ) → IsScaledReal text → IsNumberFront text
front_of_scaled text (plain, v, is_plain, integer, e) = front_of_longer text plain v is_plain (inr (inr integer)) e

pub front_of_broken : (text : List ℕ) → IsBrokenReal text → IsNumberFront text
front_of_broken text (plain, is_plain, inl e) = front_of_longer text plain [] is_plain (inl refl) e
front_of_broken text (plain, is_plain, inr (s, sign, e)) = front_of_longer text plain (s ∷ []) is_plain (inr (inl (s, sign, refl))) e

-- The longest of them.

pub exponent_bounds : (e a v b : List ℕ) → HeadFails is_ascii_digit a → IsInteger e → IsExponentFront v → e ++ a ≡ v ++ b → length v ≤ length e
exponent_bounds e a v b ends integer (inl none) same = omega (arith, ap length none)
exponent_bounds [] a v b ends (inl digits) (inr (inl (s, sign, one))) same = absurd (omega (arith, digits.0))
exponent_bounds [] a v b ends (inr (t, ds, minus, digits, e)) (inr (inl (s, sign, one))) same = absurd (omega (arith, ap length e))
exponent_bounds (c ∷ e) a v b ends integer (inr (inl (s, sign, one))) same = omega (arith, ap length one)
exponent_bounds e a v b ends integer (inr (inr other)) same = integer_bounds e a v b ends integer other same

-- where no integer begins, a sign alone or nothing is the longest
pub record BreaksOff (bytes : List ℕ) : Type 0 where
  pub front : List ℕ
  pub after : List ℕ
  pub whole : bytes ≡ front ++ after
  pub sign_or_none : (front ≡ []) ⊎ ((s : ℕ) × (is_sign s ≡ true) × (front ≡ s ∷ []))
  pub longest : (v b : List ℕ) → bytes ≡ v ++ b → IsExponentFront v → length v ≤ length front

breaks_at_head : (c : ℕ) (cs : List ℕ) (b : Bool) → is_sign c ≡ b → HasNoInteger (c ∷ cs) → BreaksOff (c ∷ cs)
breaks_at_head c cs true sign none = record { front = c ∷ []; after = cs; whole = refl; sign_or_none = inr (c, sign, refl); longest = bounds }
  where
    bounds : (v b : List ℕ) → c ∷ cs ≡ v ++ b → IsExponentFront v → length v ≤ 1
    bounds v b same (inl nothing) = omega (arith, ap length nothing)
    bounds v b same (inr (inl (s, minus, one))) = omega (arith, ap length one)
    bounds v b same (inr (inr integer)) = absurd (none v b same integer)
breaks_at_head c cs false plain none = record { front = []; after = c ∷ cs; whole = refl; sign_or_none = inl refl; longest = bounds }
  where
    bounds : (v b : List ℕ) → c ∷ cs ≡ v ++ b → IsExponentFront v → length v ≤ 0
    bounds v b same (inl nothing) = omega (arith, ap length nothing)
    bounds v b same (inr (inl (s, minus, one))) =
        let whole : c ∷ cs ≡ s ∷ b = same ∙ ap (λ l. l ++ b) one in
        let heads : s ≡ c = cc in
        absurd (both_ways (is_sign c) plain (subst (λ (k : ℕ). is_sign k ≡ true) heads minus))
    bounds v b same (inr (inr integer)) = absurd (none v b same integer)

pub breaks_off : (bytes : List ℕ) → HasNoInteger bytes → BreaksOff bytes
breaks_off [] none = record { front = []; after = []; whole = refl; sign_or_none = inl refl; longest = bounds }
  where
    bounds : (v b : List ℕ) → [] ≡ v ++ b → IsExponentFront v → length v ≤ 0
    bounds v b same front = omega (arith, ap length same, length-append v b)
breaks_off (c ∷ cs) none = breaks_at_head c cs (is_sign c) refl none

-- a longer front than the digits f has E after them
pub fraction_cases : (f a z b : List ℕ) → HeadFails is_ascii_digit a → list_all is_ascii_digit f ≡ true → IsFractionFront z → f ++ a ≡ z ++ b
    → (length z ≤ length f) ⊎ ((v : List ℕ) × IsExponentFront v × (a ≡ 69 ∷ (v ++ b)) × (z ≡ f ++ 69 ∷ v))
fraction_cases f a z b ends digits (inl others) same = inl (run_bounds is_ascii_digit f a z b ends others same)
fraction_cases f a z b ends digits (inr (g, v, others, exponent, e)) same =
    let whole : f ++ a ≡ g ++ (69 ∷ (v ++ b)) = same ∙ ap (λ l. l ++ b) e ∙ append_assoc g (69 ∷ v) b in
    let found = one_run is_ascii_digit f a g (69 ∷ (v ++ b)) ends refl digits others whole in
    inr (v, exponent, found.1, e ∙ ap (λ l. l ++ 69 ∷ v) (sym found.0))

-- a longer front than the integer w has a point after it
pub number_cases : (w a y b : List ℕ) → HeadFails is_ascii_digit a → IsInteger w → IsNumberFront y → w ++ a ≡ y ++ b
    → (length y ≤ length w) ⊎ ((z : List ℕ) × IsFractionFront z × (a ≡ 46 ∷ (z ++ b)) × (y ≡ w ++ 46 ∷ z))
number_cases w a y b ends integer (inl (s, sign, one)) same = inl (exponent_bounds w a y b ends integer (inr (inl (s, sign, one))) same)
number_cases w a y b ends integer (inr (inl other)) same = inl (integer_bounds w a y b ends integer other same)
number_cases w a y b ends integer (inr (inr (u, z, other, fraction, e))) same =
    let whole : w ++ a ≡ u ++ (46 ∷ (z ++ b)) = same ∙ ap (λ l. l ++ b) e ∙ append_assoc u (46 ∷ z) b in
    let found = one_integer w a u (46 ∷ (z ++ b)) ends refl integer other whole in
    inr (z, fraction, found.1, e ∙ ap (λ l. l ++ 46 ∷ z) (sym found.0))

-- no front is longer than the integer that no point follows
pub integer_longest : (w a y b : List ℕ) → HeadFails is_ascii_digit a → HeadFails (λ c. eqb c 46) a → IsInteger w → IsNumberFront y → w ++ a ≡ y ++ b → length y ≤ length w
integer_longest w a y b ends no_point integer front same = elim (number_cases w a y b ends integer front same) [
  | inl shorter ↦ shorter
  | inr (z, fraction, e, _) ↦ absurd (true≢false (subst (HeadFails (λ c. eqb c 46)) e no_point))
]

-- no front is longer than the real that no E follows
pub plain_longest : (w f a y b : List ℕ) → HeadFails is_ascii_digit a → HeadFails (λ c. eqb c 69) a → IsInteger w → list_all is_ascii_digit f ≡ true → IsNumberFront y
    → w ++ 46 ∷ (f ++ a) ≡ y ++ b → length y ≤ length (w ++ 46 ∷ f)
plain_longest w f a y b ends no_exponent integer digits front same = elim (number_cases w (46 ∷ (f ++ a)) y b refl integer front same) [
  | inl shorter ↦ omega (arith, length-append w (46 ∷ f))
  | inr (z, fraction, e, y_is) ↦
      let tails : f ++ a ≡ z ++ b = cc in
      elim (fraction_cases f a z b ends digits fraction tails) [
        | inl shorter ↦ omega (arith, length-append w (46 ∷ f), length-append w (46 ∷ z), ap length y_is)
        | inr (v, exponent, g, _) ↦ absurd (true≢false (subst (HeadFails (λ c. eqb c 69)) g no_exponent))
      ]
]

-- no front is longer than the real with the longest of what may follow its E
pub scaled_longest : (w f after v y b : List ℕ) → IsInteger w → list_all is_ascii_digit f ≡ true
    → ((u d : List ℕ) → after ≡ u ++ d → IsExponentFront u → length u ≤ length v)
    → IsNumberFront y → w ++ 46 ∷ (f ++ 69 ∷ after) ≡ y ++ b → length y ≤ length ((w ++ 46 ∷ f) ++ 69 ∷ v)
scaled_longest w f after v y b integer digits longest front same =
    let sizes : length ((w ++ 46 ∷ f) ++ 69 ∷ v) ≡ length w + length f + length v + 2 = omega (arith, length-append (w ++ 46 ∷ f) (69 ∷ v), length-append w (46 ∷ f)) in
    elim (number_cases w (46 ∷ (f ++ 69 ∷ after)) y b refl integer front same) [
      | inl shorter ↦ omega arith
      | inr (z, fraction, e, y_is) ↦
          let tails : f ++ 69 ∷ after ≡ z ++ b = cc in
          elim (fraction_cases f (69 ∷ after) z b refl digits fraction tails) [
            | inl shorter ↦ omega (arith, length-append w (46 ∷ z), ap length y_is)
            | inr (u, exponent, g, z_is) ↦
                let rest : after ≡ u ++ b = cc in
                omega (arith, longest u b rest exponent, length-append w (46 ∷ z), ap length y_is, length-append f (69 ∷ u), ap length z_is)
          ]
    ]
