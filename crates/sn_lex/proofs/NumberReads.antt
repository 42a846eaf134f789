-- Integers, reals and the numbers of instances at the front of the bytes.
use Rattle.std.proofs.Common.{◌≡◌, ℕ, ◌<◌, ◌≤◌, true, eqb, ◌||◌, List, [], ◌∷◌, ◌++◌, length, append_assoc, refl, sym, ap, ◌∙◌, subst, arith, inl, inr}
use Rattle.std.proofs.lemmas.Bool.{true≢false, or_cases, and_from}
use Rattle.std.specs.Char.{is_ascii_digit}
use Rattle.std.specs.Str.Parse.{digits_value}
use Rattle.sn_lex.specs.Character.{is_sign}
use Rattle.sn_lex.specs.Form.{IsInteger, IsInstanceNumber, IsBadNumber, HeadFails}
use Rattle.sn_lex.specs.Reading.{NoLongerForm}
use Rattle.sn_lex.specs.Split.{SplitsRun, LeavesInteger, HasNoInteger, begins_number, ReadsToken, ReadsFault}
use Rattle.sn_lex.specs.declared.token.Token.TheVariants.{Integer, Real, Number}
use Rattle.sn_lex.specs.declared.token.LexFault.TheVariants.{BadNumber}
use Rattle.sn_lex.specs.declared.opening.Opening.TheVariants.{Number as NumberOpening, Hash}
use Rattle.sn_lex.proofs.Runs.{run_bounds}
use Rattle.sn_lex.proofs.Numbers.{IsNumberFront, integer_begins, none_in_nothing, integer_longest, plain_longest, scaled_longest, exponent_bounds, breaks_off}
use Rattle.sn_lex.proofs.Competes.{Competes, no_longer, number_opening}

number_no_longer : (bytes w a : List ℕ) (len : ℕ) → IsInteger w → bytes ≡ w ++ a
    → ((text rest : List ℕ) → w ++ a ≡ text ++ rest → IsNumberFront text → length text ≤ len) → NoLongerForm bytes len
number_no_longer [] w a len integer whole bounds = absurd (none_in_nothing w a whole integer)
number_no_longer (c ∷ cs) w a len integer whole bounds =
    no_longer NumberOpening c cs len (number_opening c (integer_begins w a c cs integer whole)) (λ text rest same front. bounds text rest (sym whole ∙ same) front)

pub reads_integer : (bytes after : List ℕ) → LeavesInteger bytes after → HeadFails (λ c. eqb c 46) after → ReadsToken bytes Integer after
reads_integer bytes after leaves no_point = record { text = leaves.integer; whole = leaves.whole; is_text = leaves.is_integer; longest = number_no_longer bytes leaves.integer after (length leaves.integer) leaves.is_integer leaves.whole bounds }
  where
    bounds : (text rest : List ℕ) → leaves.integer ++ after ≡ text ++ rest → IsNumberFront text → length text ≤ length leaves.integer
    bounds text rest same front = integer_longest leaves.integer after text rest leaves.ends no_point leaves.is_integer front same

pub reads_plain_real : (bytes fraction run after : List ℕ) → LeavesInteger bytes (46 ∷ fraction) → SplitsRun is_ascii_digit fraction run after → HeadFails (λ c. eqb c 69) after → ReadsToken bytes Real after
reads_plain_real bytes fraction run after leaves splits no_exponent = record { text = w ++ 46 ∷ run; whole = leaves.whole ∙ ap (λ l. w ++ 46 ∷ l) splits.whole ∙ sym (append_assoc w (46 ∷ run) after); is_text = inl (w, run, leaves.is_integer, splits.passes, refl); longest = number_no_longer bytes w (46 ∷ fraction) (length (w ++ 46 ∷ run)) leaves.is_integer leaves.whole bounds }
  where
    w : List ℕ
    w = leaves.integer

    bounds : (text rest : List ℕ) → w ++ 46 ∷ fraction ≡ text ++ rest → IsNumberFront text → length text ≤ length (w ++ 46 ∷ run)
    bounds text rest same front = plain_longest w run after text rest splits.ends no_exponent leaves.is_integer splits.passes front (sym (ap (λ l. w ++ 46 ∷ l) splits.whole) ∙ same)

-- what a real is up to what follows its E
scaled_whole : (bytes w fraction run exponent e after : List ℕ) → bytes ≡ w ++ 46 ∷ fraction → fraction ≡ run ++ 69 ∷ exponent → exponent ≡ e ++ after
    → bytes ≡ ((w ++ 46 ∷ run) ++ 69 ∷ e) ++ after
scaled_whole bytes w fraction run exponent e after first second third =
    first ∙ ap (λ l. w ++ 46 ∷ l) second ∙ ap (λ l. w ++ 46 ∷ (run ++ 69 ∷ l)) third
    ∙ sym (append_assoc (w ++ 46 ∷ run) (69 ∷ e) after ∙ append_assoc w (46 ∷ run) (69 ∷ (e ++ after)))

pub reads_scaled_real : (bytes fraction run exponent after : List ℕ) → LeavesInteger bytes (46 ∷ fraction) → SplitsRun is_ascii_digit fraction run (69 ∷ exponent) → LeavesInteger exponent after → ReadsToken bytes Real after
reads_scaled_real bytes fraction run exponent after leaves splits power = record { text = (w ++ 46 ∷ run) ++ 69 ∷ e; whole = scaled_whole bytes w fraction run exponent e after leaves.whole splits.whole power.whole; is_text = inr (w ++ 46 ∷ run, e, (w, run, leaves.is_integer, splits.passes, refl), power.is_integer, refl); longest = number_no_longer bytes w (46 ∷ fraction) (length ((w ++ 46 ∷ run) ++ 69 ∷ e)) leaves.is_integer leaves.whole bounds }
  where
    w : List ℕ
    w = leaves.integer

    e : List ℕ
    e = power.integer

    bounds : (text rest : List ℕ) → w ++ 46 ∷ fraction ≡ text ++ rest → IsNumberFront text → length text ≤ length ((w ++ 46 ∷ run) ++ 69 ∷ e)
    bounds text rest same front =
        scaled_longest w run exponent e text rest leaves.is_integer splits.passes
        (λ u d here exponent_front. exponent_bounds e after u d power.ends power.is_integer exponent_front (sym power.whole ∙ here))
        front (sym (ap (λ l. w ++ 46 ∷ l) splits.whole) ∙ same)

pub broken_real : (bytes fraction run exponent : List ℕ) → LeavesInteger bytes (46 ∷ fraction) → SplitsRun is_ascii_digit fraction run (69 ∷ exponent) → HasNoInteger exponent → ReadsFault bytes (BadNumber 0)
broken_real bytes fraction run exponent leaves splits none = record { text = (w ++ 46 ∷ run) ++ 69 ∷ e; after = (breaks_off exponent none).after; whole = scaled_whole bytes w fraction run exponent e (breaks_off exponent none).after leaves.whole splits.whole (breaks_off exponent none).whole; is_text = inr (inl (w ++ 46 ∷ run, (w, run, leaves.is_integer, splits.passes, refl), elim (breaks_off exponent none).sign_or_none [ inl nothing ↦ inl (ap (λ l. (w ++ 46 ∷ run) ++ 69 ∷ l) nothing) | inr (s, sign, one) ↦ inr (s, sign, ap (λ l. (w ++ 46 ∷ run) ++ 69 ∷ l) one) ])); longest = number_no_longer bytes w (46 ∷ fraction) (length ((w ++ 46 ∷ run) ++ 69 ∷ e)) leaves.is_integer leaves.whole bounds }
  where
    w : List ℕ
    w = leaves.integer

    e : List ℕ
    e = (breaks_off exponent none).front

    bounds : (text rest : List ℕ) → w ++ 46 ∷ fraction ≡ text ++ rest → IsNumberFront text → length text ≤ length ((w ++ 46 ∷ run) ++ 69 ∷ e)
    bounds text rest same front =
        scaled_longest w run exponent e text rest leaves.is_integer splits.passes (breaks_off exponent none).longest
        front (sym (ap (λ l. w ++ 46 ∷ l) splits.whole) ∙ same)

sign_alone : (c : ℕ) (cs : List ℕ) → is_sign c ≡ true → (is_ascii_digit c || is_sign c) ≡ true → HasNoInteger (c ∷ cs) → ReadsFault (c ∷ cs) (BadNumber 0)
sign_alone c cs sign begins none = record { text = c ∷ []; after = cs; whole = refl; is_text = inl (c, sign, refl); longest = no_longer NumberOpening c cs 1 (number_opening c begins) bounds }
  where
    bounds : (text rest : List ℕ) → c ∷ cs ≡ text ++ rest → IsNumberFront text → length text ≤ 1
    bounds text rest same (inl (s, minus, one)) = omega (arith, ap length one)
    bounds text rest same (inr (inl integer)) = absurd (none text rest same integer)
    bounds text rest same (inr (inr (w, z, integer, fraction, e))) = absurd (none w (46 ∷ (z ++ rest)) (same ∙ ap (λ l. l ++ rest) e ∙ append_assoc w (46 ∷ z) rest) integer)

pub no_number : (bytes : List ℕ) → begins_number bytes ≡ true → HasNoInteger bytes → ReadsFault bytes (BadNumber 0)
no_number [] begins none = absurd (true≢false (sym begins))
no_number (c ∷ cs) begins none = elim (or_cases (is_ascii_digit c) (is_sign c) begins) [
  | inl digit ↦ absurd (none (c ∷ []) cs refl (inl (omega arith, and_from (is_ascii_digit c) true digit refl)))
  | inr sign ↦ sign_alone c cs sign begins none
]

-- Numbers of instances.

hash_longest : (bytes run after : List ℕ) → SplitsRun is_ascii_digit bytes run after → NoLongerForm (35 ∷ bytes) (length (35 ∷ run))
hash_longest bytes run after splits = no_longer Hash 35 bytes (length (35 ∷ run)) refl bounds
  where
    bounds : (text rest : List ℕ) → 35 ∷ bytes ≡ text ++ rest → Competes Hash text → length text ≤ length (35 ∷ run)
    bounds text rest same (digits, passes, e) =
        let whole : 35 ∷ bytes ≡ 35 ∷ (digits ++ rest) = same ∙ ap (λ l. l ++ rest) e in
        let tails : run ++ after ≡ digits ++ rest = sym splits.whole ∙ cc in
        omega (arith, run_bounds is_ascii_digit run after digits rest splits.ends passes tails, ap length e)

some_digit : (run : List ℕ) → IsInstanceNumber (digits_value 10 run) → 0 < length run
some_digit [] range = absurd (omega (arith, range.0))
some_digit (c ∷ run) range = omega arith

pub reads_instance_number : (bytes run after : List ℕ) (n : ℕ) → SplitsRun is_ascii_digit bytes run after → IsInstanceNumber (digits_value 10 run) → digits_value 10 run ≡ n → ReadsToken (35 ∷ bytes) (Number n) after
reads_instance_number bytes run after n splits range value = record { text = 35 ∷ run; whole = ap (λ l. 35 ∷ l) splits.whole; is_text = (subst IsInstanceNumber value range, (run, (some_digit run range, splits.passes), value, refl)); longest = hash_longest bytes run after splits }

no_instance_digits : (bytes run after : List ℕ) → SplitsRun is_ascii_digit bytes run after → (IsInstanceNumber (digits_value 10 run) → ⊥) → IsBadNumber (35 ∷ run)
no_instance_digits bytes [] after splits none = inr (inr (inl refl))
no_instance_digits bytes (c ∷ run) after splits none = inr (inr (inr (digits_value 10 (c ∷ run), none, (c ∷ run, (omega arith, splits.passes), refl, refl))))

pub no_instance_number : (bytes run after : List ℕ) → SplitsRun is_ascii_digit bytes run after → (IsInstanceNumber (digits_value 10 run) → ⊥) → ReadsFault (35 ∷ bytes) (BadNumber 0)
no_instance_number bytes run after splits none = record { text = 35 ∷ run; after = after; whole = ap (λ l. 35 ∷ l) splits.whole; is_text = no_instance_digits bytes run after splits none; longest = hash_longest bytes run after splits }
