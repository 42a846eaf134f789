-- The faults in the words of what is missing.
use Rattle.std.proofs.Common.{◌≡◌, ◌≢◌, ℕ, ◌+◌, ◌<◌, ◌≤◌, Bool, true, eqb, ltb, ◌&&◌, ◌^◌, List, [], ◌∷◌, ◌++◌, length, take, drop, append_assoc, append-nil, length-append, length-drop, refl, sym, ap, ◌∙◌, subst, arith, inl, inr, ◌⊎◌, slice_range}
use Rattle.std.proofs.lemmas.Bool.{both_ways, cases_Bool, and_parts, and_from, ltb-true, lt-ltb, cases_eq, ne_eqb, or_right, cond-true}
use Rattle.std.proofs.lemmas.List.{take-append-drop, length-take-le}
use Rattle.std.specs.Prelude.{codes}
use Rattle.std.specs.List.{list_all, prefix_len}
use Rattle.std.specs.Char.{is_ascii_digit}
use Rattle.std.specs.Str.Parse.{digits_value}
use Rattle.sn_lex.specs.Character.{is_sign, is_stray, is_name_byte}
use Rattle.sn_lex.specs.Fault.{BeginsNo, IsNumberBroken, IsNamed}
use Rattle.sn_lex.specs.Form.{IsCommentBody, IsSeparator, AreSeparators, AreDigits, IsName, IsInteger, IsPlainReal, IsInstanceNumber, IsBadNumber, IsFaultyText, doubled, HeadFails}
use Rattle.sn_lex.specs.Reading.{IsForm, separator, token, fault, NoLongerForm, IsNextFault, offset_of}
use Rattle.sn_lex.specs.Law.{FaultsNamed}
use Rattle.sn_lex.specs.Split.{LeavesName, ReadsFault, begins_name}
use Rattle.sn_lex.specs.declared.token.Token.{Token}
use Rattle.sn_lex.specs.declared.token.Token.TheVariants.{Keyword, Number, Integer, Real, Text, Enumeration, Binary, End}
use Rattle.sn_lex.specs.declared.token.LexFault.{LexFault}
use Rattle.sn_lex.specs.declared.token.LexFault.TheVariants.{BadByte, OpenString, OpenComment, BadNumber, BadEnum}
use Rattle.sn_lex.specs.declared.opening.Opening.TheVariants.{Other}
use Rattle.sn_lex.specs.Opening.{opening_of}
use Rattle.sn_lex.proofs.Bytes.{sign_no_digit}
use Rattle.sn_lex.proofs.Runs.{splits_at}
use Rattle.sn_lex.proofs.Numbers.{no_integer}
use Rattle.sn_lex.proofs.Names.{leaves_name, name_bytes, no_user_keyword, no_point_after_name, no_name_after_point}
use Rattle.sn_lex.proofs.NumberReads.{no_number, broken_real, no_instance_number}
use Rattle.sn_lex.proofs.Quoted.{string_byte, no_binary, whole_longest}
use Rattle.sn_lex.proofs.Competes.{first_same, no_longer, stray_cases}
use Rattle.sn_lex.proofs.Tokens.{body_cases, with_fault, lone_solidus}
use Rattle.sn_lex.proofs.KindOf.{has, has-append, has_none, token_or_fault}
use Rattle.sn_lex.proofs.Apart.{comment_apart, longer_front}
use Rattle.sn_lex.proofs.Unique.{cut, text_len, slice_len, nonempty_token, nonempty_fault}
use Rattle.sn_lex.proofs.Places.{next_fault_at}

-- From the longest form to what is missing.

-- one more byte makes a longer form
one_more : (bytes text : List ℕ) (c : ℕ) (after : List ℕ) → bytes ≡ text ++ (c ∷ after) → NoLongerForm bytes (length text) → IsForm (text ++ c ∷ []) → ⊥
one_more bytes text c after whole longest longer =
    omega (arith, longest (text ++ c ∷ []) after (whole ∙ sym (append_assoc text (c ∷ []) after)) longer, length-append text (c ∷ []))

-- a byte that makes no longer form is no digit
no_digit_after : (bytes text after : List ℕ) → bytes ≡ text ++ after → NoLongerForm bytes (length text) → ((d : ℕ) → is_ascii_digit d ≡ true → IsForm (text ++ d ∷ [])) → HeadFails is_ascii_digit after
no_digit_after bytes text [] whole longest longer = tt
no_digit_after bytes text (d ∷ after) whole longest longer = elim (cases_Bool (is_ascii_digit d)) [
  | inl digit ↦ absurd (one_more bytes text d after whole longest (longer d digit))
  | inr fails ↦ fails
]

-- a token at a stray byte is longer than the byte
stray_begins_no : (t : Token) (bytes : List ℕ) (c : ℕ) (after : List ℕ) → t ≢ End → is_stray c ≡ true → bytes ≡ c ∷ after → NoLongerForm bytes 1 → BeginsNo t bytes
stray_begins_no t bytes c after some stray whole longest [] rest same is = absurd (omega (arith, nonempty_token t [] is some))
stray_begins_no t bytes c after some stray whole longest (d ∷ []) rest same is =
    token_or_fault t (BadByte 0) (d ∷ []) is (c, stray, ap (λ (k : ℕ). k ∷ []) (first_same d c rest after (sym same ∙ whole)))
stray_begins_no t bytes c after some stray whole longest (d ∷ e ∷ text) rest same is = omega (arith, longest (d ∷ e ∷ text) rest same (token t is))

named_stray : (bytes : List ℕ) (c : ℕ) (after : List ℕ) → is_stray c ≡ true → bytes ≡ c ∷ after → NoLongerForm bytes 1 → IsNamed (BadByte 0) bytes
named_stray bytes c after stray whole longest = (
  c,
  after,
  stray,
  whole,
  stray_begins_no Keyword bytes c after (λ e. cc) stray whole longest,
  stray_begins_no Binary bytes c after (λ e. cc) stray whole longest,
  λ rest same. omega (arith, longest (codes "/*") rest same (fault (OpenComment 0) ([], tt, refl))),
)

named_string : (bytes v after : List ℕ) → bytes ≡ (39 ∷ doubled v) ++ after → NoLongerForm bytes (length (39 ∷ doubled v)) → IsNamed (OpenString 0) bytes
named_string bytes v [] whole longest = (v, whole ∙ append-nil (39 ∷ doubled v))
named_string bytes v (c ∷ after) whole longest = elim (cases_eq c 39) [
  | inl same ↦ absurd (one_more bytes (39 ∷ doubled v) c after whole longest (token Text (v, ap (λ (k : ℕ). (39 ∷ doubled v) ++ k ∷ []) same)))
  | inr apart ↦
      let found = string_byte (doubled v ++ c ∷ []) v (c ∷ []) c [] refl refl apart in
      absurd (one_more bytes (39 ∷ doubled v) c after whole longest (fault (OpenString 0) (found.0, ap (λ l. 39 ∷ l) (found.1 ∙ append-nil (doubled found.0)))))
]

named_comment : (bytes body after : List ℕ) → IsCommentBody body → bytes ≡ (47 ∷ 42 ∷ body) ++ after → NoLongerForm bytes (length (47 ∷ 42 ∷ body)) → IsNamed (OpenComment 0) bytes
named_comment bytes body [] is whole longest = (body, is, whole ∙ append-nil (47 ∷ 42 ∷ body))
named_comment bytes body (c ∷ after) is whole longest = elim (body_cases (body ++ c ∷ [])) [
  | inl longer ↦ absurd (one_more bytes (47 ∷ 42 ∷ body) c after whole longest (fault (OpenComment 0) (body ++ c ∷ [], longer, refl)))
  | inr (rest, leaves) ↦
      let front = codes "/*" ++ leaves.body ++ codes "*/" in
      let middle : body ++ (c ∷ after) ≡ (leaves.body ++ (42 ∷ 47 ∷ [])) ++ (rest ++ after) = sym (append_assoc body (c ∷ []) after) ∙ ap (λ l. l ++ after) leaves.whole ∙ append_assoc leaves.body (42 ∷ 47 ∷ rest) after ∙ sym (append_assoc leaves.body (42 ∷ 47 ∷ []) (rest ++ after)) in
      let same : (47 ∷ 42 ∷ body) ++ (c ∷ after) ≡ front ++ (rest ++ after) = ap (λ l. 47 ∷ 42 ∷ l) middle in
      let comment : IsSeparator front = inr (leaves.body, leaves.is_body, refl) in
      absurd (comment_apart body (c ∷ after) front (rest ++ after) is same (longest front (rest ++ after) (whole ∙ same) (separator comment)) comment)
]

-- Numbers.

list_all_push : (test : ℕ → Bool) (xs : List ℕ) (x : ℕ) → list_all test xs ≡ true → test x ≡ true → list_all test (xs ++ x ∷ []) ≡ true
list_all_push test [] x all passes = and_from (test x) true passes refl
list_all_push test (y ∷ xs) x all passes =
    let parts = and_parts (test y) (list_all test xs) all in
    and_from (test y) (list_all test (xs ++ x ∷ [])) parts.0 (list_all_push test xs x parts.1 passes)

-- # and digits are a form, whatever the digits are worth
hash_form : (digits : List ℕ) → AreDigits digits → IsForm (35 ∷ digits)
hash_form digits are = elim (cases_Bool (ltb 0 n && ltb n (2 ^ 32))) [
  | inl inside ↦ token (Number n) (range inside, (digits, are, refl, refl))
  | inr outside ↦ fault (BadNumber 0) (inr (inr (inr (n, (λ within. both_ways (ltb 0 n && ltb n (2 ^ 32)) outside (and_from (ltb 0 n) (ltb n (2 ^ 32)) (lt-ltb 0 n within.0) (lt-ltb n (2 ^ 32) within.1))), (digits, are, refl, refl)))))
]
  where
    n : ℕ
    n = digits_value 10 digits

    range : (ltb 0 n && ltb n (2 ^ 32)) ≡ true → IsInstanceNumber n
    range inside =
        let parts = and_parts (ltb 0 n) (ltb n (2 ^ 32)) inside in
        (ltb-true 0 n parts.0, ltb-true n (2 ^ 32) parts.1)

named_sign : (bytes : List ℕ) (s : ℕ) (after : List ℕ) → is_sign s ≡ true → bytes ≡ s ∷ after → NoLongerForm bytes 1 → IsNumberBroken bytes
named_sign bytes s after sign whole longest =
    inl (s, after, sign, no_digit_after bytes (s ∷ []) after whole longest (λ d digit. token Integer (inr (s, d ∷ [], sign, (omega arith, and_from (is_ascii_digit d) true digit refl), refl))), whole)

-- a sign alone or nothing is no integer
no_short_integer : (v e a b : List ℕ) → (v ≡ []) ⊎ ((s : ℕ) × (is_sign s ≡ true) × (v ≡ s ∷ [])) → IsInteger e → v ++ a ≡ e ++ b → length e ≤ length v → ⊥
no_short_integer v [] a b short (inl digits) same shorter = omega (arith, digits.0)
no_short_integer v [] a b short (inr (t, ds, minus, digits, e)) same shorter = omega (arith, ap length e)
no_short_integer v (d ∷ e) a b (inl nothing) integer same shorter = omega (arith, ap length nothing)
no_short_integer v (d ∷ e) a b (inr (s, sign, one)) (inl digits) same shorter =
    let heads : d ≡ s = first_same d s (e ++ b) a (sym same ∙ ap (λ l. l ++ a) one) in
    sign_no_digit s sign (subst (λ (k : ℕ). is_ascii_digit k ≡ true) heads (and_parts (is_ascii_digit d) (list_all is_ascii_digit e) digits.1).0)
no_short_integer v (d ∷ e) a b (inr (s, sign, one)) (inr (t, ds, minus, digits, f)) same shorter = omega (arith, ap length one, ap length f, digits.0)

named_broken : (bytes plain v after : List ℕ) → (v ≡ []) ⊎ ((s : ℕ) × (is_sign s ≡ true) × (v ≡ s ∷ [])) → IsPlainReal plain → bytes ≡ (plain ++ 69 ∷ v) ++ after → NoLongerForm bytes (length (plain ++ 69 ∷ v)) → IsNumberBroken bytes
named_broken bytes plain v after short is_plain whole longest = inr (inl (plain, v ++ after, is_plain, none, regroup))
  where
    regroup : bytes ≡ plain ++ 69 ∷ (v ++ after)
    regroup = whole ∙ append_assoc plain (69 ∷ v) after

    none : BeginsNo Integer (v ++ after)
    none e rest same integer =
        let longer = longest (plain ++ 69 ∷ e) rest (regroup ∙ ap (λ l. plain ++ 69 ∷ l) same ∙ sym (append_assoc plain (69 ∷ e) rest)) (token Real (inr (plain, e, is_plain, integer, refl))) in
        no_short_integer v e after rest short integer same (omega (arith, longer, length-append plain (69 ∷ e), length-append plain (69 ∷ v)))

named_hash : (bytes after : List ℕ) → bytes ≡ 35 ∷ after → NoLongerForm bytes 1 → IsNumberBroken bytes
named_hash bytes after whole longest =
    inr (inr (inl (after, no_digit_after bytes (35 ∷ []) after whole longest (λ d digit. hash_form (d ∷ []) (omega arith, and_from (is_ascii_digit d) true digit refl)), whole)))

named_numeral : (bytes digits after : List ℕ) → AreDigits digits → (IsInstanceNumber (digits_value 10 digits) → ⊥) → bytes ≡ (35 ∷ digits) ++ after → NoLongerForm bytes (length (35 ∷ digits)) → IsNumberBroken bytes
named_numeral bytes digits after are out whole longest =
    inr (inr (inr (digits, after, are, no_digit_after bytes (35 ∷ digits) after whole longest (λ d digit. hash_form (digits ++ d ∷ []) (omega (arith, length-append digits (d ∷ [])), list_all_push is_ascii_digit digits d are.1 digit)), out, whole)))

named_number : (bytes text after : List ℕ) → IsBadNumber text → bytes ≡ text ++ after → NoLongerForm bytes (length text) → IsNumberBroken bytes
named_number bytes text after (inl (s, sign, e)) whole longest = named_sign bytes s after sign (whole ∙ ap (λ l. l ++ after) e) (subst (λ (l : List ℕ). NoLongerForm bytes (length l)) e longest)
named_number bytes text after (inr (inl (plain, is_plain, inl e))) whole longest =
    named_broken bytes plain [] after (inl refl) is_plain (whole ∙ ap (λ l. l ++ after) e) (subst (λ (l : List ℕ). NoLongerForm bytes (length l)) e longest)
named_number bytes text after (inr (inl (plain, is_plain, inr (s, sign, e)))) whole longest =
    named_broken bytes plain (s ∷ []) after (inr (s, sign, refl)) is_plain (whole ∙ ap (λ l. l ++ after) e) (subst (λ (l : List ℕ). NoLongerForm bytes (length l)) e longest)
named_number bytes text after (inr (inr (inl e))) whole longest = named_hash bytes after (whole ∙ ap (λ l. l ++ after) e) (subst (λ (l : List ℕ). NoLongerForm bytes (length l)) e longest)
named_number bytes text after (inr (inr (inr (n, out, (digits, are, value, e))))) whole longest =
    named_numeral bytes digits after are (λ range. out (subst IsInstanceNumber value range)) (whole ∙ ap (λ l. l ++ after) e) (subst (λ (l : List ℕ). NoLongerForm bytes (length l)) e longest)

-- Enumerations.

named_point : (bytes after : List ℕ) → bytes ≡ 46 ∷ after → NoLongerForm bytes 1 → IsNamed (BadEnum 0) bytes
named_point bytes after whole longest = (after, whole, none)
  where
    none : BeginsNo Enumeration bytes
    none text rest same (name, is, e) = omega (arith, longest text rest same (token Enumeration (name, is, e)), ap length e, length-append name (46 ∷ []))

named_name : (bytes name after : List ℕ) → IsName name → bytes ≡ (46 ∷ name) ++ after → NoLongerForm bytes (length (46 ∷ name)) → IsNamed (BadEnum 0) bytes
named_name bytes name after is whole longest = (name ++ after, whole, none)
  where
    none : BeginsNo Enumeration bytes
    none text rest same (other, is_other, e) =
        let found = longer_front (46 ∷ name) after text rest (sym whole ∙ same) (longest text rest same (token Enumeration (other, is_other, e))) in
        let both : 46 ∷ name ≡ 46 ∷ ((other ++ 46 ∷ []) ++ found.0) = found.1 ∙ ap (λ l. l ++ found.0) e in
        let tails : name ≡ (other ++ 46 ∷ []) ++ found.0 = cc in
        let point : has 46 name ≡ true = ap (λ l. has 46 l) (tails ∙ append_assoc other (46 ∷ []) found.0) ∙ has-append 46 other (46 ∷ found.0) ∙ or_right (has 46 other) true refl in
        both_ways (has 46 name) (has_none is_name_byte 46 name (name_bytes name is) refl) point

named_by_text : (f : LexFault) (bytes text after : List ℕ) → IsFaultyText f text → bytes ≡ text ++ after → NoLongerForm bytes (length text) → IsNamed f bytes
named_by_text (BadByte at) bytes text after (c, stray, e) whole longest = named_stray bytes c after stray (whole ∙ ap (λ l. l ++ after) e) (subst (λ (l : List ℕ). NoLongerForm bytes (length l)) e longest)
named_by_text (OpenString at) bytes text after (v, e) whole longest = named_string bytes v after (whole ∙ ap (λ l. l ++ after) e) (subst (λ (l : List ℕ). NoLongerForm bytes (length l)) e longest)
named_by_text (OpenComment at) bytes text after (body, is, e) whole longest = named_comment bytes body after is (whole ∙ ap (λ l. l ++ after) e) (subst (λ (l : List ℕ). NoLongerForm bytes (length l)) e longest)
named_by_text (BadNumber at) bytes text after bad whole longest = named_number bytes text after bad whole longest
named_by_text (BadEnum at) bytes text after (inl e) whole longest = named_point bytes after (whole ∙ ap (λ l. l ++ after) e) (subst (λ (l : List ℕ). NoLongerForm bytes (length l)) e longest)
named_by_text (BadEnum at) bytes text after (inr (name, is, e)) whole longest = named_name bytes name after is (whole ∙ ap (λ l. l ++ after) e) (subst (λ (l : List ℕ). NoLongerForm bytes (length l)) e longest)

named_next : (bytes : List ℕ) (at : ℕ) (f : LexFault) → IsNextFault bytes at f → (at ≤ offset_of f) × AreSeparators (slice_range bytes at (offset_of f)) × IsNamed f (drop (offset_of f) bytes)
named_next bytes at f next =
    let text = slice_range bytes (offset_of f) (offset_of f + next.len) in
    let longest = subst (λ (n : ℕ). NoLongerForm (drop (offset_of f) bytes) n) (sym (text_len bytes (offset_of f) next.len next.within)) next.longest in
    (next.from, next.separated, named_by_text f (drop (offset_of f) bytes) text (drop (offset_of f + next.len) bytes) next.text (cut bytes (offset_of f) (offset_of f + next.len) (omega arith)) longest)

-- From what is missing to the longest form.

split_name : (bytes : List ℕ) → begins_name bytes ≡ true → (after : List ℕ) × LeavesName bytes after
split_name bytes begins =
    let run = take (prefix_len is_name_byte bytes) bytes in
    let rest = drop (prefix_len is_name_byte bytes) bytes in
    (rest, leaves_name bytes run rest begins (splits_at is_name_byte bytes run rest (prefix_len is_name_byte bytes) refl refl refl))

reads_exclamation : (after : List ℕ) → BeginsNo Keyword (33 ∷ after) → ReadsFault (33 ∷ after) (BadByte 0)
reads_exclamation after none = elim (cases_Bool (begins_name after)) [
  | inl begins ↦
      let (rest, leaves) = split_name after begins in
      absurd (none (33 ∷ leaves.name) rest (ap (λ l. 33 ∷ l) leaves.splits.whole) (inr (leaves.name, leaves.is_name, refl)))
  | inr not_begun ↦ no_user_keyword after not_begun
]

no_asterisk_after : (after : List ℕ) → ((rest : List ℕ) → 47 ∷ after ≡ codes "/*" ++ rest → ⊥) → HeadFails (λ k. eqb k 42) after
no_asterisk_after [] none = tt
no_asterisk_after (d ∷ after) none = elim (cases_eq d 42) [
  | inl same ↦ absurd (none after (ap (λ (k : ℕ). 47 ∷ k ∷ after) same))
  | inr apart ↦ ne_eqb d 42 apart
]

reads_stray : (bytes : List ℕ) (c : ℕ) (after : List ℕ) → is_stray c ≡ true → bytes ≡ c ∷ after → BeginsNo Keyword bytes → BeginsNo Binary bytes → ((rest : List ℕ) → bytes ≡ codes "/*" ++ rest → ⊥) → ReadsFault bytes (BadByte 0)
reads_stray bytes c after stray whole keyword binary comment = by_byte (stray_cases c stray)
  where
    here : (d : ℕ) → c ≡ d → bytes ≡ d ∷ after
    here d same = whole ∙ ap (λ (k : ℕ). k ∷ after) same

    by_byte : (c ≡ 33) ⊎ ((c ≡ 34) ⊎ ((c ≡ 47) ⊎ (opening_of c ≡ Other))) → ReadsFault bytes (BadByte 0)
    by_byte (inl e) = subst (λ (l : List ℕ). ReadsFault l (BadByte 0)) (sym (here 33 e)) (reads_exclamation after (subst (BeginsNo Keyword) (here 33 e) keyword))
    by_byte (inr (inl e)) = subst (λ (l : List ℕ). ReadsFault l (BadByte 0)) (sym (here 34 e)) (no_binary after (subst (BeginsNo Binary) (here 34 e) binary))
    by_byte (inr (inr (inl e))) = lone_solidus bytes c after 0 whole (ap opening_of e) (no_asterisk_after after (λ rest same. comment rest (here 47 e ∙ same)))
    by_byte (inr (inr (inr is))) = record { text = c ∷ []; after = after; whole = whole; is_text = (c, stray, refl); longest = subst (λ (l : List ℕ). NoLongerForm l 1) (sym whole) (no_longer Other c after 1 is (λ text rest e one. omega (arith, one))) }

reads_sign : (s : ℕ) (after : List ℕ) → is_sign s ≡ true → HeadFails is_ascii_digit after → ReadsFault (s ∷ after) (BadNumber 0)
reads_sign s after sign ends =
    no_number (s ∷ after) (or_right (is_ascii_digit s) (is_sign s) sign)
    (no_integer (s ∷ after) [] after (record { whole = cond-true (is_sign s) after (s ∷ after) sign; passes = refl; ends = ends }) refl)

reads_broken : (bytes plain after : List ℕ) → IsPlainReal plain → BeginsNo Integer after → bytes ≡ plain ++ 69 ∷ after → ReadsFault bytes (BadNumber 0)
reads_broken bytes plain after (w, f, integer, digits, e) none whole =
    broken_real bytes (f ++ 69 ∷ after) f after
    (record { integer = w; is_integer = integer; whole = whole ∙ ap (λ l. l ++ 69 ∷ after) e ∙ append_assoc w (46 ∷ f) (69 ∷ after); ends = refl })
    (record { whole = refl; passes = digits; ends = refl }) none

reads_number : (bytes : List ℕ) → IsNumberBroken bytes → ReadsFault bytes (BadNumber 0)
reads_number bytes (inl (s, after, sign, ends, whole)) = subst (λ (l : List ℕ). ReadsFault l (BadNumber 0)) (sym whole) (reads_sign s after sign ends)
reads_number bytes (inr (inl (plain, after, is_plain, none, whole))) = reads_broken bytes plain after is_plain none whole
reads_number bytes (inr (inr (inl (after, ends, whole)))) =
    subst (λ (l : List ℕ). ReadsFault l (BadNumber 0)) (sym whole) (no_instance_number after [] after (record { whole = refl; passes = refl; ends = ends }) (λ range. omega (arith, range.0)))
reads_number bytes (inr (inr (inr (digits, after, are, ends, out, whole)))) =
    subst (λ (l : List ℕ). ReadsFault l (BadNumber 0)) (sym whole) (no_instance_number (digits ++ after) digits after (record { whole = refl; passes = are.1; ends = ends }) out)

no_point_after : (bytes rest : List ℕ) (leaves : LeavesName bytes rest) → BeginsNo Enumeration (46 ∷ bytes) → HeadFails (λ c. eqb c 46) rest
no_point_after bytes [] leaves none = tt
no_point_after bytes (d ∷ rest) leaves none = elim (cases_eq d 46) [
  | inl same ↦
      let whole : bytes ≡ leaves.name ++ 46 ∷ rest = leaves.splits.whole ∙ ap (λ (k : ℕ). leaves.name ++ k ∷ rest) same in
      absurd (none (46 ∷ leaves.name ++ 46 ∷ []) rest (ap (λ l. 46 ∷ l) (whole ∙ sym (append_assoc leaves.name (46 ∷ []) rest))) (leaves.name, leaves.is_name, refl))
  | inr apart ↦ ne_eqb d 46 apart
]

reads_point : (after : List ℕ) → BeginsNo Enumeration (46 ∷ after) → ReadsFault (46 ∷ after) (BadEnum 0)
reads_point after none = elim (cases_Bool (begins_name after)) [
  | inl begins ↦
      let (rest, leaves) = split_name after begins in
      no_point_after_name after rest leaves (no_point_after after rest leaves none)
  | inr not_begun ↦ no_name_after_point after not_begun
]

reads_named : (f : LexFault) (bytes : List ℕ) → IsNamed f bytes → ReadsFault bytes f
reads_named (BadByte at) bytes (c, after, stray, whole, keyword, binary, comment) = with_fault bytes (BadByte 0) (BadByte at) (λ text is. is) (reads_stray bytes c after stray whole keyword binary comment)
reads_named (OpenString at) bytes (v, whole) = record { text = bytes; after = []; whole = sym (append-nil bytes); is_text = (v, whole); longest = whole_longest bytes }
reads_named (OpenComment at) bytes (body, is, whole) = record { text = bytes; after = []; whole = sym (append-nil bytes); is_text = (body, is, whole); longest = whole_longest bytes }
reads_named (BadNumber at) bytes broken = with_fault bytes (BadNumber 0) (BadNumber at) (λ text is. is) (reads_number bytes broken)
reads_named (BadEnum at) bytes (after, whole, none) =
    with_fault bytes (BadEnum 0) (BadEnum at) (λ text is. is) (subst (λ (l : List ℕ). ReadsFault l (BadEnum 0)) (sym whole) (reads_point after (subst (BeginsNo Enumeration) whole none)))

next_named : (bytes : List ℕ) (at : ℕ) (f : LexFault) → at ≤ offset_of f → AreSeparators (slice_range bytes at (offset_of f)) → IsNamed f (drop (offset_of f) bytes) → IsNextFault bytes at f
next_named bytes at f from separated named = by_parts (reads_named f (drop (offset_of f) bytes) named)
  where
    by_parts : ReadsFault (drop (offset_of f) bytes) f → IsNextFault bytes at f
    by_parts reads =
        let place : ℕ = offset_of f in
        let separators : List ℕ = slice_range bytes at (offset_of f) in
        let some : 0 < length (drop (offset_of f) bytes) = omega (arith, nonempty_fault f reads.text reads.is_text, ap length reads.whole, length-append reads.text reads.after) in
        let inside : offset_of f < length bytes = omega (arith, some, length-drop (offset_of f) bytes) in
        let whole : bytes ≡ take at bytes ++ (slice_range bytes at (offset_of f) ++ (reads.text ++ reads.after)) =
        sym (take-append-drop at bytes) ∙ ap (λ l. take at bytes ++ l) (cut bytes at (offset_of f) from ∙ ap (λ l. slice_range bytes at (offset_of f) ++ l) reads.whole) in
        subst (λ (l : List ℕ). IsNextFault l at f) (sym whole)
        (next_fault_at (take at bytes) (slice_range bytes at (offset_of f)) reads.text reads.after f at (length-take-le at bytes (omega arith)) (omega (arith, slice_len bytes at (offset_of f) from (omega arith))) separated reads.is_text
        (subst (λ (l : List ℕ). NoLongerForm l (length reads.text)) reads.whole reads.longest))

pub faults_named : FaultsNamed
faults_named = (named_next, next_named)
