-- Strings and binaries at the front of the bytes.
use Rattle.std.proofs.Common.{◌≡◌, ℕ, ◌+◌, ◌≤◌, true, false, cond, eqb, List, [], ◌∷◌, ◌++◌, length, append_assoc, length-append, append-nil, refl, sym, ap, ◌∙◌, subst, arith, inl, inr, ◌⊎◌, eq-eqb, ne_eqb}
use Rattle.std.proofs.lemmas.Bool.{both_ways, true≢false, cases_eq, cond-true, cond-false}
use Rattle.sn_lex.specs.Character.{is_hex_digit, is_unused_count}
use Rattle.sn_lex.specs.Form.{doubled, IsTextOf, HeadFails}
use Rattle.sn_lex.specs.Reading.{NoLongerForm}
use Rattle.sn_lex.specs.Law.{OneValue}
use Rattle.sn_lex.specs.Split.{SplitsRun, LeavesString, IsInString, ReadsToken, ReadsFault}
use Rattle.sn_lex.specs.declared.token.Token.TheVariants.{Text, Binary}
use Rattle.sn_lex.specs.declared.token.LexFault.TheVariants.{BadByte, OpenString}
use Rattle.sn_lex.specs.declared.opening.Opening.TheVariants.{Apostrophe, Quotation}
use Rattle.sn_lex.proofs.Runs.{run_bounds, one_run}
use Rattle.sn_lex.proofs.Competes.{Competes, no_longer}

pub whole_longest : (bytes : List ℕ) → NoLongerForm bytes (length bytes)
whole_longest bytes text after same form = omega (arith, ap length same, length-append text after)

-- Strings.

pub doubled_cases : (c : ℕ) (cs : List ℕ) → ((c ≡ 39) × (doubled (c ∷ cs) ≡ 39 ∷ 39 ∷ doubled cs)) ⊎ ((c ≡ 39 → ⊥) × (doubled (c ∷ cs) ≡ c ∷ doubled cs))
doubled_cases c cs = elim (cases_eq c 39) [
  | inl same ↦ inl (same, cond-true (eqb c 39) _ _ (eq-eqb c 39 same))
  | inr apart ↦ inr (apart, cond-false (eqb c 39) _ _ (ne_eqb c 39 apart))
]

doubled-append : (xs ys : List ℕ) → doubled (xs ++ ys) ≡ doubled xs ++ doubled ys
doubled-append [] ys = refl
doubled-append (c ∷ xs) ys =
    let tails = doubled-append xs ys in
    elim (eqb c 39) as (λ b. cond b (39 ∷ 39 ∷ doubled (xs ++ ys)) (c ∷ doubled (xs ++ ys)) ≡ cond b (39 ∷ 39 ∷ doubled xs) (c ∷ doubled xs) ++ doubled ys) [
      | true ↦ ap (λ l. 39 ∷ 39 ∷ l) tails
      | false ↦ ap (λ l. c ∷ l) tails
    ]

nothing_doubled : (c : ℕ) (cs : List ℕ) → [] ≡ c ∷ cs → ⊥
nothing_doubled c cs same = cc

-- the string goes on by a byte that is no apostrophe, and by two that are
pub string_byte : (bytes value rest : List ℕ) (c : ℕ) (after : List ℕ) → bytes ≡ doubled value ++ rest → rest ≡ c ∷ after → (c ≡ 39 → ⊥) → (longer : List ℕ) × (bytes ≡ doubled longer ++ after)
string_byte bytes value rest c after so_far next apart =
    let one : doubled (c ∷ []) ≡ c ∷ [] = cond-false (eqb c 39) _ _ (ne_eqb c 39 apart) in
    let last : doubled (value ++ c ∷ []) ≡ doubled value ++ c ∷ [] = doubled-append value (c ∷ []) ∙ ap (λ l. doubled value ++ l) one in
    (value ++ c ∷ [], so_far ∙ ap (λ l. doubled value ++ l) next ∙ sym (append_assoc (doubled value) (c ∷ []) after) ∙ sym (ap (λ l. l ++ after) last))

pub string_pair : (bytes value rest second after : List ℕ) → bytes ≡ doubled value ++ rest → rest ≡ 39 ∷ second → second ≡ 39 ∷ after → (longer : List ℕ) × (bytes ≡ doubled longer ++ after)
string_pair bytes value rest second after so_far next more =
    let last : doubled (value ++ 39 ∷ []) ≡ doubled value ++ 39 ∷ 39 ∷ [] = doubled-append value (39 ∷ []) in
    (value ++ 39 ∷ [], so_far ∙ ap (λ l. doubled value ++ l) (next ∙ ap (λ l. 39 ∷ l) more) ∙ sym (append_assoc (doubled value) (39 ∷ 39 ∷ []) after) ∙ sym (ap (λ l. l ++ after) last))

-- a doubled value at the front is no longer than the one that a single apostrophe follows
doubled_bounds : (v after w b : List ℕ) → HeadFails (λ c. eqb c 39) after → doubled v ++ 39 ∷ after ≡ doubled w ++ b → length (doubled w) ≤ length (doubled v)
doubled_bounds v after [] b ends same = omega arith
doubled_bounds [] after (d ∷ w) b ends same = elim (doubled_cases d w) [
  | inl (_, e) ↦
      let whole : 39 ∷ after ≡ 39 ∷ (39 ∷ (doubled w ++ b)) = same ∙ ap (λ l. l ++ b) e in
      let tails : after ≡ 39 ∷ (doubled w ++ b) = cc in
      absurd (true≢false (subst (HeadFails (λ c. eqb c 39)) tails ends))
  | inr (apart, e) ↦
      let whole : 39 ∷ after ≡ d ∷ (doubled w ++ b) = same ∙ ap (λ l. l ++ b) e in
      let heads : d ≡ 39 = cc in
      absurd (apart heads)
]
doubled_bounds (c ∷ v) after (d ∷ w) b ends same = by_heads (doubled_cases c v) (doubled_cases d w) (doubled_bounds v after w b ends)
  where
    by_heads : (((c ≡ 39) × (doubled (c ∷ v) ≡ 39 ∷ 39 ∷ doubled v)) ⊎ ((c ≡ 39 → ⊥) × (doubled (c ∷ v) ≡ c ∷ doubled v)))
        → (((d ≡ 39) × (doubled (d ∷ w) ≡ 39 ∷ 39 ∷ doubled w)) ⊎ ((d ≡ 39 → ⊥) × (doubled (d ∷ w) ≡ d ∷ doubled w)))
        → (doubled v ++ 39 ∷ after ≡ doubled w ++ b → length (doubled w) ≤ length (doubled v)) → length (doubled (d ∷ w)) ≤ length (doubled (c ∷ v))
    by_heads (inl (_, e)) (inl (_, f)) shorter =
        let whole : 39 ∷ 39 ∷ (doubled v ++ 39 ∷ after) ≡ 39 ∷ 39 ∷ (doubled w ++ b) = sym (ap (λ l. l ++ 39 ∷ after) e) ∙ same ∙ ap (λ l. l ++ b) f in
        let tails : doubled v ++ 39 ∷ after ≡ doubled w ++ b = cc in
        omega (arith, shorter tails, ap length e, ap length f)
    by_heads (inl (_, e)) (inr (apart, f)) shorter =
        let whole : 39 ∷ 39 ∷ (doubled v ++ 39 ∷ after) ≡ d ∷ (doubled w ++ b) = sym (ap (λ l. l ++ 39 ∷ after) e) ∙ same ∙ ap (λ l. l ++ b) f in
        let heads : d ≡ 39 = cc in
        absurd (apart heads)
    by_heads (inr (apart, e)) (inl (_, f)) shorter =
        let whole : c ∷ (doubled v ++ 39 ∷ after) ≡ 39 ∷ 39 ∷ (doubled w ++ b) = sym (ap (λ l. l ++ 39 ∷ after) e) ∙ same ∙ ap (λ l. l ++ b) f in
        let heads : c ≡ 39 = cc in
        absurd (apart heads)
    by_heads (inr (_, e)) (inr (_, f)) shorter =
        let whole : c ∷ (doubled v ++ 39 ∷ after) ≡ d ∷ (doubled w ++ b) = sym (ap (λ l. l ++ 39 ∷ after) e) ∙ same ∙ ap (λ l. l ++ b) f in
        let tails : doubled v ++ 39 ∷ after ≡ doubled w ++ b = cc in
        omega (arith, shorter tails, ap length e, ap length f)

pub one_value : OneValue
one_value [] [] same = refl
one_value [] (d ∷ w) same = elim (doubled_cases d w) [ inl (_, e) ↦ absurd (nothing_doubled 39 (39 ∷ doubled w) (same ∙ e)) | inr (_, e) ↦ absurd (nothing_doubled d (doubled w) (same ∙ e)) ]
one_value (c ∷ v) [] same = elim (doubled_cases c v) [ inl (_, e) ↦ absurd (nothing_doubled 39 (39 ∷ doubled v) (sym same ∙ e)) | inr (_, e) ↦ absurd (nothing_doubled c (doubled v) (sym same ∙ e)) ]
one_value (c ∷ v) (d ∷ w) same = by_heads (doubled_cases c v) (doubled_cases d w) (one_value v w)
  where
    by_heads : (((c ≡ 39) × (doubled (c ∷ v) ≡ 39 ∷ 39 ∷ doubled v)) ⊎ ((c ≡ 39 → ⊥) × (doubled (c ∷ v) ≡ c ∷ doubled v)))
        → (((d ≡ 39) × (doubled (d ∷ w) ≡ 39 ∷ 39 ∷ doubled w)) ⊎ ((d ≡ 39 → ⊥) × (doubled (d ∷ w) ≡ d ∷ doubled w)))
        → (doubled v ≡ doubled w → v ≡ w) → c ∷ v ≡ d ∷ w
    by_heads (inl (quote, e)) (inl (apostrophe, f)) rest =
        let whole : 39 ∷ 39 ∷ doubled v ≡ 39 ∷ 39 ∷ doubled w = sym e ∙ same ∙ f in
        let tails : doubled v ≡ doubled w = cc in
        let values = rest tails in
        let heads : c ≡ d = quote ∙ sym apostrophe in
        cc
    by_heads (inl (_, e)) (inr (apart, f)) rest =
        let whole : 39 ∷ 39 ∷ doubled v ≡ d ∷ doubled w = sym e ∙ same ∙ f in
        let heads : d ≡ 39 = cc in
        absurd (apart heads)
    by_heads (inr (apart, e)) (inl (_, f)) rest =
        let whole : c ∷ doubled v ≡ 39 ∷ 39 ∷ doubled w = sym e ∙ same ∙ f in
        let heads : c ≡ 39 = cc in
        absurd (apart heads)
    by_heads (inr (_, e)) (inr (_, f)) rest =
        let whole : c ∷ doubled v ≡ d ∷ doubled w = sym e ∙ same ∙ f in
        let tails : doubled v ≡ doubled w = cc in
        let values = rest tails in
        let heads : c ≡ d = cc in
        cc

pub reads_text : (bytes after : List ℕ) → LeavesString bytes after → ReadsToken (39 ∷ bytes) Text after
reads_text bytes after leaves = record { text = 39 ∷ doubled v ++ 39 ∷ []; whole = ap (λ l. 39 ∷ l) (leaves.whole ∙ sym (append_assoc (doubled v) (39 ∷ []) after)); is_text = (v, refl); longest = no_longer Apostrophe 39 bytes (length (39 ∷ doubled v ++ 39 ∷ [])) refl bounds }
  where
    v : List ℕ
    v = leaves.value

    sizes : length (39 ∷ doubled v ++ 39 ∷ []) ≡ length (doubled v) + 2
    sizes = omega (arith, length-append (doubled v) (39 ∷ []))

    bounds : (text rest : List ℕ) → 39 ∷ bytes ≡ text ++ rest → Competes Apostrophe text → length text ≤ length (39 ∷ doubled v ++ 39 ∷ [])
    bounds text rest same (w, inl e) =
        let whole : 39 ∷ bytes ≡ 39 ∷ (doubled w ++ 39 ∷ rest) = same ∙ ap (λ l. l ++ rest) e ∙ ap (λ l. 39 ∷ l) (append_assoc (doubled w) (39 ∷ []) rest) in
        let tails : doubled v ++ 39 ∷ after ≡ doubled w ++ 39 ∷ rest = sym leaves.whole ∙ cc in
        omega (arith, sizes, doubled_bounds v after w (39 ∷ rest) leaves.ends tails, ap length e, length-append (doubled w) (39 ∷ []))
    bounds text rest same (w, inr e) =
        let whole : 39 ∷ bytes ≡ 39 ∷ (doubled w ++ rest) = same ∙ ap (λ l. l ++ rest) e in
        let tails : doubled v ++ 39 ∷ after ≡ doubled w ++ rest = sym leaves.whole ∙ cc in
        omega (arith, sizes, doubled_bounds v after w rest leaves.ends tails, ap length e)

pub open_string : (bytes : List ℕ) → IsInString bytes → ReadsFault (39 ∷ bytes) (OpenString 0)
open_string bytes (value, same) = record { text = 39 ∷ bytes; after = []; whole = sym (append-nil (39 ∷ bytes)); is_text = (value, ap (λ l. 39 ∷ l) same); longest = whole_longest (39 ∷ bytes) }

-- Binaries.

pub reads_binary : (first : ℕ) (bytes run after : List ℕ) → is_unused_count first ≡ true → SplitsRun is_hex_digit bytes run (34 ∷ after) → ReadsToken (34 ∷ first ∷ bytes) Binary after
reads_binary first bytes run after count splits = record { text = 34 ∷ first ∷ run ++ 34 ∷ []; whole = ap (λ l. 34 ∷ first ∷ l) (splits.whole ∙ sym (append_assoc run (34 ∷ []) after)); is_text = (first, run, count, splits.passes, refl); longest = no_longer Quotation 34 (first ∷ bytes) (length (34 ∷ first ∷ run ++ 34 ∷ [])) refl bounds }
  where
    bounds : (text rest : List ℕ) → 34 ∷ first ∷ bytes ≡ text ++ rest → Competes Quotation text → length text ≤ length (34 ∷ first ∷ run ++ 34 ∷ [])
    bounds text rest same (inl one) = omega (arith, one)
    bounds text rest same (inr (f, digits, begins, passes, e)) =
        let whole : 34 ∷ first ∷ bytes ≡ 34 ∷ f ∷ (digits ++ 34 ∷ rest) = same ∙ ap (λ l. l ++ rest) e ∙ ap (λ l. 34 ∷ f ∷ l) (append_assoc digits (34 ∷ []) rest) in
        let tails : run ++ 34 ∷ after ≡ digits ++ 34 ∷ rest = sym splits.whole ∙ cc in
        omega (arith, run_bounds is_hex_digit run (34 ∷ after) digits (34 ∷ rest) refl passes tails, ap length e, length-append run (34 ∷ []), length-append digits (34 ∷ []))

-- no binary begins
pub no_binary : (bytes : List ℕ) → ((text rest : List ℕ) → 34 ∷ bytes ≡ text ++ rest → IsTextOf Binary text → ⊥) → ReadsFault (34 ∷ bytes) (BadByte 0)
no_binary bytes none = record { text = 34 ∷ []; after = bytes; whole = refl; is_text = (34, refl, refl); longest = no_longer Quotation 34 bytes 1 refl bounds }
  where
    bounds : (text rest : List ℕ) → 34 ∷ bytes ≡ text ++ rest → Competes Quotation text → length text ≤ 1
    bounds text rest same (inl one) = omega (arith, one)
    bounds text rest same (inr binary) = absurd (none text rest same binary)

pub no_binary_at_end : (bytes : List ℕ) → length bytes ≡ 0 → ReadsFault (34 ∷ bytes) (BadByte 0)
no_binary_at_end bytes empty = no_binary bytes none
  where
    none : (text rest : List ℕ) → 34 ∷ bytes ≡ text ++ rest → IsTextOf Binary text → ⊥
    none text rest same (f, digits, begins, passes, e) = omega (arith, ap length (same ∙ ap (λ l. l ++ rest) e), empty)

pub no_binary_digit : (first : ℕ) (bytes : List ℕ) → is_unused_count first ≡ false → ReadsFault (34 ∷ first ∷ bytes) (BadByte 0)
no_binary_digit first bytes out = no_binary (first ∷ bytes) none
  where
    none : (text rest : List ℕ) → 34 ∷ first ∷ bytes ≡ text ++ rest → IsTextOf Binary text → ⊥
    none text rest same (f, digits, begins, passes, e) =
        let whole : 34 ∷ first ∷ bytes ≡ 34 ∷ f ∷ ((digits ++ 34 ∷ []) ++ rest) = same ∙ ap (λ l. l ++ rest) e in
        let firsts : first ≡ f = cc in
        both_ways (is_unused_count first) out (subst (λ (k : ℕ). is_unused_count k ≡ true) (sym firsts) begins)

pub no_binary_end : (first : ℕ) (bytes run after : List ℕ) → SplitsRun is_hex_digit bytes run after → HeadFails (λ c. eqb c 34) after → ReadsFault (34 ∷ first ∷ bytes) (BadByte 0)
no_binary_end first bytes run after splits no_end = no_binary (first ∷ bytes) none
  where
    none : (text rest : List ℕ) → 34 ∷ first ∷ bytes ≡ text ++ rest → IsTextOf Binary text → ⊥
    none text rest same (f, digits, begins, passes, e) =
        let whole : 34 ∷ first ∷ bytes ≡ 34 ∷ f ∷ (digits ++ 34 ∷ rest) = same ∙ ap (λ l. l ++ rest) e ∙ ap (λ l. 34 ∷ f ∷ l) (append_assoc digits (34 ∷ []) rest) in
        let tails : run ++ after ≡ digits ++ 34 ∷ rest = sym splits.whole ∙ cc in
        let found = one_run is_hex_digit run after digits (34 ∷ rest) splits.ends refl splits.passes passes tails in
        true≢false (subst (HeadFails (λ c. eqb c 34)) found.1 no_end)
