-- Names, and what begins with one.
use Rattle.std.proofs.Common.{◌≡◌, ℕ, ◌+◌, ◌≤◌, true, false, List, [], ◌∷◌, ◌++◌, length, append_assoc, length-append, eqb, refl, sym, ap, ◌∙◌, subst, arith, inl, inr}
use Rattle.std.proofs.lemmas.Bool.{both_ways, true≢false, or_left, and_from, and_parts}
use Rattle.std.specs.Prelude.{codes}
use Rattle.std.specs.List.{list_all}
use Rattle.std.specs.Char.{is_ascii_digit}
use Rattle.sn_lex.specs.Character.{is_upper, is_name_byte}
use Rattle.sn_lex.specs.Form.{IsName, HeadFails}
use Rattle.sn_lex.specs.Reading.{NoLongerForm}
use Rattle.sn_lex.specs.Split.{SplitsRun, begins_name, LeavesName, ReadsToken, ReadsFault}
use Rattle.sn_lex.specs.declared.token.Token.TheVariants.{FileStart, FileEnd, Keyword, Enumeration}
use Rattle.sn_lex.specs.declared.token.LexFault.TheVariants.{BadByte, BadEnum}
use Rattle.sn_lex.specs.declared.opening.Opening.TheVariants.{Word, Exclamation, Point}
use Rattle.sn_lex.proofs.Runs.{run_bounds, one_run}
use Rattle.sn_lex.proofs.Competes.{Competes, no_longer, word_opening, first_same}

pub name_bytes : (name : List ℕ) → IsName name → list_all is_name_byte name ≡ true
name_bytes [] is = absurd is
name_bytes (c ∷ cs) is = and_from (is_name_byte c) (list_all is_name_byte cs) (or_left (is_upper c) (is_ascii_digit c) is.0) is.1

begins_from_name : (bytes name rest : List ℕ) → IsName name → bytes ≡ name ++ rest → begins_name bytes ≡ true
begins_from_name bytes [] rest is same = absurd is
begins_from_name bytes (c ∷ cs) rest is same = ap begins_name same ∙ is.0

name_from_run : (bytes run after : List ℕ) → begins_name bytes ≡ true → SplitsRun is_name_byte bytes run after → IsName run
name_from_run [] [] after begins splits = true≢false (sym begins)
name_from_run (b ∷ bytes) [] after begins splits =
    let stops : HeadFails is_name_byte (b ∷ bytes) = subst (HeadFails is_name_byte) (sym splits.whole) splits.ends in
    both_ways (is_name_byte b) stops (or_left (is_upper b) (is_ascii_digit b) begins)
name_from_run bytes (c ∷ run) after begins splits = (sym (ap begins_name splits.whole) ∙ begins, (and_parts (is_name_byte c) (list_all is_name_byte run) splits.passes).1)

pub leaves_name : (bytes run after : List ℕ) → begins_name bytes ≡ true → SplitsRun is_name_byte bytes run after → LeavesName bytes after
leaves_name bytes run after begins splits = record { name = run; is_name = name_from_run bytes run after begins splits; splits = splits }

-- a name at the front is no longer than the longest run
name_bounds : (run after name rest : List ℕ) → HeadFails is_name_byte after → IsName name → run ++ after ≡ name ++ rest → length name ≤ length run
name_bounds run after name rest ends is same = run_bounds is_name_byte run after name rest ends (name_bytes name is) same

-- User-defined keywords.

pub reads_user_keyword : (bytes after : List ℕ) → LeavesName bytes after → ReadsToken (33 ∷ bytes) Keyword after
reads_user_keyword bytes after leaves = record { text = 33 ∷ leaves.name; whole = ap (λ l. 33 ∷ l) leaves.splits.whole; is_text = inr (leaves.name, leaves.is_name, refl); longest = no_longer Exclamation 33 bytes (length (33 ∷ leaves.name)) refl bounds }
  where
    bounds : (text rest : List ℕ) → 33 ∷ bytes ≡ text ++ rest → Competes Exclamation text → length text ≤ length (33 ∷ leaves.name)
    bounds text rest same (inl one) = omega (arith, one)
    bounds text rest same (inr (name, is, e)) =
        let whole : 33 ∷ bytes ≡ 33 ∷ (name ++ rest) = same ∙ ap (λ l. l ++ rest) e in
        let tails : leaves.name ++ after ≡ name ++ rest = sym leaves.splits.whole ∙ cc in
        omega (arith, name_bounds leaves.name after name rest leaves.splits.ends is tails, ap length e)

pub no_user_keyword : (bytes : List ℕ) → begins_name bytes ≡ false → ReadsFault (33 ∷ bytes) (BadByte 0)
no_user_keyword bytes none = record { text = 33 ∷ []; after = bytes; whole = refl; is_text = (33, refl, refl); longest = no_longer Exclamation 33 bytes 1 refl bounds }
  where
    bounds : (text rest : List ℕ) → 33 ∷ bytes ≡ text ++ rest → Competes Exclamation text → length text ≤ 1
    bounds text rest same (inl one) = omega (arith, one)
    bounds text rest same (inr (name, is, e)) =
        let whole : 33 ∷ bytes ≡ 33 ∷ (name ++ rest) = same ∙ ap (λ l. l ++ rest) e in
        let tails : bytes ≡ name ++ rest = cc in
        absurd (both_ways (begins_name bytes) none (begins_from_name bytes name rest is tails))

-- Enumerations.

pub reads_enumeration : (bytes after : List ℕ) → LeavesName bytes (46 ∷ after) → ReadsToken (46 ∷ bytes) Enumeration after
reads_enumeration bytes after leaves = record { text = 46 ∷ leaves.name ++ 46 ∷ []; whole = ap (λ l. 46 ∷ l) (leaves.splits.whole ∙ sym (append_assoc leaves.name (46 ∷ []) after)); is_text = (leaves.name, leaves.is_name, refl); longest = no_longer Point 46 bytes (length (46 ∷ leaves.name ++ 46 ∷ [])) refl bounds }
  where
    sizes : length (46 ∷ leaves.name ++ 46 ∷ []) ≡ length leaves.name + 2
    sizes = omega (arith, length-append leaves.name (46 ∷ []))

    bounded : (name rest : List ℕ) → IsName name → bytes ≡ name ++ rest → length name ≤ length leaves.name
    bounded name rest is same = name_bounds leaves.name (46 ∷ after) name rest leaves.splits.ends is (sym leaves.splits.whole ∙ same)

    bounds : (text rest : List ℕ) → 46 ∷ bytes ≡ text ++ rest → Competes Point text → length text ≤ length (46 ∷ leaves.name ++ 46 ∷ [])
    bounds text rest same (inl one) = omega (arith, sizes, ap length one)
    bounds text rest same (inr (name, is, inl e)) =
        let whole : 46 ∷ bytes ≡ 46 ∷ (name ++ 46 ∷ rest) = same ∙ ap (λ l. l ++ rest) e ∙ ap (λ l. 46 ∷ l) (append_assoc name (46 ∷ []) rest) in
        let tails : bytes ≡ name ++ 46 ∷ rest = cc in
        omega (arith, sizes, bounded name (46 ∷ rest) is tails, ap length e, length-append name (46 ∷ []))
    bounds text rest same (inr (name, is, inr e)) =
        let whole : 46 ∷ bytes ≡ 46 ∷ (name ++ rest) = same ∙ ap (λ l. l ++ rest) e in
        let tails : bytes ≡ name ++ rest = cc in
        omega (arith, sizes, bounded name rest is tails, ap length e)

pub no_point_after_name : (bytes after : List ℕ) → LeavesName bytes after → HeadFails (λ c. eqb c 46) after → ReadsFault (46 ∷ bytes) (BadEnum 0)
no_point_after_name bytes after leaves no_point = record { text = 46 ∷ leaves.name; after = after; whole = ap (λ l. 46 ∷ l) leaves.splits.whole; is_text = inr (leaves.name, leaves.is_name, refl); longest = no_longer Point 46 bytes (length (46 ∷ leaves.name)) refl bounds }
  where
    bounds : (text rest : List ℕ) → 46 ∷ bytes ≡ text ++ rest → Competes Point text → length text ≤ length (46 ∷ leaves.name)
    bounds text rest same (inl one) = omega (arith, ap length one)
    bounds text rest same (inr (name, is, inl e)) =
        let whole : 46 ∷ bytes ≡ 46 ∷ (name ++ 46 ∷ rest) = same ∙ ap (λ l. l ++ rest) e ∙ ap (λ l. 46 ∷ l) (append_assoc name (46 ∷ []) rest) in
        let tails : leaves.name ++ after ≡ name ++ 46 ∷ rest = sym leaves.splits.whole ∙ cc in
        let found = one_run is_name_byte leaves.name after name (46 ∷ rest) leaves.splits.ends refl leaves.splits.passes (name_bytes name is) tails in
        absurd (true≢false (subst (HeadFails (λ c. eqb c 46)) found.1 no_point))
    bounds text rest same (inr (name, is, inr e)) =
        let whole : 46 ∷ bytes ≡ 46 ∷ (name ++ rest) = same ∙ ap (λ l. l ++ rest) e in
        let tails : leaves.name ++ after ≡ name ++ rest = sym leaves.splits.whole ∙ cc in
        omega (arith, name_bounds leaves.name after name rest leaves.splits.ends is tails, ap length e)

pub no_name_after_point : (bytes : List ℕ) → begins_name bytes ≡ false → ReadsFault (46 ∷ bytes) (BadEnum 0)
no_name_after_point bytes none = record { text = 46 ∷ []; after = bytes; whole = refl; is_text = inl refl; longest = no_longer Point 46 bytes 1 refl bounds }
  where
    bounds : (text rest : List ℕ) → 46 ∷ bytes ≡ text ++ rest → Competes Point text → length text ≤ 1
    bounds text rest same (inl one) = omega (arith, ap length one)
    bounds text rest same (inr (name, is, inl e)) =
        let whole : 46 ∷ bytes ≡ 46 ∷ (name ++ 46 ∷ rest) = same ∙ ap (λ l. l ++ rest) e ∙ ap (λ l. 46 ∷ l) (append_assoc name (46 ∷ []) rest) in
        let tails : bytes ≡ name ++ 46 ∷ rest = cc in
        absurd (both_ways (begins_name bytes) none (begins_from_name bytes name (46 ∷ rest) is tails))
    bounds text rest same (inr (name, is, inr e)) =
        let whole : 46 ∷ bytes ≡ 46 ∷ (name ++ rest) = same ∙ ap (λ l. l ++ rest) e in
        let tails : bytes ≡ name ++ rest = cc in
        absurd (both_ways (begins_name bytes) none (begins_from_name bytes name rest is tails))

-- Words.

word_longest : (c : ℕ) (cs : List ℕ) (len : ℕ) → is_upper c ≡ true
    → ((name rest : List ℕ) → IsName name → c ∷ cs ≡ name ++ rest → length name ≤ len)
    → ((rest : List ℕ) → c ∷ cs ≡ codes "ISO-10303-21" ++ rest → 12 ≤ len)
    → ((rest : List ℕ) → c ∷ cs ≡ codes "END-ISO-10303-21" ++ rest → 16 ≤ len)
    → NoLongerForm (c ∷ cs) len
word_longest c cs len upper names start finish = no_longer Word c cs len (word_opening c upper) bounds
  where
    bounds : (text rest : List ℕ) → c ∷ cs ≡ text ++ rest → Competes Word text → length text ≤ len
    bounds text rest same (inl is) = names text rest is same
    bounds text rest same (inr (inl e)) = omega (arith, start rest (same ∙ ap (λ l. l ++ rest) e), ap length e)
    bounds text rest same (inr (inr e)) = omega (arith, finish rest (same ∙ ap (λ l. l ++ rest) e), ap length e)

pub reads_file_start : (bytes after : List ℕ) → bytes ≡ codes "ISO-10303-21" ++ after → ReadsToken bytes FileStart after
reads_file_start bytes after same = record { text = codes "ISO-10303-21"; whole = same; is_text = refl; longest = subst (λ (l : List ℕ). NoLongerForm l 12) (sym same) (word_longest 73 (codes "SO-10303-21" ++ after) 12 refl names (λ rest e. omega arith) (λ rest e. absurd (omega (arith, first_same 73 69 (codes "SO-10303-21" ++ after) (codes "ND-ISO-10303-21" ++ rest) e)))) }
  where
    names : (name rest : List ℕ) → IsName name → codes "ISO-10303-21" ++ after ≡ name ++ rest → length name ≤ 12
    names name rest is e = omega (arith, name_bounds (codes "ISO") (codes "-10303-21" ++ after) name rest refl is e)

pub reads_file_end : (bytes after : List ℕ) → bytes ≡ codes "END-ISO-10303-21" ++ after → ReadsToken bytes FileEnd after
reads_file_end bytes after same = record { text = codes "END-ISO-10303-21"; whole = same; is_text = refl; longest = subst (λ (l : List ℕ). NoLongerForm l 16) (sym same) (word_longest 69 (codes "ND-ISO-10303-21" ++ after) 16 refl names (λ rest e. omega arith) (λ rest e. omega arith)) }
  where
    names : (name rest : List ℕ) → IsName name → codes "END-ISO-10303-21" ++ after ≡ name ++ rest → length name ≤ 16
    names name rest is e = omega (arith, name_bounds (codes "END") (codes "-ISO-10303-21" ++ after) name rest refl is e)

-- a keyword is the longest run where neither of the two words begins
pub reads_keyword : (bytes name after : List ℕ) → begins_name bytes ≡ true → SplitsRun is_name_byte bytes name after
    → ((rest : List ℕ) → bytes ≡ codes "ISO-10303-21" ++ rest → ⊥) → ((rest : List ℕ) → bytes ≡ codes "END-ISO-10303-21" ++ rest → ⊥)
    → ReadsToken bytes Keyword after
reads_keyword [] name after begins splits no_start no_end = absurd (true≢false (sym begins))
reads_keyword (c ∷ cs) name after begins splits no_start no_end = record { text = name; whole = splits.whole; is_text = inl (name_from_run (c ∷ cs) name after begins splits); longest = word_longest c cs (length name) begins names (λ rest e. absurd (no_start rest e)) (λ rest e. absurd (no_end rest e)) }
  where
    names : (other rest : List ℕ) → IsName other → c ∷ cs ≡ other ++ rest → length other ≤ length name
    names other rest is e = name_bounds name after other rest splits.ends is (sym splits.whole ∙ e)
