-- The texts of words, one behind another.
use Rattle.std.proofs.Common.{◌≡◌, ℕ, zero, suc, ◌+◌, ◌-◌, ◌<◌, ◌≤◌, length, List, [], ◌∷◌, ◌++◌, take, drop, slice_get, Some, None, sym, ap, ◌∙◌, arith}
use Rattle.std.proofs.lemmas.Grind.{flat_map-append}
use Rattle.std.proofs.Common.{get_or}
use Rattle.std.proofs.Math.Seq.{drop-cons}
use Rattle.std.proofs.lemmas.List.{drop-drop}
use Rattle.std.proofs.lemmas.List.Sums.{sum_by-cons}
use Rattle.sn_p21.specs.declared.file.Param.{Param}
use Rattle.sn_p21.specs.declared.file.Instance.{Instance}
use Rattle.sn_p21.specs.declared.file.Section.{Section}
use Rattle.sn_p21.specs.Word.{Word}
use Rattle.sn_p21.specs.Grammar.{rest_of_list, instance_words, parts_words, rows_words, section_words, plainest_sections, counted, opening_words, section_end_words, file_end_words}
use Rattle.sn_p21.specs.Canonical.{words_text, word_text}
use Rattle.sn_p21.proofs.ParamsRead.{body_words, words_of}

-- what is left of a list behind so many of its parameters
abbrev pub pending : ℕ → List Param → List Word
pending zero ps = body_words (words_of ps)
pending (suc i) ps = rest_of_list (words_of ps)

pub texts_append : (xs ys : List Word) → words_text (xs ++ ys) ≡ words_text xs ++ words_text ys
texts_append xs ys = flat_map-append word_text xs ys

pub file_text : (h sections : List Word) → words_text (opening_words ++ h ++ section_end_words ++ sections ++ file_end_words) ≡ (((words_text opening_words ++ words_text h) ++ words_text section_end_words) ++ words_text sections) ++ words_text file_end_words
file_text h sections =
    texts_append (opening_words ++ h ++ section_end_words ++ sections) file_end_words
    ∙ ap (λ xs. xs ++ words_text file_end_words) (texts_append (opening_words ++ h ++ section_end_words) sections ∙ ap (λ xs. xs ++ words_text sections) (texts_append (opening_words ++ h) section_end_words ∙ ap (λ xs. xs ++ words_text section_end_words) (texts_append opening_words h)))

pub section_text : (d rows : List Word) → words_text (d ++ rows ++ section_end_words) ≡ (words_text d ++ words_text rows) ++ words_text section_end_words
section_text d rows = texts_append (d ++ rows) section_end_words ∙ ap (λ xs. xs ++ words_text section_end_words) (texts_append d rows)

abbrev pub row_words : Instance → List Word
row_words i = instance_words i.number (parts_words i.parts)

-- so many instances from a place on
pub rows_at : (is : List Instance) (n k : ℕ) (i : Instance) → slice_get is n ≡ Some i → rows_words (take (suc k) (drop n is)) ≡ row_words i ++ rows_words (take k (drop (n + 1) is))
rows_at [] n k i h = absurd (let e : None ≡ Some i = h in cc)
rows_at (j ∷ is) zero k i h = let e : j ≡ i = cc in ap (λ x. row_words x ++ rows_words (take k is)) e
rows_at (j ∷ is) (suc n) k i h =
    let e : suc (n + 1) ≡ suc n + 1 = omega arith in
    rows_at is n k i h ∙ ap (λ m. row_words i ++ rows_words (take k (drop m (j ∷ is)))) e

-- the section at a place of sections, whose instances are not yet written
pub section_at : (ss : List Section) (n : ℕ) (s : Section) (is : List Instance) (left : ℕ) → s ≡ get_or ss n s → n < length ss → left ≤ length is → counted (drop n ss) ≡ left
    → let first = length is - left in
    let end = length is - (left - s.count) in
    (counted (drop (n + 1) ss) ≡ left - s.count) × (plainest_sections (drop n ss) (drop first is) ≡ section_words s (rows_words (take (end - first) (drop first is))) ++ plainest_sections (drop (n + 1) ss) (drop end is))
section_at ss n s is left at inside within counts =
    let first = length is - left in
    let end = length is - (left - s.count) in
    let rest = drop (n + 1) ss in
    let place : suc n ≡ n + 1 = omega arith in
    let here : drop n ss ≡ s ∷ rest = drop-cons ss n s inside ∙ ap (λ t. t ∷ drop (suc n) ss) (sym at) ∙ ap (λ k. s ∷ drop k ss) place in
    let sum = sum_by-cons (λ (t : Section). t.count) s rest in
    let whole : s.count + counted rest ≡ left = sym sum ∙ ap counted (sym here) ∙ counts in
    let size : s.count ≡ end - first = omega arith in
    let behind : drop s.count (drop first is) ≡ drop end is = drop-drop s.count first is ∙ ap (λ k. drop k is) (let z : first + s.count ≡ end = omega arith in z) in (
      omega arith,
      ap (λ us. plainest_sections us (drop first is)) here
          ∙ ap (λ k. section_words s (rows_words (take k (drop first is))) ++ plainest_sections rest (drop s.count (drop first is))) size
          ∙ ap (λ js. section_words s (rows_words (take (end - first) (drop first is))) ++ plainest_sections rest js) behind,
    )
