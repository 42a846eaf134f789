-- How the instances of a slot are written.
use Rattle.std.proofs.Common.{◌≡◌, ℕ, List, [], ◌∷◌, ◌++◌, length, take, map, flat_map, None, refl, sym, ap, ◌∙◌, append_assoc, append-nil}
use Rattle.std.specs.Prelude.{codes, decimal}
use Rattle.std.specs.List.{AllByRecursion}
use Rattle.std.proofs.Math.Seq.{take-length}
use Rattle.std.proofs.lemmas.Grind.{flat_map-append}
use Rattle.sn_lex.specs.Form.{doubled}
use Rattle.sn_lex.specs.declared.token.Token.TheVariants.{Semicolon}
use Rattle.sn_p21.specs.declared.file.Entity.{Entity}
use Rattle.sn_p21.specs.declared.file.Instance.{Instance}
use Rattle.sn_p21.specs.declared.file.Param.{Param}
use Rattle.sn_p21.specs.declared.file.Param.TheVariants as param
use Rattle.sn_p21.specs.Word.{Word, mark, keyword}
use Rattle.sn_p21.specs.Canonical.{word_text, words_text}
use Rattle.sn_p21.specs.Grammar.{param_words, list_words, rest_of_list, header_words, instance_words, parts_words, rows_words, data_words, opening_words, section_end_words, file_end_words, closing_words, plainest_words}
use Rattle.sn_p21.specs.OneSection.{in_one_section}
use Rattle.sn_report.specs.Generated.{to, none, simple}
use Rattle.sn_report.proofs.Layers.{real_word, text_word, ref_word, absent_word, list_has_words}

-- the text that a parameter is written as
pub record HasText (p : Param) : Type 0 where
  pub shown : List ℕ
  pub is : words_text (param_words p) ≡ shown

abbrev pub HaveTexts : List Param → Type 0
HaveTexts ps = AllByRecursion HasText ps

bare : (t : List ℕ) → (t ++ []) ++ [] ≡ t
bare t = append-nil (t ++ []) ∙ append-nil t

pub real_written : (v : List ℕ) → words_text (param_words (param.Real v)) ≡ v
real_written v = let is = real_word v in ap words_text is.words ∙ bare v

pub text_written : (v : List ℕ) → words_text (param_words (param.Text v)) ≡ 39 ∷ doubled v ++ 39 ∷ []
text_written v = let is = text_word v in ap words_text is.words ∙ bare (39 ∷ doubled v ++ 39 ∷ [])

pub ref_written : (n : ℕ) → words_text (param_words (to n)) ≡ 35 ∷ decimal n
ref_written n = let is = ref_word n in ap words_text is.words ∙ bare (35 ∷ decimal n)

pub none_written : words_text (param_words none) ≡ codes "$"
none_written = let is = absent_word in ap words_text is.words

abbrev pub of_real : (v : List ℕ) → HasText (param.Real v)
of_real v = record { shown = v; is = real_written v }

abbrev pub of_text : (v : List ℕ) → HasText (param.Text v)
of_text v = record { shown = 39 ∷ doubled v ++ 39 ∷ []; is = text_written v }

abbrev pub of_ref : (n : ℕ) → HasText (to n)
of_ref n = record { shown = 35 ∷ decimal n; is = ref_written n }

abbrev pub of_none : HasText none
of_none = record { shown = codes "$"; is = none_written }

-- Lists.

abbrev pub rest_shown : (ps : List Param) → HaveTexts ps → List ℕ
rest_shown [] h = codes ")"
rest_shown (p ∷ ps) h = 44 ∷ (h.0.shown ++ rest_shown ps h.1)

rest_written : (ps : List Param) (h : HaveTexts ps) → words_text (rest_of_list (map param_words ps)) ≡ rest_shown ps h
rest_written [] h = refl
rest_written (p ∷ ps) h =
    ap (λ (t : List ℕ). 44 ∷ t)
    (flat_map-append word_text (param_words p) (rest_of_list (map param_words ps))
    ∙ ap (λ (t : List ℕ). t ++ words_text (rest_of_list (map param_words ps))) h.0.is
    ∙ ap (λ (t : List ℕ). h.0.shown ++ t) (rest_written ps h.1))

abbrev pub list_shown : (ps : List Param) → HaveTexts ps → List ℕ
list_shown [] h = codes "()"
list_shown (p ∷ ps) h = 40 ∷ (h.0.shown ++ rest_shown ps h.1)

pub list_written : (ps : List Param) (h : HaveTexts ps) → words_text (list_words (map param_words ps)) ≡ list_shown ps h
list_written [] h = refl
list_written (p ∷ ps) h =
    ap (λ (t : List ℕ). 40 ∷ t)
    (flat_map-append word_text (param_words p) (rest_of_list (map param_words ps))
    ∙ ap (λ (t : List ℕ). t ++ words_text (rest_of_list (map param_words ps))) h.0.is
    ∙ ap (λ (t : List ℕ). h.0.shown ++ t) (rest_written ps h.1))

pub list_param_written : (ps : List Param) (h : HaveTexts ps) → words_text (param_words (param.List ps)) ≡ list_shown ps h
list_param_written ps h = ap words_text (list_has_words ps) ∙ list_written ps h

abbrev pub of_list : (ps : List Param) → HaveTexts ps → HasText (param.List ps)
of_list ps h = record { shown = list_shown ps h; is = list_param_written ps h }

-- Lines.

pub record HasLine (i : Instance) : Type 0 where
  pub shown : List ℕ
  pub is : words_text (instance_words i.number (parts_words i.parts)) ≡ shown

abbrev pub line_shown : ℕ → List ℕ → List ℕ → List ℕ
line_shown n name list = 35 ∷ (decimal n ++ 61 ∷ (name ++ (list ++ codes ";\n")))

pub line_written : (n : ℕ) (name : List ℕ) (ps : List Param) (h : HaveTexts ps)
    → words_text (instance_words n (keyword name ∷ list_words (map param_words ps))) ≡ line_shown n name (list_shown ps h)
line_written n name ps h =
    let list = list_words (map param_words ps) in
    let end = mark Semicolon ∷ [] in
    ap (λ (d : List ℕ). 35 ∷ (d ++ 61 ∷ ((name ++ []) ++ words_text (list ++ end)))) (append-nil (decimal n))
    ∙ ap (λ (k : List ℕ). 35 ∷ (decimal n ++ 61 ∷ (k ++ words_text (list ++ end)))) (append-nil name)
    ∙ ap (λ (t : List ℕ). 35 ∷ (decimal n ++ 61 ∷ (name ++ t))) (flat_map-append word_text list end ∙ ap (λ (t : List ℕ). t ++ codes ";\n") (list_written ps h))

abbrev pub of_simple : (n : ℕ) (name : List ℕ) (ps : List Param) → HaveTexts ps → HasLine (simple n name ps)
of_simple n name ps h = record { shown = line_shown n name (list_shown ps h); is = line_written n name ps h }

abbrev pub HaveLines : List Instance → Type 0
HaveLines is = AllByRecursion HasLine is

abbrev pub lines_shown : (is : List Instance) → HaveLines is → List ℕ
lines_shown [] h = []
lines_shown (i ∷ is) h = h.0.shown ++ lines_shown is h.1

pub lines_written : (is : List Instance) (h : HaveLines is) → words_text (rows_words is) ≡ lines_shown is h
lines_written [] h = refl
lines_written (i ∷ is) h =
    flat_map-append word_text (instance_words i.number (parts_words i.parts)) (rows_words is)
    ∙ ap (λ (t : List ℕ). t ++ words_text (rows_words is)) h.0.is
    ∙ ap (λ (t : List ℕ). h.0.shown ++ t) (lines_written is h.1)

-- Where the lines of some instances stand in a text.

-- the words of instances between others
pub behind : (frame end : List Word) (common rest : List Instance) (lines : List ℕ) → words_text (rows_words rest) ≡ lines
    → words_text (frame ++ rows_words (common ++ rest) ++ end) ≡ (words_text frame ++ words_text (rows_words common)) ++ lines ++ words_text end
behind frame end common rest lines are =
    flat_map-append word_text (frame ++ rows_words (common ++ rest)) end
    ∙ ap (λ (t : List ℕ). t ++ words_text end)
    (flat_map-append word_text frame (rows_words (common ++ rest))
    ∙ ap (λ (t : List ℕ). words_text frame ++ t)
    (ap words_text (flat_map-append (λ (i : Instance). instance_words i.number (parts_words i.parts)) common rest)
    ∙ flat_map-append word_text (rows_words common) (rows_words rest)
    ∙ ap (λ (t : List ℕ). words_text (rows_words common) ++ t) are)
    ∙ sym (append_assoc (words_text frame) (words_text (rows_words common)) lines))

-- the words before the instances of a file of one section
abbrev pub frame_words : List Entity → List Word
frame_words header = opening_words ++ flat_map header_words header ++ section_end_words ++ data_words None

section_regrouped : (before data_is rows : List Word) → before ++ (data_is ++ rows ++ section_end_words ++ []) ++ file_end_words ≡ (before ++ data_is) ++ rows ++ closing_words
section_regrouped before data_is rows = simp (append_assoc, append-nil)

pub one_section_words : (header : List Entity) (is : List Instance) → plainest_words (in_one_section header is) ≡ frame_words header ++ rows_words is ++ closing_words
one_section_words header is =
    let before = opening_words ++ flat_map header_words header ++ section_end_words in
    section_regrouped before (data_words None) (rows_words (take (length is) is)) ∙ ap (λ js. frame_words header ++ rows_words js ++ closing_words) (take-length is)
