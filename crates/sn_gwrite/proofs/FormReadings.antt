-- The lines of forms: their texts hold no line feed, and so are lines, and they are read as what they say.
use Rattle.std.proofs.Common.{ℕ, ◌≡◌, ◌≢◌, ◌<◌, ◌≤◌, ◌+◌, ◌^◌, ◌==◌, Bool, true, false, ◌&&◌, List, [], ◌∷◌, ◌++◌, length, decimal, ℤ, pos, refl, sym, ap, ◌∙◌, subst, arith, inl, append_assoc, length-append}
use Rattle.std.proofs.lemmas.Bool.{and_parts, not-true}
use Rattle.std.proofs.lemmas.Bool.Decides.{nat_tests}
use Rattle.std.proofs.lemmas.Fmt.{decimal_is_IsNumeral}
use Rattle.std.specs.Prelude.{Some, None, not, codes, map}
use Rattle.sn_geom.specs.declared.block.TheConstants.{MOST_LINE}
use Rattle.sn_geom.specs.declared.limits.TheConstants.{MOST_RATE, MOST_TOOL}
use Rattle.sn_geom.specs.declared.machine.Word.{Word}
use Rattle.sn_geom.specs.declared.tip.MotionMode.{MotionMode}
use Rattle.sn_geom.specs.declared.tip.MotionMode.TheVariants.{Rapid, Feed}
use Rattle.sn_geom.specs.Block.{lines_of}
use Rattle.sn_geom.specs.Length.{IsLength}
use Rattle.sn_geom.specs.LineText.{Said, Says, LineText, with_mark, empty_block, is_blank, is_numeric, a_word, is_faulty, said_with, nothing, items_of, items_from, between, in_number, item_at, place_after, beginning, run, is_number, is_fine, size_of, whole, decimals, fraction, unsigned, is_negative, has_letter}
use Rattle.sn_geom.specs.LineTable.{places_of, has_unit, is_within, is_accepted, modal_word, modal_words, in_group}
use Rattle.sn_gwrite.specs.Length.{length_text}
use Rattle.sn_gwrite.specs.Program.{mode_text, Form, PercentSign, AllModes, ToolNote, StepMark, ToolChange, LengthOffset, SpindleSpeed, FeedRate, HeightMotion, PlaneMotion, ProgramEnd, IsProper, form_text, form_words, form_block, word, g, mode_word, AreProper, forms_text}
use Rattle.sn_gwrite.proofs.ShownLengths.{length_text-shown}
use Rattle.sn_gwrite.proofs.NumberWords.{AllNumeric, digits_numeric, length_numeric, run_over}
use Rattle.sn_gwrite.proofs.ItemReadings.{clean, says_clean, says_item, no_item, says_nothing_more, other_byte, reads, says_known, words_said, other_line}
use Rattle.sn_gwrite.proofs.WordReadings.{ShowsWord, and_word, says_word, says_last, feed_shown, offset_shown, speed_shown, tool_shown, x_shown, y_shown, z_shown, decimal_short, length_text_short}
use Rattle.sn_gwrite.proofs.CommentReadings.{AreInner, inner_append, digits_inner, comment_read, no_mark, mark_is}

-- ---- the texts of forms

-- no byte of the text is a line feed
abbrev pub IsOneLine : List ℕ → Type 0
IsOneLine [] = Unit {0}
IsOneLine (b ∷ bs) = ((b == 10) ≡ false) × IsOneLine bs

pub one_line_append : (xs ys : List ℕ) → IsOneLine xs → IsOneLine ys → IsOneLine (xs ++ ys)
one_line_append [] ys h k = k
one_line_append (x ∷ xs) ys h k = (h.0, one_line_append xs ys h.1 k)

numeric_byte : (b : ℕ) → is_numeric b ≡ true → (b == 10) ≡ false
numeric_byte b h = grind (arith, nat_tests)

numeric_line : (text : List ℕ) → AllNumeric text → IsOneLine text
numeric_line [] h = tt
numeric_line (b ∷ bs) h = (numeric_byte b h.0, numeric_line bs h.1)

pub decimal_line : (n : ℕ) → n < 2 ^ 64 → IsOneLine (decimal n)
decimal_line n fits =
    let numeral = decimal_is_IsNumeral n fits in
    numeric_line (decimal n) (digits_numeric (decimal n) numeral.0.1)

length_line : (z : ℤ) → IsLength z → IsOneLine (length_text z)
length_line z short = numeric_line (length_text z) (length_numeric (length_text z) z (length_text-shown z short))

mode_line : (mode : MotionMode) → IsOneLine (mode_text mode)
mode_line Rapid = (refl, (refl, tt))
mode_line Feed = (refl, (refl, tt))

-- the same as a test, for texts that are known
abbrev is_one_line : List ℕ → Bool
is_one_line [] = true
is_one_line (b ∷ bs) = not (b == 10) && is_one_line bs

all_one_line : (text : List ℕ) → is_one_line text ≡ true → IsOneLine text
all_one_line [] h = tt
all_one_line (b ∷ bs) h = let p = and_parts (not (b == 10)) (is_one_line bs) h in (not-true (b == 10) p.0, all_one_line bs p.1)

pub form_line : (form : Form) → IsProper form → IsOneLine (form_text form)
form_line PercentSign h = (refl, tt)
form_line AllModes h = all_one_line (form_text AllModes) refl
form_line (ToolNote number instance) h =
    let first = decimal_line number (omega arith) in
    let second = decimal_line instance (omega arith) in
    one_line_append (codes "(T" ++ decimal number ++ codes " #" ++ decimal instance) (codes ")")
    (one_line_append (codes "(T" ++ decimal number ++ codes " #") (decimal instance)
    (refl, (refl, one_line_append (decimal number) (codes " #") first (refl, (refl, tt)))) second) (refl, tt)
form_line (StepMark n) h =
    one_line_append (codes "(WS #" ++ decimal n) (codes ")")
    (one_line_append (codes "(WS #") (decimal n) (all_one_line (codes "(WS #") refl) (decimal_line n (omega arith))) (refl, tt)
form_line (ToolChange k) h = (refl, one_line_append (decimal k) (codes " M6") (decimal_line k (omega arith)) (all_one_line (codes " M6") refl))
form_line (LengthOffset k) h = one_line_append (codes "G43 H") (decimal k) (all_one_line (codes "G43 H") refl) (decimal_line k (omega arith))
form_line (SpindleSpeed s) h = (refl, one_line_append (decimal s) (codes " M3") (decimal_line s (omega arith)) (all_one_line (codes " M3") refl))
form_line (FeedRate f) h = (refl, decimal_line f (omega arith))
form_line (HeightMotion mode z) h = one_line_append (mode_text mode) (codes " Z" ++ length_text z) (mode_line mode) (refl, (refl, length_line z h))
form_line (PlaneMotion mode x y) h =
    one_line_append (mode_text mode) (codes " X" ++ length_text x ++ codes " Y" ++ length_text y) (mode_line mode)
    (refl, (refl, one_line_append (length_text x ++ codes " Y") (length_text y) (one_line_append (length_text x) (codes " Y") (length_line x h.0) (refl, (refl, tt))) (length_line y h.1)))
form_line ProgramEnd h = (refl, (refl, tt))

-- the first line of a text
pub first_line : (line rest : List ℕ) → IsOneLine line → lines_of (line ++ 10 ∷ rest) ≡ line ∷ lines_of rest
first_line [] rest h = refl
first_line (b ∷ bs) rest h = rw (h.0, first_line bs rest h.1) refl

pub forms-lines : (forms : List Form) (rest : List ℕ) → AreProper forms
    → lines_of (forms_text forms ++ rest) ≡ map form_text forms ++ lines_of rest
forms-lines [] rest h = refl
forms-lines (form ∷ forms) rest h =
    rw (append_assoc (form_text form) (10 ∷ forms_text forms) rest)
    (first_line (form_text form) (forms_text forms ++ rest) (form_line form h.0) ∙ ap (λ lines. form_text form ∷ lines) (forms-lines forms rest h.1))

-- ---- the lines without numbers

percent_read : LineText (form_text PercentSign) (form_block PercentSign)
percent_read = record { short = omega arith; text = inl (refl, refl) }

modes_read : LineText (form_text AllModes) (form_block AllModes)
unfolding clean item_at place_after beginning run is_faulty said_with is_number is_fine fraction whole decimals unsigned is_negative size_of has_letter places_of has_unit is_within is_accepted modal_word modal_words in_group
modes_read =
    reads (form_text AllModes) (words_said (form_words AllModes)) (omega arith) (other_byte 71 _ (omega arith))
    (says_known (items_of (form_text AllModes)) nothing _ refl refl)

end_read : LineText (form_text ProgramEnd) (form_block ProgramEnd)
unfolding clean item_at place_after beginning run is_faulty said_with is_number is_fine fraction whole decimals unsigned is_negative size_of has_letter places_of has_unit is_within is_accepted modal_word modal_words in_group
end_read =
    reads (form_text ProgramEnd) (words_said (form_words ProgramEnd)) (omega arith) (other_byte 77 _ (omega arith))
    (says_known (items_of (form_text ProgramEnd)) nothing _ refl refl)

-- ---- the lines with whole numbers

-- the word of a whole number, and then a fixed piece of a line
number_line : (letter n : ℕ) (piece : List ℕ) (all : Said) → n < 2 ^ 64 → length piece ≤ 10 → letter ≢ 37
    → is_blank letter ≡ false → ShowsWord letter (decimal n) (pos n) → has_letter (empty_block false) letter ≡ false
    → run piece ≡ [] → Says (and_word nothing (word letter (pos n))) (items_from in_number piece) all
    → LineText (letter ∷ (decimal n ++ piece)) all.block
number_line letter n piece all fits few no_percent no_blank w new ends s =
    let short : length (letter ∷ (decimal n ++ piece)) ≤ MOST_LINE = omega (arith, length-append (decimal n) piece, decimal_short n fits) in
    reads (letter ∷ (decimal n ++ piece)) all short (other_line letter (decimal n ++ piece) no_percent no_blank)
    (says_word between letter (decimal n) piece (pos n) nothing all w.first w new ends s)

change_read : (k : ℕ) → k ≤ MOST_TOOL → LineText (form_text (ToolChange k)) (form_block (ToolChange k))
unfolding clean item_at place_after beginning run is_faulty said_with is_number is_fine fraction whole decimals unsigned is_negative size_of has_letter places_of has_unit is_within is_accepted modal_word modal_words in_group
change_read k h =
    let said = and_word nothing (word 84 (pos k)) in
    let all = words_said (form_words (ToolChange k)) in
    number_line 84 k (codes " M6") all (omega arith) (omega arith) (omega arith) refl (tool_shown k h) refl refl
    (says_known (items_from in_number (codes " M6")) said all refl refl)

speed_read : (s : ℕ) → s ≤ MOST_RATE → LineText (form_text (SpindleSpeed s)) (form_block (SpindleSpeed s))
unfolding clean item_at place_after beginning run is_faulty said_with is_number is_fine fraction whole decimals unsigned is_negative size_of has_letter places_of has_unit is_within is_accepted modal_word modal_words in_group
speed_read s h =
    let said = and_word nothing (word 83 (pos s)) in
    let all = words_said (form_words (SpindleSpeed s)) in
    number_line 83 s (codes " M3") all (omega arith) (omega arith) (omega arith) refl (speed_shown s h) refl refl
    (says_known (items_from in_number (codes " M3")) said all refl refl)

feed_read : (f : ℕ) → f ≤ MOST_RATE → LineText (form_text (FeedRate f)) (form_block (FeedRate f))
unfolding has_letter
feed_read f h =
    let few = decimal_short f (omega arith) in
    reads (form_text (FeedRate f)) (words_said (form_words (FeedRate f))) (omega arith) (other_byte 70 _ (omega arith))
    (says_last between 70 (decimal f) (pos f) nothing (feed_shown f h).first (feed_shown f h) refl)

offset_read : (k : ℕ) → k ≤ MOST_TOOL → LineText (form_text (LengthOffset k)) (form_block (LengthOffset k))
unfolding clean item_at place_after beginning run is_faulty said_with is_number is_fine fraction whole decimals unsigned is_negative size_of has_letter places_of has_unit is_within is_accepted modal_word modal_words in_group
offset_read k h =
    let few = decimal_short k (omega arith) in
    let all = words_said (form_words (LengthOffset k)) in
    let front = Some (a_word 71 (codes "43")) ∷ None ∷ None ∷ None ∷ [] in
    let back = items_from in_number (72 ∷ decimal k) in
    reads (form_text (LengthOffset k)) all (omega arith) (other_byte 71 _ (omega arith))
    (says_clean front back nothing all refl
    (says_last in_number 72 (decimal k) (pos k) (and_word nothing (g 430)) (offset_shown k h).later (offset_shown k h) refl))

-- ---- motions

-- the word of a mode stands first, and then axis words
motion_read : (mode : MotionMode) (letter : ℕ) (rest : List ℕ) (words : List Word)
    → run (32 ∷ letter ∷ rest) ≡ [] → length rest + 4 ≤ MOST_LINE
    → Says (and_word nothing (mode_word mode)) (items_from in_number (letter ∷ rest)) (words_said words)
    → LineText (mode_text mode ++ 32 ∷ letter ∷ rest) (words_said words).block
unfolding clean item_at place_after beginning is_faulty said_with is_number is_fine fraction whole decimals unsigned is_negative size_of has_letter places_of has_unit is_within is_accepted modal_word modal_words in_group
motion_read Rapid letter rest words ends short s =
    let back = items_from in_number (letter ∷ rest) in
    let all = words_said words in
    let number : run (48 ∷ 32 ∷ letter ∷ rest) ≡ 48 ∷ run (32 ∷ letter ∷ rest) = run_over (48 ∷ []) _ (refl, tt) in
    let text_is : 48 ∷ [] ≡ run (48 ∷ 32 ∷ letter ∷ rest) = sym (number ∙ ap (λ xs. 48 ∷ xs) ends) in
    reads (71 ∷ 48 ∷ 32 ∷ letter ∷ rest) all (omega arith) (other_byte 71 _ (omega arith))
    (subst (λ text. Says nothing (Some (a_word 71 text) ∷ None ∷ None ∷ back) all) text_is
    (says_clean (Some (a_word 71 (48 ∷ [])) ∷ None ∷ None ∷ []) back nothing all refl s))
motion_read Feed letter rest words ends short s =
    let back = items_from in_number (letter ∷ rest) in
    let all = words_said words in
    let number : run (49 ∷ 32 ∷ letter ∷ rest) ≡ 49 ∷ run (32 ∷ letter ∷ rest) = run_over (49 ∷ []) _ (refl, tt) in
    let text_is : 49 ∷ [] ≡ run (49 ∷ 32 ∷ letter ∷ rest) = sym (number ∙ ap (λ xs. 49 ∷ xs) ends) in
    reads (71 ∷ 49 ∷ 32 ∷ letter ∷ rest) all (omega arith) (other_byte 71 _ (omega arith))
    (subst (λ text. Says nothing (Some (a_word 71 text) ∷ None ∷ None ∷ back) all) text_is
    (says_clean (Some (a_word 71 (49 ∷ [])) ∷ None ∷ None ∷ []) back nothing all refl s))

height_says : (tenths : ℕ) (z : ℤ) → IsLength z
    → Says (words_said (g tenths ∷ [])) (items_from in_number (90 ∷ length_text z)) (words_said (g tenths ∷ word 90 z ∷ []))
unfolding has_letter
height_says tenths z h =
    says_last in_number 90 (length_text z) z (words_said (g tenths ∷ [])) (z_shown z h).later (z_shown z h) refl

height_read : (mode : MotionMode) (z : ℤ) → IsLength z
    → LineText (form_text (HeightMotion mode z)) (form_block (HeightMotion mode z))
unfolding run
height_read Rapid z h =
    let few = length_text_short z h in
    motion_read Rapid 90 (length_text z) (form_words (HeightMotion Rapid z)) refl (omega arith) (height_says 0 z h)
height_read Feed z h =
    let few = length_text_short z h in
    motion_read Feed 90 (length_text z) (form_words (HeightMotion Feed z)) refl (omega arith) (height_says 10 z h)

plane_says : (tenths : ℕ) (x y : ℤ) → IsLength x → IsLength y
    → Says (words_said (g tenths ∷ [])) (items_from in_number (88 ∷ (length_text x ++ 32 ∷ 89 ∷ length_text y)))
    (words_said (g tenths ∷ word 88 x ∷ word 89 y ∷ []))
unfolding run item_at place_after has_letter
plane_says tenths x y h k =
    let first = words_said (g tenths ∷ []) in
    let said = words_said (g tenths ∷ word 88 x ∷ []) in
    let all = words_said (g tenths ∷ word 88 x ∷ word 89 y ∷ []) in
    let rest = 32 ∷ 89 ∷ length_text y in
    says_word in_number 88 (length_text x) rest x first all (x_shown x h).later (x_shown x h) refl refl
    (says_item in_number in_number 32 (89 ∷ length_text y) None said said all refl refl (no_item said) (says_nothing_more said)
    (says_last in_number 89 (length_text y) y said (y_shown y k).later (y_shown y k) refl))

plane_short : (x y : ℤ) → IsLength x → IsLength y
    → length (length_text x ++ 32 ∷ 89 ∷ length_text y) + 4 ≤ MOST_LINE
plane_short x y h k =
    omega (arith, length-append (length_text x) (32 ∷ 89 ∷ length_text y), length_text_short x h, length_text_short y k)

plane_line : (mode : MotionMode) (x y : ℤ) → IsLength x → IsLength y
    → LineText (mode_text mode ++ 32 ∷ 88 ∷ (length_text x ++ 32 ∷ 89 ∷ length_text y)) (form_block (PlaneMotion mode x y))
unfolding run
plane_line Rapid x y h k =
    let back = length_text x ++ 32 ∷ 89 ∷ length_text y in
    motion_read Rapid 88 back (form_words (PlaneMotion Rapid x y)) refl (plane_short x y h k) (plane_says 0 x y h k)
plane_line Feed x y h k =
    let back = length_text x ++ 32 ∷ 89 ∷ length_text y in
    motion_read Feed 88 back (form_words (PlaneMotion Feed x y)) refl (plane_short x y h k) (plane_says 10 x y h k)

plane_read : (mode : MotionMode) (x y : ℤ) → IsLength x → IsLength y
    → LineText (form_text (PlaneMotion mode x y)) (form_block (PlaneMotion mode x y))
plane_read mode x y h k =
    rw (append_assoc (length_text x) (codes " Y") (length_text y)) (plane_line mode x y h k)

-- ---- comments

pub note_read : (number instance : ℕ) → number < 2 ^ 64 → instance < 2 ^ 64
    → LineText (form_text (ToolNote number instance)) (form_block (ToolNote number instance))
note_read number instance h k =
    let first = decimal_is_IsNumeral number (omega arith) in
    let second = decimal_is_IsNumeral instance (omega arith) in
    let tail = decimal number ++ codes " #" ++ decimal instance in
    let front : AreInner (decimal number ++ codes " #") = inner_append (decimal number) (codes " #") (digits_inner (decimal number) first.0.1) (refl, refl, (refl, refl, tt)) in
    let inner : AreInner tail = inner_append (decimal number ++ codes " #") (decimal instance) front (digits_inner (decimal instance) second.0.1) in
    let few = decimal_short number (omega arith) in
    let few_more = decimal_short instance (omega arith) in
    let short : length tail ≤ 42 = simp length-append (omega arith) in
    subst (λ mark. LineText (form_text (ToolNote number instance)) (with_mark (empty_block false) mark)) (no_mark tail)
    (comment_read (84 ∷ tail) (refl, refl, inner) (omega arith))

mark_read : (n : ℕ) → 1 ≤ n → n < 2 ^ 32 → LineText (form_text (StepMark n)) (form_block (StepMark n))
mark_read n h k =
    let digits = decimal_is_IsNumeral n (omega arith) in
    let body = codes "WS #" ++ decimal n in
    let short : length (decimal n) ≤ 20 = decimal_short n (omega arith) in
    let inner : AreInner body = (refl, refl, (refl, refl, (refl, refl, (refl, refl, digits_inner (decimal n) digits.0.1)))) in
    subst (λ mark. LineText (form_text (StepMark n)) (with_mark (empty_block false) mark)) (mark_is n h k)
    (comment_read body inner (omega arith))

pub forms-read : (form : Form) → IsProper form → LineText (form_text form) (form_block form)
forms-read PercentSign proper = percent_read
forms-read AllModes proper = modes_read
forms-read (ToolNote number instance) proper = note_read number instance (omega arith) (omega arith)
forms-read (StepMark n) proper = mark_read n proper.0 proper.1
forms-read (ToolChange k) proper = change_read k proper
forms-read (LengthOffset k) proper = offset_read k proper
forms-read (SpindleSpeed s) proper = speed_read s proper
forms-read (FeedRate f) proper = feed_read f proper
forms-read (HeightMotion mode z) proper = height_read mode z proper
forms-read (PlaneMotion mode x y) proper = plane_read mode x y proper.0 proper.1
forms-read ProgramEnd proper = end_read
