-- Words of letters with limits, and what they say.
use Rattle.std.proofs.Common.{ℕ, ◌≡◌, ◌<◌, ◌≤◌, ◌+◌, ◌/◌, ◌%◌, ◌^◌, ◌==◌, Bool, true, false, List, [], ◌∷◌, ◌++◌, length, decimal, ℤ, pos, refl, ap, ◌∙◌, subst, arith, append-nil, length-append}
use Rattle.std.proofs.lemmas.Bool.Decides.{nat_tests}
use Rattle.std.proofs.lemmas.Fmt.{length-decimal-le}
use Rattle.std.specs.Fmt.{sign_text}
use Rattle.std.specs.Int.{is_negative as int_is_negative}
use Rattle.std.specs.Prelude.{nat_le, unsigned_abs, Some, None}
use Rattle.sn_geom.specs.declared.limits.TheConstants.{DECIMALS, PER_MM, REACH, MOST_RATE, MOST_TOOL}
use Rattle.sn_geom.specs.declared.machine.Word.{Word}
use Rattle.sn_geom.specs.Length.{IsLength}
use Rattle.sn_geom.specs.LineText.{Kind, Place, Said, Says, a_word, bad_char, bad_number, too_fine, out_of_range, twice, same_group, unsupported, open_comment, is_faulty, said_with, items_from, between, in_number, item_at, place_after, beginning, run, is_numeric, has_letter}
use Rattle.sn_geom.specs.LineTable.{places_of, has_unit, is_within, is_accepted, is_modal, is_plain, modal_word, modal_words}
use Rattle.sn_gwrite.specs.Program.{word}
use Rattle.sn_gwrite.specs.Length.{length_text, last_digits}
use Rattle.sn_gwrite.proofs.ShownLengths.{length_text-shown, length-last_digits}
use Rattle.sn_gwrite.proofs.NumberWords.{AllNumeric, ShowsValue, run_over, whole_shows, length_shows}
use Rattle.sn_gwrite.proofs.ItemReadings.{says_item, no_item, says_nothing_more}

pub number_byte : (b : ℕ) (rest : List ℕ) → is_numeric b ≡ true
    → (item_at in_number b rest ≡ None) × (place_after in_number b ≡ in_number)
unfolding item_at place_after
number_byte b rest h = (rw h refl, rw h refl)

-- the bytes of a number
pub says_number : (text rest : List ℕ) (said all : Said) → AllNumeric text
    → Says said (items_from in_number rest) all → Says said (items_from in_number (text ++ rest)) all
says_number [] rest said all h s = s
says_number (b ∷ bs) rest said all h s =
    let byte = number_byte b (bs ++ rest) h.0 in
    says_item in_number in_number b (bs ++ rest) None said said all byte.0 byte.1 (no_item said) (says_nothing_more said) (says_number bs rest said all h.1 s)

-- a word begins at this letter
pub record BeginsWord (place : Place) (letter : ℕ) : Type 0 where
  pub item : (rest : List ℕ) → item_at place letter rest ≡ Some (a_word letter (run rest))
  pub after : place_after place letter ≡ in_number

-- a letter with limits, other than N, and the text of a number, which it takes as this value
pub record ShowsWord (letter : ℕ) (text : List ℕ) (value : ℤ) : Type 0 where
  pub first : BeginsWord between letter
  pub later : BeginsWord in_number letter
  pub unit : has_unit letter ≡ true
  pub plain : is_plain letter ≡ true
  pub no_modal : is_modal letter ≡ false
  pub no_number : (letter == 78) ≡ false
  pub no_row : modal_word (word letter value) ≡ None
  pub shows : ShowsValue letter text value

abbrev pub and_word : Said → Word → Said
and_word said w = record { block = record said.block { words = said.block.words ++ w ∷ [] }; begun = true }

word_none : (said : Said) (letter : ℕ) (text : List ℕ) (value : ℤ) → ShowsWord letter text value
    → has_letter said.block letter ≡ false → (kind : Kind) → is_faulty said (Some (a_word letter text)) kind ≡ false
unfolding is_faulty is_accepted
word_none said letter text value w new bad_char = rw w.shows.number refl
word_none said letter text value w new bad_number = rw w.shows.number refl
word_none said letter text value w new too_fine = rw (w.shows.number, w.unit, w.shows.fine) refl
word_none said letter text value w new out_of_range = rw (w.shows.number, w.shows.is, w.shows.within) refl
word_none said letter text value w new twice = rw (w.shows.number, w.no_modal, new) refl
word_none said letter text value w new same_group = rw (w.shows.number, w.shows.is, w.no_row) refl
word_none said letter text value w new unsupported = rw (w.shows.number, w.plain, w.no_number) refl
word_none said letter text value w new open_comment = rw w.shows.number refl

word_said : (said : Said) (letter : ℕ) (text : List ℕ) (value : ℤ) → ShowsWord letter text value
    → said_with said (Some (a_word letter text)) ≡ and_word said (word letter value)
unfolding said_with
word_said said letter text value w = rw (w.no_number, w.shows.is) refl

-- a word of a letter with limits, and then bytes that do not begin with more of its number
pub says_word : (place : Place) (letter : ℕ) (text rest : List ℕ) (value : ℤ) (said all : Said)
    → BeginsWord place letter → ShowsWord letter text value → has_letter said.block letter ≡ false → run rest ≡ []
    → Says (and_word said (word letter value)) (items_from in_number rest) all
    → Says said (items_from place (letter ∷ (text ++ rest))) all
says_word place letter text rest value said all begins w new ends s =
    let then = and_word said (word letter value) in
    let none : run (text ++ rest) ≡ text ++ [] = run_over text rest w.shows.bytes ∙ ap (λ xs. text ++ xs) ends in
    let text_is : run (text ++ rest) ≡ text = none ∙ append-nil text in
    let item = begins.item (text ++ rest) ∙ ap (λ t. Some (a_word letter t)) text_is in
    says_item place in_number letter (text ++ rest) (Some (a_word letter text)) said then all item begins.after
    (word_none said letter text value w new) (word_said said letter text value w)
    (says_number text rest then all w.shows.bytes s)

-- such a word at the end of a line
pub says_last : (place : Place) (letter : ℕ) (text : List ℕ) (value : ℤ) (said : Said)
    → BeginsWord place letter → ShowsWord letter text value → has_letter said.block letter ≡ false
    → Says said (items_from place (letter ∷ text)) (and_word said (word letter value))
unfolding run
says_last place letter text value said begins w new =
    let then = and_word said (word letter value) in
    subst (λ xs. Says said (items_from place (letter ∷ xs)) then) (append-nil text)
    (says_word place letter text [] value said then begins w new refl refl)

-- ---- the letters

pub lower : (k most : ℕ) → k ≤ most → nat_le k most ≡ true
lower k most h = grind (arith, nat_tests)

count_shows : (letter k most : ℕ) → places_of letter ≡ 0 → is_within letter (pos k) ≡ nat_le k most → k ≤ most
    → most < 2 ^ 64 → ShowsValue letter (decimal k) (pos k)
count_shows letter k most places within h fits =
    whole_shows letter k places (within ∙ lower k most h) (omega arith)

axis_shows : (letter : ℕ) (z : ℤ) → places_of letter ≡ DECIMALS
    → is_within letter z ≡ nat_le (unsigned_abs z) REACH
    → IsLength z → ShowsValue letter (length_text z) z
axis_shows letter z places within short =
    let limit = within ∙ lower (unsigned_abs z) REACH short in
    length_shows letter (length_text z) z places limit (length_text-shown z short)

pub feed_shown : (f : ℕ) → f ≤ MOST_RATE → ShowsWord 70 (decimal f) (pos f)
unfolding has_unit modal_word modal_words item_at place_after beginning places_of is_within
feed_shown f h = record {
  first = record { item = λ rest. refl; after = refl };
  later = record { item = λ rest. refl; after = refl };
  unit = refl;
  plain = refl;
  no_modal = refl;
  no_number = refl;
  no_row = refl;
  shows = count_shows 70 f MOST_RATE refl refl h (omega arith);
}

pub offset_shown : (k : ℕ) → k ≤ MOST_TOOL → ShowsWord 72 (decimal k) (pos k)
unfolding has_unit modal_word modal_words item_at place_after beginning places_of is_within
offset_shown k h = record {
  first = record { item = λ rest. refl; after = refl };
  later = record { item = λ rest. refl; after = refl };
  unit = refl;
  plain = refl;
  no_modal = refl;
  no_number = refl;
  no_row = refl;
  shows = count_shows 72 k MOST_TOOL refl refl h (omega arith);
}

pub speed_shown : (s : ℕ) → s ≤ MOST_RATE → ShowsWord 83 (decimal s) (pos s)
unfolding has_unit modal_word modal_words item_at place_after beginning places_of is_within
speed_shown s h = record {
  first = record { item = λ rest. refl; after = refl };
  later = record { item = λ rest. refl; after = refl };
  unit = refl;
  plain = refl;
  no_modal = refl;
  no_number = refl;
  no_row = refl;
  shows = count_shows 83 s MOST_RATE refl refl h (omega arith);
}

pub tool_shown : (k : ℕ) → k ≤ MOST_TOOL → ShowsWord 84 (decimal k) (pos k)
unfolding has_unit modal_word modal_words item_at place_after beginning places_of is_within
tool_shown k h = record {
  first = record { item = λ rest. refl; after = refl };
  later = record { item = λ rest. refl; after = refl };
  unit = refl;
  plain = refl;
  no_modal = refl;
  no_number = refl;
  no_row = refl;
  shows = count_shows 84 k MOST_TOOL refl refl h (omega arith);
}

pub x_shown : (x : ℤ) → IsLength x → ShowsWord 88 (length_text x) x
unfolding has_unit modal_word modal_words item_at place_after beginning places_of is_within
x_shown x h = record {
  first = record { item = λ rest. refl; after = refl };
  later = record { item = λ rest. refl; after = refl };
  unit = refl;
  plain = refl;
  no_modal = refl;
  no_number = refl;
  no_row = refl;
  shows = axis_shows 88 x refl refl h;
}

pub y_shown : (y : ℤ) → IsLength y → ShowsWord 89 (length_text y) y
unfolding has_unit modal_word modal_words item_at place_after beginning places_of is_within
y_shown y h = record {
  first = record { item = λ rest. refl; after = refl };
  later = record { item = λ rest. refl; after = refl };
  unit = refl;
  plain = refl;
  no_modal = refl;
  no_number = refl;
  no_row = refl;
  shows = axis_shows 89 y refl refl h;
}

pub z_shown : (z : ℤ) → IsLength z → ShowsWord 90 (length_text z) z
unfolding has_unit modal_word modal_words item_at place_after beginning places_of is_within
z_shown z h = record {
  first = record { item = λ rest. refl; after = refl };
  later = record { item = λ rest. refl; after = refl };
  unit = refl;
  plain = refl;
  no_modal = refl;
  no_number = refl;
  no_row = refl;
  shows = axis_shows 90 z refl refl h;
}

-- ---- how long the texts are

pub decimal_short : (n : ℕ) → n < 2 ^ 64 → length (decimal n) ≤ 20
decimal_short n fits = length-decimal-le 20 n (omega arith) (omega arith) fits

sign_short : (negative : Bool) → length (sign_text negative) ≤ 1
sign_short true = omega arith
sign_short false = omega arith

pub length_text_short : (z : ℤ) → IsLength z → length (length_text z) ≤ 22 + DECIMALS
unfolding length_text
length_text_short z short =
    let whole = decimal (unsigned_abs z / PER_MM) in
    let back = last_digits DECIMALS (unsigned_abs z % PER_MM) in
    let front_short : length whole ≤ 20 = decimal_short (unsigned_abs z / PER_MM) (omega arith) in
    let back_is : length back ≡ DECIMALS = length-last_digits DECIMALS (unsigned_abs z % PER_MM) in
    simp length-append (omega (arith, sign_short (int_is_negative z), front_short, back_is))
