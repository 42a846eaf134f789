-- MEANING: the letters of words with their units and limits, and the modal groups of G and M words (after RS274/NGC
-- version 3, NISTIR 6556, in this project's profile).
use Rattle.std.specs.Prelude.{ℕ, Bool, true, false, ◌&&◌, ◌||◌, ◌==◌, nat_le, ℤ, pos, negsuc, unsigned_abs, List, [], ◌∷◌, ◌++◌, Option, Some, None, if◌then◌else◌}
use Rattle.std.specs.Ordering.{int_eq}
use Rattle.std.specs.List.{find}
use Rattle.sn_geom.specs.declared.limits.TheConstants.{DECIMALS, REACH, MOST_TOOL, MOST_RATE}
use Rattle.sn_geom.specs.declared.machine.Word.{Word}
use Rattle.sn_geom.specs.declared.block.ModalWord.{ModalWord}

-- The letters.

-- X, Y and Z: coordinates
abbrev pub is_axis : ℕ → Bool
is_axis letter = letter == 88 || letter == 89 || letter == 90

-- H, N and T: numbers of an offset, a line and a tool
abbrev pub is_number_letter : ℕ → Bool
is_number_letter letter = letter == 72 || letter == 78 || letter == 84

-- F and S: feed and speed
abbrev pub is_rate : ℕ → Bool
is_rate letter = letter == 70 || letter == 83

-- G and M
abbrev pub is_modal : ℕ → Bool
is_modal letter = letter == 71 || letter == 77

abbrev pub is_plain : ℕ → Bool
is_plain letter = is_axis letter || is_number_letter letter || is_rate letter

-- the decimals of a letter's unit: coordinates are counted in units of length, G words in tenths, the others in ones
unfoldable pub places_of : ℕ → ℕ
places_of letter = if is_axis letter then DECIMALS else if letter == 71 then 1 else 0

-- a letter that is not read has no unit
unfoldable pub has_unit : ℕ → Bool
has_unit letter = is_plain letter || is_modal letter

abbrev pub is_count_to : ℕ → ℤ → Bool
is_count_to most (pos n) = nat_le n most
is_count_to most (negsuc n) = false

-- the value is within the limits of the letter; G and M words have none
unfoldable pub is_within : ℕ → ℤ → Bool
is_within letter value =
    if is_axis letter then nat_le (unsigned_abs value) REACH
    else if is_number_letter letter then is_count_to MOST_TOOL value
    else if is_rate letter then is_count_to MOST_RATE value
    else true

-- The modal groups.

abbrev pub words_with : ℕ → ℕ → Bool → List ℕ → List ModalWord
words_with letter group accepted [] = []
words_with letter group accepted (v ∷ vs) =
    record { letter = letter; value = pos v; group = group; accepted = accepted } ∷ words_with letter group accepted vs

-- a group of a letter: the values that are accepted, and those that are refused
abbrev pub group_of : ℕ → ℕ → List ℕ → List ℕ → List ModalWord
group_of letter group accepted refused = words_with letter group true accepted ++ words_with letter group false refused

-- groups of G words, in tenths: 1 motion, 2 plane, 3 distance, 5 feed mode, 6 units, 7 cutter compensation, 8 tool
-- length, 12 coordinate system, 13 path control; of M words: 4 stopping, 6 tool change, 7 spindle, 8 coolant
unfoldable pub modal_words : List ModalWord
modal_words =
    group_of 71 1 (0 ∷ 10 ∷ 800 ∷ []) (20 ∷ 30 ∷ 382 ∷ 810 ∷ 820 ∷ 830 ∷ 840 ∷ 850 ∷ 860 ∷ 870 ∷ 880 ∷ 890 ∷ [])
    ++ (group_of 71 2 (170 ∷ []) (180 ∷ 190 ∷ [])
    ++ (group_of 71 3 (900 ∷ []) (910 ∷ [])
    ++ (group_of 71 5 (940 ∷ []) (930 ∷ [])
    ++ (group_of 71 6 (210 ∷ []) (200 ∷ [])
    ++ (group_of 71 7 (400 ∷ []) (410 ∷ 420 ∷ [])
    ++ (group_of 71 8 (430 ∷ 490 ∷ []) []
    ++ (group_of 71 12 (540 ∷ []) (550 ∷ 560 ∷ 570 ∷ 580 ∷ 590 ∷ 591 ∷ 592 ∷ 593 ∷ [])
    ++ (group_of 71 13 (610 ∷ 611 ∷ []) (640 ∷ [])
    ++ (group_of 77 4 (0 ∷ 1 ∷ 2 ∷ 30 ∷ 60 ∷ []) []
    ++ (group_of 77 6 (6 ∷ []) []
    ++ (group_of 77 7 (3 ∷ 5 ∷ []) (4 ∷ [])
    ++ group_of 77 8 (7 ∷ 8 ∷ 9 ∷ []) [])))))))))))

abbrev pub is_word : Word → ModalWord → Bool
is_word w row = row.letter == w.letter && int_eq row.value w.value

-- the word in the table, where it has it
unfoldable pub modal_word : Word → Option ModalWord
modal_word w = find (is_word w) modal_words

abbrev pub is_row_of : ℕ → ℕ → Option ModalWord → Bool
is_row_of letter group None = false
is_row_of letter group (Some row) = row.letter == letter && row.group == group

-- the word belongs to the group of the letter
unfoldable pub in_group : ℕ → ℕ → Word → Bool
in_group letter group w = is_row_of letter group (modal_word w)

abbrev pub is_accepted_row : Option ModalWord → Bool
is_accepted_row None = false
is_accepted_row (Some row) = row.accepted

-- the word is accepted, whatever the value of a letter other than G and M
unfoldable pub is_accepted : Word → Bool
is_accepted w = is_plain w.letter || is_accepted_row (modal_word w)
