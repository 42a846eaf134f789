-- MEANING: the text of a line: its words and comments, what it says, and its faults (after RS274/NGC version 3, NISTIR
-- 6556, in this project's profile).
use Rattle.std.specs.Prelude.{◌≡◌, ℕ, ◌+◌, ◌-◌, ◌<◌, ◌≤◌, Bool, true, false, not, ◌&&◌, ◌||◌, ◌==◌, nat_le, ◌⊎◌, unsigned_abs, List, [], ◌∷◌, ◌++◌, length, take, drop, filter, take_while, slice_index, Option, Some, None, is_some, if◌then◌else◌}
use Rattle.std.specs.List.{list_any, list_all}
use Rattle.std.specs.Option.{option_or}
use Rattle.std.specs.Str.Parse.{digits_value}
use Rattle.std.proofs.Math.ListN.{replicate}
use Rattle.sn_geom.specs.declared.block.TheConstants.{MOST_LINE}
use Rattle.sn_geom.specs.declared.block.LineFault.{LineFault}
use Rattle.sn_geom.specs.declared.block.LineFault.TheVariants.{LongLine, BadChar, BadNumber, TooFine, OutOfRange, Twice, SameGroup, Unsupported, OpenComment}
use Rattle.sn_geom.specs.declared.block.ModalWord.{ModalWord}
use Rattle.sn_geom.specs.declared.machine.Word.{Word}
use Rattle.sn_geom.specs.Block.{Block}
use Rattle.sn_geom.specs.Decimal.{with_sign}
use Rattle.sn_geom.specs.LineTable.{is_modal, has_unit, places_of, is_within, is_accepted, modal_word, in_group}

-- ---- bytes

-- a blank, a tab or a carriage return
abbrev pub is_blank : ℕ → Bool
is_blank b = b == 32 || b == 9 || b == 13

abbrev pub is_digit : ℕ → Bool
is_digit b = nat_le 48 b && nat_le b 57

-- + or -
abbrev pub is_sign : ℕ → Bool
is_sign b = b == 43 || b == 45

-- what a number's text is made of: digits, signs and points
abbrev pub is_numeric : ℕ → Bool
is_numeric b = is_digit b || is_sign b || b == 46

abbrev pub is_small : ℕ → Bool
is_small b = nat_le 97 b && nat_le b 122

abbrev pub is_letter : ℕ → Bool
is_letter b = nat_le 65 b && nat_le b 90 || is_small b

-- the letter as a capital
abbrev pub capital : ℕ → ℕ
capital b = if is_small b then b - 32 else b

-- ---- a word's number

-- the longest run of digits, signs and points that these bytes begin with, blanks skipped
unfoldable pub run : List ℕ → List ℕ
run bytes = filter (λ b. not (is_blank b)) (take_while (λ b. is_numeric b || is_blank b) bytes)

unfoldable pub is_negative : List ℕ → Bool
is_negative [] = false
is_negative (b ∷ bs) = b == 45

-- the text behind its sign
unfoldable pub unsigned : List ℕ → List ℕ
unsigned [] = []
unsigned (b ∷ bs) = if is_sign b then bs else b ∷ bs

-- its digits before the point
unfoldable pub whole : List ℕ → List ℕ
whole text = take_while is_digit (unsigned text)

-- what stands behind those
unfoldable pub fraction : List ℕ → List ℕ
fraction text = drop (length (whole text)) (unsigned text)

-- its digits behind the point
unfoldable pub decimals : List ℕ → List ℕ
decimals text = drop 1 (fraction text)

-- nothing, or a point and digits
abbrev pub is_fraction : List ℕ → Bool
is_fraction [] = true
is_fraction (b ∷ bs) = b == 46 && list_all is_digit bs

-- the text is a number: it has a digit before the point or behind it
unfoldable pub is_number : List ℕ → Bool
is_number text = is_fraction (fraction text) && nat_le 1 (length (whole text) + length (decimals text))

abbrev pub are_zeros : List ℕ → Bool
are_zeros digits = list_all (λ b. b == 48) digits

-- no digit but 0 stands behind these places
unfoldable pub is_fine : ℕ → List ℕ → Bool
is_fine places text = are_zeros (drop places (decimals text))

abbrev pub zeros : ℕ → List ℕ
zeros count = replicate count 48

-- these places of digits, with zeros where there are no more
abbrev pub padded : ℕ → List ℕ → List ℕ
padded places digits = take places (digits ++ zeros places)

-- the size of the number as a count of its unit, which has these places
unfoldable pub size_of : ℕ → List ℕ → ℕ
size_of places text = digits_value 10 (whole text ++ padded places (decimals text))

-- the word of this letter and this text of a number
abbrev pub word_of : ℕ → List ℕ → Word
word_of letter text = record { letter = letter; value = with_sign (is_negative text) (size_of (places_of letter) text) }

-- ---- marks

-- digits without a leading zero of a number up to 4,294,967,295
unfoldable pub is_mark_number : List ℕ → Bool
is_mark_number digits =
    list_all is_digit digits && not (slice_index digits 0 == 48) && nat_le 1 (digits_value 10 digits) && nat_le (digits_value 10 digits) 4294967295

-- the comment begins with "WS #"
unfoldable pub begins_mark : List ℕ → Bool
begins_mark body = nat_le 4 (length body) && slice_index body 0 == 87 && slice_index body 1 == 83 && slice_index body 2 == 32 && slice_index body 3 == 35

-- the number of the workingstep that the comment names, where it is "WS #" and a number
unfoldable pub mark_of : List ℕ → Option ℕ
mark_of body = if begins_mark body && is_mark_number (drop 4 body) then Some (digits_value 10 (drop 4 body)) else None

-- ---- items

-- what begins at a byte: a word with the text of its number, a comment with the bytes before its end, a comment that does
-- not end, or nothing
pub data Item : Type 0 where
  a_word : ℕ → List ℕ → Item
  a_comment : List ℕ → Item
  an_open_comment : Item
  a_stray : ℕ → Item

-- where a byte stands
pub data Place : Type 0 where
  between : Place
  in_number : Place
  in_comment : Place

abbrev pub has_end : List ℕ → Bool
has_end bytes = list_any (λ b. b == 41) bytes

abbrev pub body_of : List ℕ → List ℕ
body_of bytes = take_while (λ b. not (b == 41)) bytes

abbrev pub comment_at : List ℕ → Item
comment_at rest = if has_end rest then a_comment (body_of rest) else an_open_comment

-- what begins at a byte outside comments that continues no number, with the bytes behind it
unfoldable pub beginning : ℕ → List ℕ → Option Item
beginning b rest =
    if is_blank b then None
    else if is_letter b then Some (a_word (capital b) (run rest))
    else if b == 40 then Some (comment_at rest)
    else Some (a_stray b)

-- a comment has no inner (
unfoldable pub item_at : Place → ℕ → List ℕ → Option Item
item_at between b rest = beginning b rest
item_at in_number b rest = if is_numeric b || is_blank b then None else beginning b rest
item_at in_comment b rest = if b == 40 then Some (a_stray b) else None

abbrev pub place_after_beginning : ℕ → Place
place_after_beginning b = if is_letter b then in_number else if b == 40 then in_comment else between

unfoldable pub place_after : Place → ℕ → Place
place_after between b = place_after_beginning b
place_after in_number b = if is_numeric b || is_blank b then in_number else place_after_beginning b
place_after in_comment b = if b == 41 then between else in_comment

-- what begins at each byte
abbrev pub items_from : Place → List ℕ → List (Option Item)
items_from place [] = []
items_from place (b ∷ rest) = item_at place b rest ∷ items_from (place_after place b) rest

abbrev pub items_of : List ℕ → List (Option Item)
items_of line = items_from between line

-- ---- what items say

-- the block that items say, and whether a word or a comment is among them
pub record Said : Type 0 where
  pub block : Block
  pub begun : Bool

abbrev pub empty_block : Bool → Block
empty_block percent = record { percent = percent; number = None; mark = None; words = [] }

abbrev pub nothing : Said
nothing = record { block = empty_block false; begun = false }

-- N gives the line's number, each other word is one of its words
abbrev pub with_word : Block → Word → Block
with_word block w =
    if w.letter == 78 then record block { number = Some (unsigned_abs w.value) } else record block { words = block.words ++ w ∷ [] }

-- a line's mark is its first
abbrev pub with_mark : Block → Option ℕ → Block
with_mark block mark = record block { mark = option_or block.mark mark }

unfoldable pub said_with : Said → Option Item → Said
said_with said None = said
said_with said (Some (a_word letter text)) = record { block = with_word said.block (word_of letter text); begun = true }
said_with said (Some (a_comment body)) = record { block = with_mark said.block (mark_of body); begun = true }
said_with said (Some an_open_comment) = said
said_with said (Some (a_stray b)) = said

abbrev pub said_from : Said → List (Option Item) → Said
said_from said [] = said
said_from said (item ∷ items) = said_from (said_with said item) items

abbrev pub said_by : List (Option Item) → Said
said_by items = said_from nothing items

-- ---- faults

pub data Kind : Type 0 where
  bad_char : Kind
  bad_number : Kind
  too_fine : Kind
  out_of_range : Kind
  twice : Kind
  same_group : Kind
  unsupported : Kind
  open_comment : Kind

-- of the faults at one column the first in this order is told
abbrev pub rank : Kind → ℕ
rank bad_char = 0
rank bad_number = 1
rank too_fine = 2
rank out_of_range = 3
rank twice = 4
rank same_group = 5
rank unsupported = 6
rank open_comment = 7

-- a letter stands twice, the line's number in its own place
unfoldable pub has_letter : Block → ℕ → Bool
has_letter block letter = if letter == 78 then is_some block.number else list_any (λ w. w.letter == letter) block.words

abbrev pub has_group : List Word → Option ModalWord → Bool
has_group words None = false
has_group words (Some row) = list_any (in_group row.letter row.group) words

-- the faults of a word whose number is well-formed
abbrev pub value_is_faulty : Said → ℕ → List ℕ → Kind → Bool
value_is_faulty said letter text bad_char = false
value_is_faulty said letter text bad_number = false
value_is_faulty said letter text too_fine = has_unit letter && not (is_fine (places_of letter) text)
value_is_faulty said letter text out_of_range = let w = word_of letter text in not (is_within letter w.value)
value_is_faulty said letter text twice = not (is_modal letter) && has_letter said.block letter
value_is_faulty said letter text same_group = has_group said.block.words (modal_word (word_of letter text))
value_is_faulty said letter text unsupported = not (is_accepted (word_of letter text)) || (letter == 78 && said.begun)
value_is_faulty said letter text open_comment = false

abbrev pub is_bad_number : Kind → Bool
is_bad_number bad_number = true
is_bad_number _ = false

abbrev pub is_open_comment : Kind → Bool
is_open_comment open_comment = true
is_open_comment _ = false

-- block delete, parameters and expressions are not read
abbrev pub is_refused_sign : ℕ → Bool
is_refused_sign b = b == 47 || b == 35 || b == 91

abbrev pub stray_kind : ℕ → Kind
stray_kind b = if is_refused_sign b then unsupported else bad_char

abbrev pub stray_is_faulty : ℕ → Kind → Bool
stray_is_faulty b kind = rank kind == rank (stray_kind b)

-- an item has a fault of the kind, the items before it having said so much
unfoldable pub is_faulty : Said → Option Item → Kind → Bool
is_faulty said None kind = false
is_faulty said (Some (a_word letter text)) kind = if is_number text then value_is_faulty said letter text kind else is_bad_number kind
is_faulty said (Some (a_comment body)) kind = false
is_faulty said (Some an_open_comment) kind = is_open_comment kind
is_faulty said (Some (a_stray b)) kind = stray_is_faulty b kind

-- a line of a percent sign alone, among blanks
abbrev pub IsPercentLine : List ℕ → Type 0
IsPercentLine line = filter (λ b. not (is_blank b)) line ≡ 37 ∷ []

-- the line has a fault of the kind at the column: of the item that begins there
pub record HasFault (line : List ℕ) (column : ℕ) (kind : Kind) : Type 0 where
  pub before : List (Option Item)
  pub here : Option Item
  pub after : List (Option Item)
  pub splits : items_of line ≡ before ++ here ∷ after
  pub at : column ≡ length before + 1
  pub faulty : is_faulty (said_by before) here kind ≡ true
  pub no_percent : IsPercentLine line → ⊥

-- each fault stands behind this one, or at its column and of no lesser rank
pub record IsFirst (line : List ℕ) (column : ℕ) (kind : Kind) : Type 0 where
  pub short : length line ≤ MOST_LINE
  pub has : HasFault line column kind
  pub first : (c : ℕ) (k : Kind) → HasFault line c k → (column < c) ⊎ ((c ≡ column) × (rank kind ≤ rank k))

-- the fault of the kind at the column
abbrev pub fault_at : Kind → ℕ → LineFault
fault_at bad_char c = BadChar c
fault_at bad_number c = BadNumber c
fault_at too_fine c = TooFine c
fault_at out_of_range c = OutOfRange c
fault_at twice c = Twice c
fault_at same_group c = SameGroup c
fault_at unsupported c = Unsupported c
fault_at open_comment c = OpenComment c

-- the first fault of the line
abbrev pub IsLineFault : List ℕ → LineFault → Type 0
IsLineFault line LongLine = MOST_LINE < length line
IsLineFault line (BadChar c) = IsFirst line c bad_char
IsLineFault line (BadNumber c) = IsFirst line c bad_number
IsLineFault line (TooFine c) = IsFirst line c too_fine
IsLineFault line (OutOfRange c) = IsFirst line c out_of_range
IsLineFault line (Twice c) = IsFirst line c twice
IsLineFault line (SameGroup c) = IsFirst line c same_group
IsLineFault line (Unsupported c) = IsFirst line c unsupported
IsLineFault line (OpenComment c) = IsFirst line c open_comment

-- ---- lines

-- from said on, the items, none of them at fault, say so much
abbrev pub Says : Said → List (Option Item) → Said → Type 0
Says said [] all = said ≡ all
Says said (item ∷ items) all = ((kind : Kind) → is_faulty said item kind ≡ false) × Says (said_with said item) items all

-- the line's words and comments say the block
pub record SaysBlock (line : List ℕ) (block : Block) : Type 0 where
  pub no_percent : IsPercentLine line → ⊥
  pub all : Said
  pub says : Says nothing (items_of line) all
  pub block_is : block ≡ all.block

-- the line is read as the block
pub record LineText (line : List ℕ) (block : Block) : Type 0 where
  pub short : length line ≤ MOST_LINE
  pub text : (IsPercentLine line × (block ≡ empty_block true)) ⊎ SaysBlock line block
