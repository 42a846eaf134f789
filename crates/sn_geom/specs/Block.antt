-- MEANING: what a line of a program says (after RS274/NGC version 3, NISTIR 6556, in this project's profile).
use Rattle.std.specs.Prelude.{ℕ, Bool, true, false, not, ◌&&◌, ◌||◌, ◌==◌, ℤ, pos, unsigned_abs, List, [], ◌∷◌, Option, is_some, if◌then◌else◌}
use Rattle.std.specs.Option.{option_map}
use Rattle.std.specs.Ordering.{int_eq}
use Rattle.std.specs.List.{list_any, find}
use Rattle.sn_geom.specs.declared.machine.Word.{Word}

-- A line as it is read: whether it is a percent sign alone, its line number, the step that its mark names, its words.
pub record Block : Type 0 where
  pub percent : Bool
  pub number : Option ℕ
  pub mark : Option ℕ
  pub words : List Word

-- The words of a line.

abbrev pub is_empty : List Word → Bool
is_empty [] = true
is_empty (w ∷ ws) = false

abbrev pub has_word : List Word → ℕ → ℕ → Bool
has_word words letter value = list_any (λ w. w.letter == letter && int_eq w.value (pos value)) words

-- a G word, its value in tenths
abbrev pub has_g : List Word → ℕ → Bool
has_g words tenths = has_word words 71 tenths

abbrev pub has_m : List Word → ℕ → Bool
has_m words value = has_word words 77 value

-- the value of a letter, where the line has it
abbrev pub value_of : List Word → ℕ → Option ℤ
value_of words letter = option_map (λ w. w.value) (find (λ w. w.letter == letter) words)

-- the value of a letter that counts from 0
abbrev pub count_of : List Word → ℕ → Option ℕ
count_of words letter = option_map unsigned_abs (value_of words letter)

abbrev pub f_of : List Word → Option ℕ
f_of words = count_of words 70

abbrev pub h_of : List Word → Option ℕ
h_of words = count_of words 72

abbrev pub s_of : List Word → Option ℕ
s_of words = count_of words 83

abbrev pub t_of : List Word → Option ℕ
t_of words = count_of words 84

abbrev pub x_of : List Word → Option ℤ
x_of words = value_of words 88

abbrev pub y_of : List Word → Option ℤ
y_of words = value_of words 89

abbrev pub z_of : List Word → Option ℤ
z_of words = value_of words 90

abbrev pub has_axis : List Word → Bool
has_axis words = is_some (x_of words) || is_some (y_of words) || is_some (z_of words)

abbrev pub has_z_alone : List Word → Bool
has_z_alone words = is_some (z_of words) && not (is_some (x_of words)) && not (is_some (y_of words))

abbrev pub has_x_and_y : List Word → Bool
has_x_and_y words = is_some (x_of words) && is_some (y_of words)

-- The lines of a program.

-- a line feed ends a line; bytes behind the last one are a line where there are some
abbrev pub with_byte : ℕ → List (List ℕ) → List (List ℕ)
with_byte byte [] = (byte ∷ []) ∷ []
with_byte byte (line ∷ lines) = (byte ∷ line) ∷ lines

abbrev pub lines_of : List ℕ → List (List ℕ)
lines_of [] = []
lines_of (byte ∷ bytes) = if byte == 10 then [] ∷ lines_of bytes else with_byte byte (lines_of bytes)
