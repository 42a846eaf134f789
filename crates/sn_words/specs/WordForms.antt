-- MEANING: the forms of single words of a command line: files, seeds, pitches, boxes and assignments (this project's own).
use Rattle.std.specs.Prelude.{◌≡◌, ◌≢◌, ◌⊎◌, ◌*◌, ◌≤◌, ℕ, ℤ, List, [], ◌∷◌, ◌++◌, codes, All}
use Rattle.std.specs.Char.{IsAsciiAlphabetic, IsAsciiAlphanumeric}
use Rattle.std.specs.List.{join_with_byte}
use Rattle.std.specs.Str.Parse.{IsNumeral, digits_value}
use Rattle.sn_geom.specs.Decimal.{Decimal, IsNumber, ScalesTo}
use Rattle.sn_geom.specs.Length.{IsLength}
use Rattle.sn_geom.specs.declared.limits.TheConstants.{PER_MM, PER_ONE}
use Rattle.sn_geom.specs.declared.units.Pt3.{Pt3}
use Rattle.sn_words.specs.Options.{IsBox, IsPitch, HasValue}
use Rattle.sn_words.specs.declared.limits.TheConstants.{PER_UM, MOST_SEED}
use Rattle.sn_words.specs.declared.options.Assign.{Assign}
use Rattle.sn_words.specs.declared.options.RawBox.{RawBox}

-- a file word is not empty and does not begin with a minus sign
abbrev pub IsFileWord : List ℕ → Type 0
IsFileWord [] = ⊥
IsFileWord (c ∷ cs) = c ≢ 45

-- the word is digits, and their value is a seed
pub record IsSeedWord (word : List ℕ) (seed : ℕ) : Type 0 where
  pub digits : IsNumeral 10 word
  pub value : digits_value 10 word ≡ seed
  pub within : seed ≤ MOST_SEED

-- the word is digits, and so many micrometres are a pitch
pub record IsPitchWord (word : List ℕ) (pitch : ℕ) : Type 0 where
  pub digits : IsNumeral 10 word
  pub value : digits_value 10 word * PER_UM ≡ pitch
  pub within : IsPitch pitch

-- the text is a number, and so many millimetres, rounded, are the length
pub record IsLengthText (text : List ℕ) (length : ℤ) : Type 0 where
  pub number : Decimal
  pub reads : IsNumber text number
  pub value : ScalesTo number PER_MM length
  pub within : IsLength length

-- the texts of a point's coordinates
pub record ArePointTexts (x y z : List ℕ) (point : Pt3) : Type 0 where
  pub x_is : IsLengthText x point.x
  pub y_is : IsLengthText y point.y
  pub z_is : IsLengthText z point.z

abbrev pub comma : ℕ
comma = 44

-- the word is six lengths with commas between them: the low corner of a box and its high one
pub record IsBoxWord (word : List ℕ) (box : RawBox) : Type 0 where
  pub x0 : List ℕ
  pub y0 : List ℕ
  pub z0 : List ℕ
  pub x1 : List ℕ
  pub y1 : List ℕ
  pub z1 : List ℕ
  pub order : word ≡ join_with_byte comma (x0 ∷ y0 ∷ z0 ∷ x1 ∷ y1 ∷ z1 ∷ [])
  pub low : ArePointTexts x0 y0 z0 box.low
  pub high : ArePointTexts x1 y1 z1 box.high
  pub box_is : IsBox box

-- a letter, a digit or a low line
abbrev pub IsNameByte : ℕ → Type 0
IsNameByte c = IsAsciiAlphanumeric c ⊎ (c ≡ 95)

-- a name is a letter, followed by letters, digits and low lines
abbrev pub IsName : List ℕ → Type 0
IsName [] = ⊥
IsName (c ∷ cs) = IsAsciiAlphabetic c × All IsNameByte cs

-- the text is a number, and its thousandths, rounded, are the value
pub record IsValueText (text : List ℕ) (value : ℤ) : Type 0 where
  pub number : Decimal
  pub reads : IsNumber text number
  pub scaled : ScalesTo number PER_ONE value

-- the word is a name, an equals sign and a value
pub record IsAssignmentWord (word : List ℕ) (a : Assign) : Type 0 where
  pub text : List ℕ
  pub order : word ≡ a.name ++ (codes "=" ++ text)
  pub name : IsName a.name
  pub value : IsValueText text a.value
  pub within : HasValue a
