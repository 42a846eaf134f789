-- Laws of the text of lines (after RS274/NGC version 3, NISTIR 6556, in this project's profile).
use Rattle.std.specs.Prelude.{◌≡◌, ◌↔◌, ℕ, ◌*◌, ◌^◌, ◌≤◌, ◌==◌, ◌||◌, true, Some, List, ◌++◌, slice_index, codes, length, count_by}
use Rattle.std.specs.List.{list_all}
use Rattle.std.specs.Str.Parse.{IsNumeral, digits_value}
use Rattle.sn_geom.specs.declared.block.TheConstants.{MOST_LINE}
use Rattle.sn_geom.specs.declared.block.LineFault.{LineFault}
use Rattle.sn_geom.specs.Block.{Block}
use Rattle.sn_geom.specs.Decimal.{Sign, sign_text}
use Rattle.sn_geom.specs.LineText.{is_digit, mark_of, is_number, whole, decimals, is_fine, size_of, Kind, HasFault, IsPercentLine, IsLineFault, LineText, said_by, items_of}

-- a line is read as one block alone
abbrev pub HasOneBlock : Type 0
HasOneBlock = (line : List ℕ) (b c : Block) → LineText line b → LineText line c → b ≡ c

-- a line has one first fault alone
abbrev pub HasOneFault : Type 0
HasOneFault = (line : List ℕ) (f g : LineFault) → IsLineFault line f → IsLineFault line g → f ≡ g

-- and never a block and a first fault
abbrev pub HasNotBoth : Type 0
HasNotBoth = (line : List ℕ) (b : Block) (f : LineFault) → LineText line b → IsLineFault line f → ⊥

-- a line that is not too long has a block exactly where it has no fault
abbrev pub HasBlockWhereNoFault : Type 0
HasBlockWhereNoFault =
    (line : List ℕ) → length line ≤ MOST_LINE →
    ((b : Block) × LineText line b) ↔ ((c : ℕ) (k : Kind) → HasFault line c k → ⊥)

-- a line without a fault says what all its items say
abbrev pub SaysItemsWhereNoFault : Type 0
SaysItemsWhereNoFault =
    (line : List ℕ) → length line ≤ MOST_LINE → (IsPercentLine line → ⊥) → ((c : ℕ) (k : Kind) → HasFault line c k → ⊥) →
    LineText line (said_by (items_of line)).block

-- digits with at most one point among them, and at least one digit
pub record IsDigitsAndPoint (body : List ℕ) : Type 0 where
  pub bytes : list_all (λ b. is_digit b || b == 46) body ≡ true
  pub one_point : count_by (λ b. b == 46) body ≤ 1
  pub some_digit : 1 ≤ count_by is_digit body

-- a word's number is an optional sign, and digits with at most one point and at least one digit
abbrev pub IsSignAndDigits : Type 0
IsSignAndDigits = (text : List ℕ) → (is_number text ≡ true) ↔ ((sign : Sign) × (body : List ℕ) × (text ≡ sign_text sign ++ body) × IsDigitsAndPoint body)

-- the digits, read at these places, are a whole count of the unit exactly where the number is fine: that of its size
abbrev pub FineIsWholeCount : Type 0
FineIsWholeCount =
    (text : List ℕ) (places n : ℕ) → is_number text ≡ true →
    (digits_value 10 (whole text ++ decimals text) * 10 ^ places ≡ n * 10 ^ length (decimals text))
    ↔ ((is_fine places text ≡ true) × (n ≡ size_of places text))

-- digits that write n, the first of them not 0
pub record WritesPlainly (text : List ℕ) (n : ℕ) : Type 0 where
  pub digits : IsNumeral 10 text
  pub no_zero : slice_index text 0 ≡ 48 → ⊥
  pub value : digits_value 10 text ≡ n

-- a mark is a comment of "WS #" and a number from 1 to 4,294,967,295 without leading zeros
abbrev pub MarkIsNumber : Type 0
MarkIsNumber = (body : List ℕ) (n : ℕ) → (mark_of body ≡ Some n) ↔ ((digits : List ℕ) × (body ≡ codes "WS #" ++ digits) × WritesPlainly digits n × (n ≤ 4294967295))
