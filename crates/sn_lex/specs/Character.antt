-- MEANING (ISO 10303-21, basic alphabet, in this project's profile): the bytes of clear text by their use. Separators' bytes are
-- std's `is_ascii_whitespace`: blank, tab, carriage return, line feed and form feed.
use Rattle.std.specs.Prelude.{ℕ, Bool, ◌&&◌, ◌||◌, ◌==◌, not, nat_le, List, codes}
use Rattle.std.specs.List.{list_any}
use Rattle.std.specs.Char.{is_ascii_digit, is_ascii_uppercase, is_ascii_whitespace}

-- a capital letter or the low line, which the standard counts among the capital letters
abbrev pub is_upper : ℕ → Bool
is_upper c = is_ascii_uppercase c || c == 95

-- what stands in a name after its first byte
abbrev pub is_name_byte : ℕ → Bool
is_name_byte c = is_upper c || is_ascii_digit c

-- 0 to 9 and A to F
abbrev pub is_hex_digit : ℕ → Bool
is_hex_digit c = is_ascii_digit c || (nat_le 65 c && nat_le c 70)

-- 0 to 3: the first digit of a binary, which counts its unused bits
abbrev pub is_unused_count : ℕ → Bool
is_unused_count c = nat_le 48 c && nat_le c 51

-- whether c is one of the bytes
abbrev pub is_among : List ℕ → ℕ → Bool
is_among bytes c = list_any (λ b. c == b) bytes

abbrev pub is_sign : ℕ → Bool
is_sign c = is_among (codes "+-") c

-- the bytes that are tokens by themselves
abbrev pub is_mark : ℕ → Bool
is_mark c = is_among (codes "(),;=$*") c

-- the bytes with which numbers of instances, strings and enumerations begin
abbrev pub is_opening : ℕ → Bool
is_opening c = is_among (codes "#'.") c

-- a byte that by itself is neither a separator nor a token nor the beginning of a number, a string or an
-- enumeration; the exclamation mark, the quotation mark and the solidus are such bytes
abbrev pub is_stray : ℕ → Bool
is_stray c = not (is_ascii_whitespace c || is_upper c || is_ascii_digit c || is_sign c || is_mark c || is_opening c)
