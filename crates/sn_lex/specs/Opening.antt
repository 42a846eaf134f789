-- Private (only the functions of this crate cite these words): the forms that begin with a byte, given by its code: 35 is #, 39
-- the apostrophe, 46 the point, 33 the exclamation mark, 34 the quotation mark and 47 the solidus.
use Rattle.std.specs.Prelude.{ℕ, if◌then◌else◌, ◌==◌, ◌||◌}
use Rattle.std.specs.Char.{is_ascii_digit}
use Rattle.sn_lex.specs.Character.{is_upper, is_sign}
use Rattle.sn_lex.specs.declared.token.Token.TheVariants.{LeftParen, RightParen, Comma, Semicolon, Equals, Dollar, Star}
use Rattle.sn_lex.specs.declared.opening.Opening.{Opening}
use Rattle.sn_lex.specs.declared.opening.Opening.TheVariants.{Word, Number, Hash, Apostrophe, Point, Exclamation, Quotation, Solidus, Mark, Other}

-- of a byte that is a token by itself, ( ) , ; = $ *, and of any other that begins no longer one
abbrev pub mark_opening_of : ℕ → Opening
mark_opening_of c =
    if c == 40 then Mark LeftParen
    else (if c == 41 then Mark RightParen
    else (if c == 44 then Mark Comma
    else (if c == 59 then Mark Semicolon
    else (if c == 61 then Mark Equals
    else (if c == 36 then Mark Dollar
    else (if c == 42 then Mark Star
    else Other))))))

abbrev pub opening_of : ℕ → Opening
opening_of c =
    if is_upper c then Word
    else (if is_ascii_digit c || is_sign c then Number
    else (if c == 35 then Hash
    else (if c == 39 then Apostrophe
    else (if c == 46 then Point
    else (if c == 33 then Exclamation
    else (if c == 34 then Quotation
    else (if c == 47 then Solidus
    else mark_opening_of c)))))))
