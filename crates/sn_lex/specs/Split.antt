-- Private (only the functions of this crate cite these words): how a text is split at the end of its longest front of a
-- kind.
use Rattle.std.specs.Prelude.{◌≡◌, ℕ, ◌==◌, Bool, false, cond, ◌||◌, List, [], ◌∷◌, ◌++◌, length, IsTrue, codes}
use Rattle.std.specs.List.{list_all}
use Rattle.std.specs.Char.{is_ascii_digit}
use Rattle.sn_lex.specs.Character.{is_upper, is_name_byte, is_sign}
use Rattle.sn_lex.specs.Form.{HeadFails, IsName, IsInteger, IsSeparator, AreSeparators, IsCommentBody, doubled, IsTextOf, IsFaultyText}
use Rattle.sn_lex.specs.Reading.{NoLongerForm}
use Rattle.sn_lex.specs.declared.token.Token.{Token}
use Rattle.sn_lex.specs.declared.token.LexFault.{LexFault}

-- the run is the longest front of the bytes in which each byte passes
pub record SplitsRun (test : ℕ → Bool) (bytes run after : List ℕ) : Type 0 where
  pub whole : bytes ≡ run ++ after
  pub passes : IsTrue (list_all test run)
  pub ends : HeadFails test after

-- whether a name begins the bytes
abbrev pub begins_name : List ℕ → Bool
begins_name [] = false
begins_name (c ∷ cs) = is_upper c

-- after the longest name comes the rest
pub record LeavesName (bytes after : List ℕ) : Type 0 where
  pub name : List ℕ
  pub is_name : IsName name
  pub splits : SplitsRun is_name_byte bytes name after

-- the bytes without the sign with which they may begin
abbrev pub unsigned : List ℕ → List ℕ
unsigned [] = []
unsigned (c ∷ cs) = cond (is_sign c) cs (c ∷ cs)

-- after the longest integer comes the rest
pub record LeavesInteger (bytes after : List ℕ) : Type 0 where
  pub integer : List ℕ
  pub is_integer : IsInteger integer
  pub whole : bytes ≡ integer ++ after
  pub ends : HeadFails is_ascii_digit after

-- no integer begins the bytes
abbrev pub HasNoInteger : List ℕ → Type 0
HasNoInteger bytes = (text after : List ℕ) → bytes ≡ text ++ after → IsInteger text → ⊥

-- a digit or a sign begins the bytes
abbrev pub begins_number : List ℕ → Bool
begins_number [] = false
begins_number (c ∷ cs) = is_ascii_digit c || is_sign c

-- after the body of a comment and its end comes the rest
pub record LeavesComment (bytes after : List ℕ) : Type 0 where
  pub body : List ℕ
  pub is_body : IsCommentBody body
  pub whole : bytes ≡ body ++ (codes "*/" ++ after)

-- after the value of a string and the apostrophe that closes it comes the rest
pub record LeavesString (bytes after : List ℕ) : Type 0 where
  pub value : List ℕ
  pub whole : bytes ≡ doubled value ++ (codes "'" ++ after)
  pub ends : HeadFails (λ c. c == 39) after

-- a string goes on to the end of the bytes
abbrev pub IsInString : List ℕ → Type 0
IsInString bytes = (value : List ℕ) × (bytes ≡ doubled value)

-- after a separator comes the rest
pub record LeavesSeparator (bytes after : List ℕ) : Type 0 where
  pub separator : List ℕ
  pub is_separator : IsSeparator separator
  pub whole : bytes ≡ separator ++ after

-- no separator begins the bytes
abbrev pub HasNoSeparator : List ℕ → Type 0
HasNoSeparator bytes = (text after : List ℕ) → bytes ≡ text ++ after → IsSeparator text → ⊥

-- after all separators comes the rest
pub record LeavesSeparators (bytes after : List ℕ) : Type 0 where
  pub separators : List ℕ
  pub are_separators : AreSeparators separators
  pub whole : bytes ≡ separators ++ after

-- the token begins the bytes, and after it comes the rest
pub record ReadsToken (bytes : List ℕ) (t : Token) (after : List ℕ) : Type 0 where
  pub text : List ℕ
  pub whole : bytes ≡ text ++ after
  pub is_text : IsTextOf t text
  pub longest : NoLongerForm bytes (length text)

-- a faulty token begins the bytes
pub record ReadsFault (bytes : List ℕ) (f : LexFault) : Type 0 where
  pub text : List ℕ
  pub after : List ℕ
  pub whole : bytes ≡ text ++ after
  pub is_text : IsFaultyText f text
  pub longest : NoLongerForm bytes (length text)
