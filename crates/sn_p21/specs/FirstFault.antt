-- MEANING (this project's own): the first fault of bytes that are no part text.
use Rattle.std.specs.Prelude.{◌≡◌, ◌≢◌, ℕ, ◌+◌, List, [], ◌∷◌, ◌++◌, length, drop}
use Rattle.sn_lex.specs.Form.{AreSeparators}
use Rattle.sn_lex.specs.Reading.{IsNextFault}
use Rattle.sn_lex.specs.declared.token.LexFault.{LexFault}
use Rattle.sn_lex.specs.declared.token.Span.{Span}
use Rattle.sn_lex.specs.declared.token.Token.TheVariants.{Number, LeftParen, End}
use Rattle.sn_p21.specs.declared.fault.P21Fault.{P21Fault}
use Rattle.sn_p21.specs.declared.fault.P21Fault.TheVariants as fault
use Rattle.sn_p21.specs.declared.limits.TheConstants.{MAX_OPEN_LISTS}
use Rattle.sn_p21.specs.Content.{Content}
use Rattle.sn_p21.specs.Grammar.{AreFileWords, IsFile, IsFileWithin, closing_words}
use Rattle.sn_p21.specs.Numbers.{HasNumber}
use Rattle.sn_p21.specs.PartText.{IsPartText}
use Rattle.sn_p21.specs.Word.{Word, IsNextWord, AreWordsBetween, mark, keyword}

-- more words make them those of a file, with a limit on the lists and typed parameters that are open at once
abbrev pub BeginWithin : ℕ → List Word → Type 0
BeginWithin limit ws = (f : Content) × (rest : List Word) × IsFileWithin limit f × AreFileWords f (ws ++ rest)

-- The words begin a part text. The keyword of a typed parameter counts even where its list would be one more than may be
-- open: the fault is then at the parenthesis that opens this list.
pub data Begin (ws : List Word) : Type 0 where
  within : BeginWithin MAX_OPEN_LISTS ws → Begin ws
  typed : (front : List Word) (name : List ℕ) → ws ≡ front ++ keyword name ∷ [] → BeginWithin MAX_OPEN_LISTS front → BeginWithin (MAX_OPEN_LISTS + 1) ws → Begin ws

-- the words end where an instance may begin, and one of their instances has this number
abbrev pub IsTaken : ℕ → List Word → Type 0
IsTaken n ws = (f : Content) × IsFile f × AreFileWords f (ws ++ closing_words) × HasNumber n f.instances

-- with this word the words begin a file in which one list more is open than may be
abbrev pub IsDeeper : List Word → Word → Type 0
IsDeeper ws w = (w ≡ mark LeftParen) × BeginWithin (MAX_OPEN_LISTS + 1) (ws ++ w ∷ [])

-- the fault of a word, at this offset, with which the words begin no part text
abbrev pub IsWordFault : List Word → Word → ℕ → P21Fault → Type 0
IsWordFault ws w at (fault.Twice n o) = (o ≡ at) × (w ≡ mark (Number n)) × IsTaken n ws
IsWordFault ws w at (fault.TooDeep o) = (o ≡ at) × IsDeeper ws w
IsWordFault ws w at (fault.Unexpected o) = (o ≡ at) × ((n : ℕ) → w ≡ mark (Number n) → ¬ IsTaken n ws) × ¬ IsDeeper ws w
IsWordFault ws w at (fault.Lex f) = ⊥
IsWordFault ws w at fault.Memory = ⊥

-- why the bytes are no part text, where these words end and no more of the bytes may follow them: the next token is
-- faulty, the words with the next one begin no part text, or the bytes end and the words are not those of a file
pub data Stops (bytes : List ℕ) (to : ℕ) (ws : List Word) (why : P21Fault) : Type 0 where
  lex : (f : LexFault) → IsNextFault bytes to f → why ≡ fault.Lex f → Stops bytes to ws why
  word : (w : Word) (span : Span) → IsNextWord bytes to w span → w.token ≢ End → ¬ Begin (ws ++ w ∷ []) → IsWordFault ws w span.at why → Stops bytes to ws why
  end : AreSeparators (drop to bytes) → ((f : Content) → IsFile f → ¬ AreFileWords f ws) → why ≡ fault.Unexpected (length bytes) → Stops bytes to ws why

-- The fewest first tokens of the bytes that begin no part text, a faulty one counted, end at this fault; or all of them
-- begin a part text and are none.
pub record IsFirstFault (bytes : List ℕ) (why : P21Fault) : Type 0 where
  pub ws : List Word
  pub to : ℕ
  pub words : AreWordsBetween bytes 0 to ws
  pub begin : Begin ws
  pub stops : Stops bytes to ws why

-- bytes have one first fault at most, and none where they are a part text; they cannot be no part text and have none
abbrev pub OneFault : Type 0
OneFault =
    ((bytes : List ℕ) (why other : P21Fault) → IsFirstFault bytes why → IsFirstFault bytes other → why ≡ other)
    × ((bytes : List ℕ) (f : Content) (why : P21Fault) → IsPartText bytes f → ¬ IsFirstFault bytes why)
    × ((bytes : List ℕ) → ((f : Content) → ¬ IsPartText bytes f) → ((why : P21Fault) → ¬ IsFirstFault bytes why) → ⊥)
