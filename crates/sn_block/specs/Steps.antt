-- Private: only the functions of this crate cite these words. One byte of a line: its fault, or what is said with it.
use Rattle.std.specs.Prelude.{◌≡◌, ℕ, Bool, true, false, not, ◌&&◌, List, [], ◌∷◌, Option, Some, None, Result, Ok, Err}
use Rattle.std.specs.List.{find}
use Rattle.sn_geom.specs.declared.block.LineFault.{LineFault}
use Rattle.sn_geom.specs.declared.machine.Word.{Word}
use Rattle.sn_geom.specs.Block.{Block}
use Rattle.sn_geom.specs.LineTable.{is_modal, is_accepted, is_within, modal_word}
use Rattle.sn_geom.specs.LineText as text
use Rattle.sn_geom.specs.LineText.{Item, Kind, Said, is_faulty, said_with, fault_at, has_letter, has_group, bad_char, bad_number, too_fine, out_of_range, twice, same_group, unsupported, open_comment}
use Rattle.sn_block.specs.declared.line.Place.{Place}
use Rattle.sn_block.specs.declared.line.Place.TheVariants.{Between, InNumber, InComment}

abbrev pub place_of : Place → text.Place
place_of Between = text.between
place_of InNumber = text.in_number
place_of InComment = text.in_comment

-- the kinds, by their ranks
abbrev pub kinds : List Kind
kinds = bad_char ∷ bad_number ∷ too_fine ∷ out_of_range ∷ twice ∷ same_group ∷ unsupported ∷ open_comment ∷ []

-- the first kind that the test has
abbrev pub least : (Kind → Bool) → Option Kind
least test = find test kinds

abbrev pub or_fault : Option Kind → Said → ℕ → Result Said LineFault
or_fault None said column = Ok said
or_fault (Some kind) said column = Err (fault_at kind column)

-- what is said with the item, or its first fault
unfoldable pub step : Said → Option Item → ℕ → Result Said LineFault
step said item column = or_fault (least (is_faulty said item)) (said_with said item) column

-- the word may stand behind what the block has
pub record CanStand (block : Block) (w : Word) : Type 0 where
  pub accepted : is_accepted w ≡ true
  pub within : is_within w.letter w.value ≡ true
  pub letter : (not (is_modal w.letter) && has_letter block w.letter) ≡ false
  pub group : has_group block.words (modal_word w) ≡ false
