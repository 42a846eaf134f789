-- Lines in the forms that are written, and what they say.
use Rattle.std.proofs.Common.{ℕ, ◌≡◌, List, [], ◌∷◌, ◌++◌, map, refl, sym, ap, subst, ◌∙◌, append_assoc, append-nil}
use Rattle.sn_geom.specs.Block.{lines_of}
use Rattle.sn_gwrite.specs.Program.{Form, form_text, form_block, AreProper, forms_text}
use Rattle.sn_gwrite.specs.ProgramLaws.{IsTextOf}
use Rattle.sn_gwrite.proofs.FormReadings.{forms-lines, forms-read}
use Rattle.sn_geom.specs.Meaning.{AreBlocks}

says_each : (forms : List Form) → AreProper forms → AreBlocks (map form_text forms) (map form_block forms)
says_each [] proper = tt
says_each (form ∷ forms) proper = (forms-read form proper.0, says_each forms proper.1)

lines_are : (forms : List Form) → AreProper forms → lines_of (forms_text forms) ≡ map form_text forms
lines_are forms proper =
    ap lines_of (sym (append-nil (forms_text forms))) ∙ forms-lines forms [] proper ∙ append-nil (map form_text forms)

-- what these lines say
pub blocks_of_text : (text : List ℕ) (forms : List Form) → IsTextOf text forms → AreBlocks (lines_of text) (map form_block forms)
blocks_of_text text forms is =
    subst (λ (lines : List (List ℕ)). AreBlocks lines (map form_block forms)) (sym (ap lines_of is.written ∙ lines_are forms is.proper))
    (says_each forms is.proper)

forms_append : (some others : List Form) → forms_text (some ++ others) ≡ forms_text some ++ forms_text others
forms_append [] others = refl
forms_append (form ∷ forms) others =
    ap (λ rest. form_text form ++ 10 ∷ rest) (forms_append forms others)
    ∙ sym (append_assoc (form_text form) (10 ∷ forms_text forms) (forms_text others))

proper_append : (some others : List Form) → AreProper some → AreProper others → AreProper (some ++ others)
proper_append [] others first second = second
proper_append (form ∷ forms) others first second = (first.0, proper_append forms others first.1 second)

-- one text of lines behind another
pub text_append : {a b : List ℕ} {some others : List Form} → IsTextOf a some → IsTextOf b others → IsTextOf (a ++ b) (some ++ others)
text_append {some = some} {others = others} first second = record {
  written = rw (first.written, second.written) (sym (forms_append some others));
  proper = proper_append some others first.proper second.proper;
}
