-- Laws of the forms of line and of the lines of each part of a program (this project's own).
use Rattle.std.specs.Prelude.{ℕ, ◌≡◌, ◌≤◌, ◌<◌, ◌^◌, List, ◌++◌, length, map, All}
use Rattle.sn_geom.specs.Length.{IsLength}
use Rattle.sn_geom.specs.LineText.{LineText}
use Rattle.sn_geom.specs.Block.{lines_of}
use Rattle.sn_geom.specs.declared.units.Pt3.{Pt3}
use Rattle.sn_geom.specs.declared.tip.MotionMode.{MotionMode}
use Rattle.sn_geom.specs.declared.tip.Tip.{Tip}
use Rattle.sn_gwrite.specs.Kept.{IsToolNumber, IsRate}
use Rattle.sn_gwrite.specs.Program.{Form, IsProper, form_text, form_block, AreProper, forms_text, head_forms, mark_forms, change_forms, rates_forms, motion_forms, end_forms, head_text, mark_text, change_text, rates_text, motion_text, end_text}

-- a line of each form is read as what the form says
abbrev pub FormsAreRead : Type 0
FormsAreRead = (form : Form) → IsProper form → LineText (form_text form) (form_block form)

-- the text of proper forms, whatever text follows it, is cut into the texts of the forms
abbrev pub FormsTextIsLines : Type 0
FormsTextIsLines =
    (forms : List Form) (rest : List ℕ) → AreProper forms → lines_of (forms_text forms ++ rest) ≡ map form_text forms ++ lines_of rest

-- a text is that of these forms, and they are proper
pub record IsTextOf (text : List ℕ) (forms : List Form) : Type 0 where
  pub written : text ≡ forms_text forms
  pub proper : AreProper forms

abbrev pub HeadIsForms : Type 0
HeadIsForms = (tools : List ℕ) → length tools < 2 ^ 32 → All (λ instance. instance < 2 ^ 32) tools → IsTextOf (head_text tools) (head_forms tools)

abbrev pub MarkIsForms : Type 0
MarkIsForms = (ws : ℕ) → 1 ≤ ws → ws < 2 ^ 32 → IsTextOf (mark_text ws) (mark_forms ws)

abbrev pub ChangeIsForms : Type 0
ChangeIsForms = (k : ℕ) → IsToolNumber k → IsTextOf (change_text k) (change_forms k)

abbrev pub RatesIsForms : Type 0
RatesIsForms = (speed feed : ℕ) → IsRate speed → IsRate feed → IsTextOf (rates_text speed feed) (rates_forms speed feed)

abbrev pub MotionIsForms : Type 0
MotionIsForms =
    (mode : MotionMode) (tip : Tip) (to : Pt3) → IsLength to.x → IsLength to.y → IsLength to.z
    → IsTextOf (motion_text mode tip to) (motion_forms mode tip to)

abbrev pub EndIsForms : Type 0
EndIsForms = IsTextOf end_text end_forms
