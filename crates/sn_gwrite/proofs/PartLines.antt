-- The parts of a program are the texts of their lines.
use Rattle.std.proofs.Common.{ℕ, suc, ◌≡◌, ◌<◌, ◌≤◌, ◌+◌, ◌^◌, Bool, true, false, List, [], ◌∷◌, ◌++◌, length, decimal, refl, ap, ◌∙◌, arith, append_assoc}
use Rattle.std.specs.Ordering.{int_eq}
use Rattle.std.specs.Prelude.{All, codes}
use Rattle.sn_geom.specs.Length.{IsLength}
use Rattle.sn_geom.specs.declared.units.Pt3.{Pt3}
use Rattle.sn_geom.specs.declared.tip.MotionMode.{MotionMode}
use Rattle.sn_geom.specs.declared.tip.Tip.{Tip}
use Rattle.sn_geom.specs.declared.tip.Tip.TheVariants.{Unknown, Height, At}
use Rattle.sn_gwrite.specs.Program.{form_text, ToolNote, HeightMotion, PlaneMotion, AreProper, forms_text, tools_forms, head_forms, mark_forms, change_forms, rates_forms, motion_forms, end_forms, tool_text, tools_text, head_text, mark_text, change_text, rates_text, motion_text, end_text, mode_text}
use Rattle.sn_gwrite.specs.Kept.{IsToolNumber, IsRate}
use Rattle.sn_gwrite.specs.Length.{length_text}
use Rattle.sn_gwrite.specs.ProgramLaws.{IsTextOf}

tool_line : (a b c d e rest : List ℕ)
    → (a ++ b ++ c ++ d ++ (e ++ 10 ∷ [])) ++ rest ≡ (a ++ b ++ c ++ d ++ e) ++ 10 ∷ rest
tool_line a b c d e rest = simp append_assoc

two_lines : (a b c d e : List ℕ)
    → a ++ b ++ (c ++ 10 ∷ d) ++ e ++ 10 ∷ [] ≡ (a ++ b ++ c) ++ 10 ∷ ((d ++ e) ++ 10 ∷ [])
two_lines a b c d e = simp append_assoc

tools_text-forms : (number : ℕ) (tools : List ℕ)
    → tools_text number tools ≡ forms_text (tools_forms number tools)
unfolding tools_text tool_text
tools_text-forms number [] = refl
tools_text-forms number (t ∷ ts) =
    tool_line (codes "(T") (decimal number) (codes " #") (decimal t) (codes ")") (tools_text (number + 1) ts)
    ∙ ap (λ rest. form_text (ToolNote number t) ++ 10 ∷ rest) (tools_text-forms (number + 1) ts)

tools_proper : (number : ℕ) (tools : List ℕ) → number + length tools ≤ 2 ^ 32 → All (λ t. t < 2 ^ 32) tools
    → AreProper (tools_forms number tools)
tools_proper number [] few each = tt
tools_proper number (t ∷ ts) few each = ((omega arith, each 0 0 (omega arith)), tools_proper (number + 1) ts (omega arith) (λ k d h. each (suc k) d (omega arith)))

pub head-text : (tools : List ℕ) → head_text tools ≡ forms_text (head_forms tools)
unfolding head_text
head-text tools = ap (λ rest. codes "%\nG21 G90 G17 G94 G40 G61\n" ++ rest) (tools_text-forms 1 tools)

pub head-forms : (tools : List ℕ) → length tools < 2 ^ 32 → All (λ t. t < 2 ^ 32) tools
    → IsTextOf (head_text tools) (head_forms tools)
head-forms tools few each = record { written = head-text tools; proper = (tt, (tt, tools_proper 1 tools (omega arith) each)) }

pub mark-forms : (ws : ℕ) → 1 ≤ ws → ws < 2 ^ 32 → IsTextOf (mark_text ws) (mark_forms ws)
unfolding mark_text
mark-forms ws low high = record { written = simp append_assoc; proper = ((low, high), tt) }

pub change-forms : (k : ℕ) → IsToolNumber k → IsTextOf (change_text k) (change_forms k)
unfolding change_text
change-forms k h = record { written = two_lines (codes "T") (decimal k) (codes " M6") (codes "G43 H") (decimal k); proper = (h.1, (h.1, tt)) }

pub rates-forms : (speed feed : ℕ) → IsRate speed → IsRate feed
    → IsTextOf (rates_text speed feed) (rates_forms speed feed)
unfolding rates_text
rates-forms speed feed h k = record { written = two_lines (codes "S") (decimal speed) (codes " M3") (codes "F") (decimal feed); proper = (h.1, (k.1, tt)) }

height-forms : (mode : MotionMode) (to : Pt3) → IsLength to.z
    → IsTextOf (mode_text mode ++ (codes " Z" ++ length_text to.z) ++ codes "\n") (HeightMotion mode to.z ∷ [])
height-forms mode to short = record { written = simp append_assoc; proper = (short, tt) }

plane-forms : (mode : MotionMode) (to : Pt3) → IsLength to.x → IsLength to.y
    → IsTextOf (mode_text mode ++ (codes " X" ++ length_text to.x ++ codes " Y" ++ length_text to.y) ++ codes "\n") (PlaneMotion mode to.x to.y ∷ [])
plane-forms mode to x y = record { written = simp append_assoc; proper = ((x, y), tt) }

from_place : (mode : MotionMode) (from to : Pt3) (same : Bool) → int_eq from.z to.z ≡ same → IsLength to.x
    → IsLength to.y → IsLength to.z → IsTextOf (motion_text mode (At from) to) (motion_forms mode (At from) to)
unfolding motion_text
from_place mode from to true e x y z = rw e (plane-forms mode to x y)
from_place mode from to false e x y z = rw e (height-forms mode to z)

pub motion-forms : (mode : MotionMode) (tip : Tip) (to : Pt3) → IsLength to.x → IsLength to.y → IsLength to.z
    → IsTextOf (motion_text mode tip to) (motion_forms mode tip to)
unfolding motion_text
motion-forms mode Unknown to x y z = height-forms mode to z
motion-forms mode (Height h) to x y z = plane-forms mode to x y
motion-forms mode (At from) to x y z = from_place mode from to (int_eq from.z to.z) refl x y z

pub end-forms : IsTextOf end_text end_forms
unfolding end_text
end-forms = record { written = refl; proper = search }
