-- The program that is worked by hand, part by part.
use Rattle.std.proofs.Common.{ℕ, zero, suc, ◌≡◌, ◌*◌, ◌<◌, ◌^◌, true, false, List, [], ◌∷◌, ◌++◌, pos, refl, sym, ap, subst, ◌∙◌, arith, inr}
use Rattle.std.proofs.lemmas.Bool.Decides.{Decides-int_eq}
use Rattle.std.specs.Ordering.{int_eq}
use Rattle.std.specs.Fmt.{digits}
use Rattle.std.specs.Prelude.{All}
use Rattle.sn_geom.specs.declared.limits.TheConstants.{PER_MM, REACH}
use Rattle.sn_geom.specs.Acts.{Act, Mark, PutTool, Enter, Locate, Rapid, Feed, End}
use Rattle.sn_geom.specs.Meaning.{Means}
use Rattle.sn_geom.specs.declared.units.Pt3.{Pt3}
use Rattle.sn_geom.specs.declared.tip.MotionMode.TheVariants as mode
use Rattle.sn_geom.specs.declared.tip.Tip.TheVariants.{Unknown, Height, At}
use Rattle.sn_gwrite.specs.Agreement.{PartMeans}
use Rattle.sn_gwrite.specs.AgreementExamples.{OneHoleMeans, one_hole, mm, over}
use Rattle.sn_gwrite.specs.Kept.{Kept, IsKept, IsPoint, IsStraight, unused, begun, with_tool, with_rates, moved, ended}
use Rattle.sn_gwrite.specs.Length.{length_text}
use Rattle.sn_gwrite.specs.Program.{head_text, tools_text, tool_text, mark_text, change_text, rates_text, motion_text, end_text}
use Rattle.sn_gwrite.proofs.PartMeanings.{head_means, mark_means, change_means, rates_mean, rapid_means, feed_means, end_means, parts_mean_in_turn, parts_are_program}

place : (z : ℕ) → z * PER_MM < REACH → IsPoint (over z)
place z low = record { x = omega arith; y = omega arith; z = omega arith }

both : {old kept new : Kept} {front back : List ℕ} {some others : List Act} → PartMeans old kept front some → PartMeans kept new back others
    → PartMeans old new (front ++ back) (some ++ others)
both {old = old} {kept = kept} {new = new} {front = front} {back = back} {some = some} {others = others} p q =
    parts_mean_in_turn old kept new front back some others p q

-- ---- what is kept, part by part

abbrev changed : Kept
changed = with_tool (begun unused) 1

abbrev turned : Kept
turned = with_rates changed 720 300

turned_is_kept : IsKept turned
turned_is_kept = record { tool = (omega arith, omega arith); speed = (omega arith, omega arith); feed = (omega arith, omega arith); turning = λ turns. (refl, refl) }

abbrev entered : Kept
entered = moved turned (over 20)

entered_is_kept : IsKept entered
entered_is_kept = record { tool = turned_is_kept.tool; speed = turned_is_kept.speed; feed = turned_is_kept.feed; turning = turned_is_kept.turning }

abbrev at : ℕ → Kept
at z = record turned { tip = At (over z) }

at_is_kept : (z : ℕ) → IsKept (at z)
at_is_kept z = record { tool = turned_is_kept.tool; speed = turned_is_kept.speed; feed = turned_is_kept.feed; turning = turned_is_kept.turning }

upright : (from to : ℕ) → int_eq (mm from) (mm to) ≡ false → IsStraight (over from) (over to)
upright from to differ = record {
  moves = λ same.
      let met = (Decides-int_eq (mm from) (mm to)).1 (ap (λ (p : Pt3). p.z) same) in
      let both : false ≡ true = sym differ ∙ met in cc;
  straight = inr (refl, refl);
}

-- ---- the texts and the acts of the parts

abbrev motions_text : List ℕ
motions_text =
    motion_text mode.Rapid Unknown (over 20)
    ++ (motion_text mode.Rapid (Height (mm 20)) (over 20)
    ++ (motion_text mode.Rapid (At (over 20)) (over 11)
    ++ (motion_text mode.Feed (At (over 11)) (over 4)
    ++ motion_text mode.Rapid (At (over 4)) (over 20))))

abbrev motions_acts : List Act
motions_acts =
    Enter (mm 20) ∷ Locate (over 20) ∷ Rapid (over 20) (over 11) 1 ∷ Feed (over 11) (over 4) 300 720 1 ∷ Rapid (over 4) (over 20) 1 ∷ []

motions : PartMeans turned (at 20) motions_text motions_acts
motions =
    both (rapid_means turned (over 20) turned_is_kept refl refl tt (place 20 (omega arith)))
    (both (rapid_means entered (over 20) entered_is_kept refl refl refl (place 20 (omega arith)))
    (both (rapid_means (at 20) (over 11) (at_is_kept 20) refl refl (upright 20 11 refl) (place 11 (omega arith)))
    (both (feed_means (at 11) (over 4) (at_is_kept 11) refl refl refl (upright 11 4 refl) (place 4 (omega arith)))
    (rapid_means (at 4) (over 20) (at_is_kept 4) refl refl (upright 4 20 refl) (place 20 (omega arith))))))

abbrev parts_text : List ℕ
parts_text = head_text (17 ∷ []) ++ (mark_text 4 ++ (change_text 1 ++ (rates_text 720 300 ++ (motions_text ++ end_text))))

abbrev parts_acts : List Act
parts_acts = [] ++ ((Mark 4 ∷ []) ++ ((PutTool 1 ∷ []) ++ ([] ++ (motions_acts ++ End ∷ []))))

one_tool : All (λ (instance : ℕ). instance < 2 ^ 32) (17 ∷ [])
one_tool zero d inside = omega arith
one_tool (suc k) d inside = absurd (omega arith)

parts : PartMeans unused (ended (at 20)) parts_text parts_acts
parts =
    both (head_means (17 ∷ []) (omega arith) one_tool)
    (both (mark_means (begun unused) 4 refl (omega arith) (omega arith))
    (both (change_means (begun unused) 1 refl (omega arith, omega arith))
    (both (rates_mean changed 720 300 refl (omega arith, omega arith) (omega arith, omega arith))
    (both motions (end_means (at 20) refl)))))

text_is : parts_text ≡ one_hole
unfolding digits head_text tools_text tool_text mark_text change_text rates_text motion_text length_text end_text
text_is = refl

pub one_hole_means : OneHoleMeans
one_hole_means = subst (λ (text : List ℕ). Means text parts_acts) text_is (parts_are_program (ended (at 20)) parts_text parts_acts parts)
