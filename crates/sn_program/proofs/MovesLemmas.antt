-- Moves: their text is lines in the forms that are written, and the machine runs them.
use Rattle.std.proofs.Common.{ℕ, ◌≡◌, ◌≢◌, ⊎_elim, true, false, List, [], ◌∷◌, ◌++◌, map, Option, Some, refl, sym, subst, ◌∙◌}
use Rattle.std.specs.Prelude.{◌==◌}
use Rattle.std.specs.Ordering.{int_eq}
use Rattle.std.proofs.lemmas.Bool.Decides.{Decides-int_eq}
use Rattle.sn_geom.specs.Length.{IsLength}
use Rattle.sn_geom.specs.Block.{Block}
use Rattle.sn_geom.specs.Machine.{State}
use Rattle.sn_geom.specs.Sweep.{IsHorizontalOrVertical}
use Rattle.sn_geom.specs.Tip.{tip_after}
use Rattle.sn_geom.specs.declared.units.Pt3.{Pt3}
use Rattle.sn_geom.specs.declared.tip.MotionMode.{MotionMode}
use Rattle.sn_geom.specs.declared.tip.MotionMode.TheVariants as mode
use Rattle.sn_geom.specs.declared.tip.Tip.{Tip}
use Rattle.sn_geom.specs.declared.tip.Tip.TheVariants.{Unknown, Height, At}
use Rattle.sn_geom.specs.Acts.{Act, RunsTo}
use Rattle.sn_geom.specs.Acts.Act.{Locate, Rapid as AtRapid, Feed as AtFeed}
use Rattle.sn_gwrite.specs.Program.{Form, form_block, motion_form}
use Rattle.sn_gwrite.specs.Program.Form.{HeightMotion, PlaneMotion}
use Rattle.sn_gwrite.specs.ProgramLaws.{IsTextOf}
use Rattle.sn_gwrite.proofs.PartLines.{motion-forms}
use Rattle.sn_gwrite.proofs.PartRuns.{within}
use Rattle.sn_link.specs.declared.moves.Move.{Move}
use Rattle.sn_link.specs.declared.moves.Move.TheVariants.{Rapid, Feed}
use Rattle.sn_link.specs.Moves.{end_of, tip_after_moves, MayMove, AreStraight}
use Rattle.sn_link.specs.Safe.{AreWithin}
use Rattle.sn_link.proofs.MovesLemmas.{by_test, equal_test, other_test, same_point}
use Rattle.sn_program.specs.PlanActs.{move_act, move_acts}
use Rattle.sn_program.specs.Text.{move_text, moves_text}
use Rattle.sn_program.proofs.LineLemmas.{text_append}

-- The lines of moves.

abbrev pub mode_of : Move → MotionMode
mode_of (Rapid p) = mode.Rapid
mode_of (Feed p) = mode.Feed

abbrev pub move_form : Tip → Move → Form
move_form tip move = motion_form (mode_of move) tip (end_of move)

abbrev pub move_forms : Tip → List Move → List Form
move_forms tip [] = []
move_forms tip (move ∷ moves) = move_form tip move ∷ move_forms (tip_after tip (end_of move)) moves

move_lines : (tip : Tip) (move : Move) → IsLength (end_of move).x × IsLength (end_of move).y × IsLength (end_of move).z
    → IsTextOf (move_text tip move) (move_form tip move ∷ [])
move_lines tip (Rapid p) within = motion-forms mode.Rapid tip p within.0 within.1 within.2
move_lines tip (Feed p) within = motion-forms mode.Feed tip p within.0 within.1 within.2

pub moves_lines : (tip : Tip) (moves : List Move) → AreWithin moves → IsTextOf (moves_text tip moves) (move_forms tip moves)
moves_lines tip [] within = record { written = refl; proper = tt }
moves_lines tip (move ∷ moves) within = text_append (move_lines tip move within.0) (moves_lines (tip_after tip (end_of move)) moves within.1)

-- The machine between moves.

-- within a program, with a tool in the spindle that turns, and a tip
abbrev pub working : Option MotionMode → ℕ → ℕ → ℕ → Tip → State
working motion speed feed tool tip = within motion (Some feed) (Some speed) (Some tool) (Some tool) true true tip

-- the speed, the feed and the tool are not 0
pub record AreSet (speed feed tool : ℕ) : Type 0 where
  pub speed_is : (speed == 0) ≡ false
  pub feed_is : (feed == 0) ≡ false
  pub tool_is : (tool == 0) ≡ false

-- the machine runs the lines with these acts, whichever motion is active
abbrev pub RunsOn : ℕ → ℕ → ℕ → Tip → List Block → List Act → Type 0
RunsOn speed feed tool tip bs acts = (last : Option MotionMode) → RunsTo (working last speed feed tool tip) bs acts

-- a motion in the plane from a known place
plane_run : (speed feed tool : ℕ) → AreSet speed feed tool → (motion : Option MotionMode) (p : Pt3) (move : Move) (bs : List Block) (acts : List Act)
    → p.z ≡ (end_of move).z → RunsOn speed feed tool (At (end_of move)) bs acts
    → RunsTo (working motion speed feed tool (At p)) (form_block (PlaneMotion (mode_of move) (end_of move).x (end_of move).y) ∷ bs) (move_act speed feed tool (At p) move ∷ acts)
plane_run speed feed tool are motion p (Rapid q) bs acts level next =
    let there : Pt3 = record { x = q.x; y = q.y; z = p.z } in
    subst (λ r. RunsOn speed feed tool (At r) bs acts → RunsTo (working motion speed feed tool (At p)) (form_block (PlaneMotion mode.Rapid q.x q.y) ∷ bs) (AtRapid p r tool ∷ acts))
    (same_point there q refl refl level)
    (λ later. (rw (equal_test p.z, are.tool_is) refl, (acts, refl, later (Some mode.Rapid)))) next
plane_run speed feed tool are motion p (Feed q) bs acts level next =
    let there : Pt3 = record { x = q.x; y = q.y; z = p.z } in
    subst (λ r. RunsOn speed feed tool (At r) bs acts → RunsTo (working motion speed feed tool (At p)) (form_block (PlaneMotion mode.Feed q.x q.y) ∷ bs) (AtFeed p r feed speed tool ∷ acts))
    (same_point there q refl refl level)
    (λ later. (rw (equal_test p.z, are.tool_is, are.feed_is, are.speed_is) refl, (acts, refl, later (Some mode.Feed)))) next

-- a motion in height from a known place
height_run : (speed feed tool : ℕ) → AreSet speed feed tool → (motion : Option MotionMode) (p : Pt3) (move : Move) (bs : List Block) (acts : List Act)
    → p.x ≡ (end_of move).x → p.y ≡ (end_of move).y → p.z ≢ (end_of move).z → RunsOn speed feed tool (At (end_of move)) bs acts
    → RunsTo (working motion speed feed tool (At p)) (form_block (HeightMotion (mode_of move) (end_of move).z) ∷ bs) (move_act speed feed tool (At p) move ∷ acts)
height_run speed feed tool are motion p (Rapid q) bs acts across along other next =
    let there : Pt3 = record { x = p.x; y = p.y; z = q.z } in
    let differ = other_test q.z p.z (λ e. other (sym e)) in
    subst (λ r. RunsOn speed feed tool (At r) bs acts → RunsTo (working motion speed feed tool (At p)) (form_block (HeightMotion mode.Rapid q.z) ∷ bs) (AtRapid p r tool ∷ acts))
    (same_point there q across along refl)
    (λ later. (rw (differ, equal_test p.x, equal_test p.y, are.tool_is) refl, (acts, refl, later (Some mode.Rapid)))) next
height_run speed feed tool are motion p (Feed q) bs acts across along other next =
    let there : Pt3 = record { x = p.x; y = p.y; z = q.z } in
    let differ = other_test q.z p.z (λ e. other (sym e)) in
    subst (λ r. RunsOn speed feed tool (At r) bs acts → RunsTo (working motion speed feed tool (At p)) (form_block (HeightMotion mode.Feed q.z) ∷ bs) (AtFeed p r feed speed tool ∷ acts))
    (same_point there q across along refl)
    (λ later. (rw (differ, equal_test p.x, equal_test p.y, are.tool_is, are.feed_is, are.speed_is) refl, (acts, refl, later (Some mode.Feed)))) next

known_run : (speed feed tool : ℕ) → AreSet speed feed tool → (p : Pt3) (motion : Option MotionMode) (move : Move) (bs : List Block) (acts : List Act)
    → IsHorizontalOrVertical p (end_of move) → RunsOn speed feed tool (At (end_of move)) bs acts
    → RunsTo (working motion speed feed tool (At p)) (form_block (move_form (At p) move) ∷ bs) (move_act speed feed tool (At p) move ∷ acts)
known_run speed feed tool are p motion move bs acts straight next =
    by_test (int_eq p.z (end_of move).z)
    (RunsTo (working motion speed feed tool (At p)) (form_block (move_form (At p) move) ∷ bs) (move_act speed feed tool (At p) move ∷ acts))
    (λ same. rw same (plane_run speed feed tool are motion p move bs acts ((Decides-int_eq p.z (end_of move).z).0 same) next))
    (λ other.
    let differ : p.z ≢ (end_of move).z = λ e. let met = (Decides-int_eq p.z (end_of move).z).1 e in let both : false ≡ true = sym other ∙ met in cc in
    rw other (⊎_elim {C = RunsTo (working motion speed feed tool (At p)) (form_block (HeightMotion (mode_of move) (end_of move).z) ∷ bs) (move_act speed feed tool (At p) move ∷ acts)} (λ level. absurd (differ level)) (λ (across, along). height_run speed feed tool are motion p move bs acts across along differ next) straight))

move_run : (speed feed tool : ℕ) → AreSet speed feed tool → (tip : Tip) (motion : Option MotionMode) (move : Move) (bs : List Block) (acts : List Act)
    → MayMove tip move → RunsOn speed feed tool (tip_after tip (end_of move)) bs acts
    → RunsTo (working motion speed feed tool tip) (form_block (move_form tip move) ∷ bs) (move_act speed feed tool tip move ∷ acts)
move_run speed feed tool are Unknown motion move bs acts may next = absurd may
move_run speed feed tool are (Height z) motion (Rapid q) bs acts may next =
    subst (λ h. RunsTo (working motion speed feed tool (Height h)) (form_block (PlaneMotion mode.Rapid q.x q.y) ∷ bs) (Locate q ∷ acts)) (sym may)
    (rw (equal_test q.z, are.tool_is) refl, (acts, refl, next (Some mode.Rapid)))
move_run speed feed tool are (Height z) motion (Feed q) bs acts may next = absurd may
move_run speed feed tool are (At p) motion move bs acts may next = known_run speed feed tool are p motion move bs acts may.straight next

-- The machine runs the lines of straight moves from a tip, and is between moves again.
pub moves_run : (speed feed tool : ℕ) → AreSet speed feed tool → (tip : Tip) (moves : List Move) (bs : List Block) (acts : List Act)
    → AreStraight tip moves → RunsOn speed feed tool (tip_after_moves tip moves) bs acts
    → RunsOn speed feed tool tip (map form_block (move_forms tip moves) ++ bs) (move_acts speed feed tool tip moves ++ acts)
moves_run speed feed tool are tip [] bs acts straight next motion = next motion
moves_run speed feed tool are tip (move ∷ moves) bs acts straight next motion =
    move_run speed feed tool are tip motion move _ _ straight.0
    (moves_run speed feed tool are (tip_after tip (end_of move)) moves bs acts straight.1 next)
