-- The plan of a job, step by step.
use Rattle.std.proofs.Common.{ℕ, ◌≡◌, Option, Some, List, [], ◌∷◌, ◌++◌, refl, sym, subst, ◌∙◌}
use Rattle.std.specs.Prelude.{Contains}
use Rattle.sn_geom.specs.declared.tip.Tip.{Tip}
use Rattle.sn_outline.specs.Job.{Job}
use Rattle.sn_outline.specs.JobRule.{IsJob}
use Rattle.sn_outline.specs.declared.job.StepJob.{StepJob}
use Rattle.sn_raster.specs.Grid.{Grid}
use Rattle.sn_raster.specs.Heights.{Pass, StandsFor}
use Rattle.sn_link.specs.declared.moves.Move.{Move}
use Rattle.sn_open.specs.declared.stroke.Stroke.{Stroke}
use Rattle.sn_link.specs.declared.planner.Progress.{Progress}
use Rattle.sn_link.specs.declared.step_plan.Planned.{Planned}
use Rattle.sn_link.specs.Counts.{AreCounts, IsRemoved, strokes_in}
use Rattle.sn_link.specs.Moves.{AreStraight, is_in_spindle, tip_for, tool_after, tip_after_moves, tip_after_step}
use Rattle.sn_link.specs.Plan.{IsStepPlan, passes_by}
use Rattle.sn_link.specs.Planner.{ArePlanesOver, IsAfter, IsPlannedFrom}
use Rattle.sn_link.specs.Safe.{IsAtSecurity}
use Rattle.sn_link.proofs.MovesLemmas.{by_test}
use Rattle.sn_link.specs.SafeLaws.{IsPlanned, PlannedMovesAreStraight, PlannedMovesEndAbove}

-- a step after moves begins where they end, or at the security height
begins_above : (job : Job) (tool : Option ℕ) (tip : Tip) (step : StepJob) → IsAtSecurity job tip → IsAtSecurity job (tip_for job tool tip step)
begins_above job tool tip step above =
    by_test (is_in_spindle tool step.tool) (IsAtSecurity job (tip_for job tool tip step))
    (λ same. rw same above)
    (λ other. rw other refl)

begins_after : (job : Job) (tool : Option ℕ) (tip : Tip) (step : StepJob) (moves : List Move)
    → ((s : StepJob) → IsAtSecurity job (tip_for job tool tip s)) → IsAtSecurity job (tip_after_moves (tip_for job tool tip step) moves)
    → (s : StepJob) → IsAtSecurity job (tip_for job (tool_after tool step moves) (tip_after_step job tool tip step moves) s)
begins_after job tool tip step [] before above s = before s
begins_after job tool tip step (move ∷ moves) before above s = begins_above job (Some step.tool) (tip_after_moves (tip_for job tool tip step) (move ∷ moves)) s above

-- a step is planned and then cut
pub after_step : PlannedMovesEndAbove → (g : Grid) (job : Job) → IsJob job → (passes : List Pass) (step : StepJob) (tip : Tip) (moves cut : List Move) (before planned after : Progress)
    → Contains job.steps step → tip ≡ tip_for job before.tool before.tip step → cut ≡ moves
    → IsAfter g job passes before → IsStepPlan job step passes tip moves
    → planned.tool ≡ before.tool → planned.tip ≡ before.tip → IsAfter g job passes planned
    → after.planes ≡ planned.planes → after.heights.grid ≡ planned.heights.grid
    → StandsFor after.heights job (passes ++ passes_by step.body tip cut)
    → after.tool ≡ tool_after planned.tool step cut → after.tip ≡ tip_after_step job planned.tool planned.tip step cut
    → IsAfter g job (passes ++ passes_by step.body (tip_for job before.tool before.tip step) moves) after
after_step end_above g job rule passes step tip moves cut before planned after executed tip_is same at_first plan same_tool same_tip kept planes heights material tool_is tip_then =
    let planned_there : IsPlanned job step passes (tip_for job before.tool before.tip step) moves = record {
      rule = rule;
      executed = executed;
      above = at_first.above step;
      planned = subst (λ t. IsStepPlan job step passes t moves) tip_is plan;
    } in
    let ends = end_above job step passes (tip_for job before.tool before.tip step) moves planned_there in
    record {
      heights = heights ∙ kept.heights;
      planes = subst (ArePlanesOver g) (sym planes) kept.planes;
      material = subst (λ t. StandsFor after.heights job (passes ++ passes_by step.body t moves)) tip_is
          (subst (λ ms. StandsFor after.heights job (passes ++ passes_by step.body tip ms)) same material);
      above = λ s. rw (tool_is, tip_then, same_tool, same_tip, same) (begins_after job before.tool before.tip step moves at_first.above ends s);
    }

-- the moves that are cut are straight
pub cut_straight : PlannedMovesAreStraight → (g : Grid) (job : Job) → IsJob job → (step : StepJob) (tip : Tip) (moves cut : List Move) (before : Progress)
    → Contains job.steps step → tip ≡ tip_for job before.tool before.tip step → cut ≡ moves → (passes : List Pass) × IsAfter g job passes before
    → ((passes : List Pass) → IsAfter g job passes before → IsStepPlan job step passes tip moves) → AreStraight tip cut
cut_straight straight g job rule step tip moves cut before executed tip_is same (passes, at_first) plan =
    let planned_there : IsPlanned job step passes tip moves = record {
      rule = rule;
      executed = executed;
      above = rw tip_is (at_first.above step);
      planned = plan passes at_first;
    } in
    rw same (straight job step passes tip moves planned_there)

-- what is planned along strokes from a place, with their number, is planned from the tip there
pub planned_from : (job : Job) (step : StepJob) (passes : List Pass) (at tip : Tip) (planned : Planned) (strokes : List Stroke) (moves : List Move) (same : List Stroke) (count : ℕ)
    → at ≡ tip → moves ≡ planned.moves → same ≡ strokes → count ≡ strokes_in moves same
    → IsStepPlan job step passes at planned.moves → AreCounts job step passes planned.moves (strokes_in planned.moves strokes) planned.layers planned.lifts
    → IsPlannedFrom job step passes tip planned count
planned_from job step passes at tip planned strokes moves same count there moves_are strokes_are count_is plan counts = record {
  plan = subst (λ t. IsStepPlan job step passes t planned.moves) there plan;
  counts = subst (λ n. AreCounts job step passes planned.moves n planned.layers planned.lifts)
      (sym (count_is ∙ (λ i. strokes_in (moves_are i) (strokes_are i)))) counts;
}

pub removed_as : (job : Job) (step : StepJob) (passes : List Pass) (at tip : Tip) (moves cut : List Move) (cells : ℕ) → at ≡ tip → cut ≡ moves
    → IsRemoved job step passes at cut cells → IsRemoved job step passes tip moves cells
removed_as job step passes at tip moves cut cells there same removed =
    subst (λ t. IsRemoved job step passes t moves cells) there (subst (λ ms. IsRemoved job step passes at ms cells) same removed)
