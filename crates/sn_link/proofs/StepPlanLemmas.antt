-- The plan of a step by its strokes and the height over which no material is left.
use Rattle.std.proofs.Common.{◌≡◌, inl, inr, List, [], ℤ, ◌≤ℤ◌, sym, subst}
use Rattle.std.specs.Prelude.{Contains}
use Rattle.sn_geom.specs.declared.tip.Tip.{Tip}
use Rattle.sn_outline.specs.Job.{Job, tip_floor}
use Rattle.sn_outline.specs.JobRule.{IsJob, IsProper}
use Rattle.sn_outline.specs.declared.job.StepJob.{StepJob}
use Rattle.sn_raster.specs.Heights.{Pass}
use Rattle.sn_open.specs.declared.stroke.Stroke.{Stroke}
use Rattle.sn_clear.specs.ClearingLaws.{SameNodesSameStrokes}
use Rattle.sn_link.specs.declared.moves.Move.{Move}
use Rattle.sn_link.specs.declared.step_plan.Planned.{Planned}
use Rattle.sn_link.specs.Counts.{AreCounts, strokes_in}
use Rattle.sn_link.specs.Layering.{IsCutAs}
use Rattle.sn_link.specs.Layers.{AreStrokes}
use Rattle.sn_link.specs.Plan.{IsHighest, IsStepPlan}
use Rattle.sn_link.specs.Safe.{IsAtSecurity}
use Rattle.sn_link.proofs.CountLemmas.{counted}

pub proper_of : (job : Job) (step : StepJob) → IsJob job → Contains job.steps step → IsProper step
proper_of job step rule (k, below, same) = subst IsProper same (rule.proper k step below)

module _ (job : Job) (step : StepJob) (passes : List Pass) (tip : Tip) (strokes : List Stroke) (above : ℤ) (highest : IsHighest job step passes above) (are : AreStrokes job step strokes) where
  pub rests_low : (moves : List Move) → above ≤ℤ tip_floor step → moves ≡ [] → IsStepPlan job step passes tip moves
  rests_low moves low none = record { above = above; highest = highest; strokes = strokes; strokes_are = are; moves_are = inl (inl low, none) }

  pub rests_without : (moves : List Move) → strokes ≡ [] → moves ≡ [] → IsStepPlan job step passes tip moves
  rests_without moves no_strokes none = record { above = above; highest = highest; strokes = strokes; strokes_are = are; moves_are = inl (inr no_strokes, none) }

  pub cut_by : (at : Tip) (planned : Planned) → at ≡ tip → IsCutAs job step strokes above at planned → IsStepPlan job step passes tip planned.moves
  cut_by at planned same as_cut =
      subst (λ t. IsStepPlan job step passes t planned.moves) same
      (record { above = above; highest = highest; strokes = strokes; strokes_are = are; moves_are = inr as_cut.cut })

  pub counts_by : SameNodesSameStrokes → (at : Tip) (planned : Planned) → IsJob job → Contains job.steps step → IsAtSecurity job tip → at ≡ tip → IsCutAs job step strokes above at planned
      → AreCounts job step passes planned.moves (strokes_in planned.moves strokes) planned.layers planned.lifts
  counts_by same_strokes at planned rule executed at_security same as_cut =
      let own = proper_of job step rule executed in
      counted job step passes same_strokes strokes above at planned rule own.depths.axial_at_least (subst (IsAtSecurity job) (sym same) at_security) highest are as_cut
