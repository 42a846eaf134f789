-- The steps of a plan, each planned after the passes of those before it.
use Rattle.std.proofs.Common.{ℕ, suc, List, [], ◌∷◌, ◌++◌, map, Option, None, Some, refl, sym, subst, arith, append-nil}
use Rattle.std.specs.Prelude.{Contains, ◌==◌}
use Rattle.sn_geom.specs.declared.tip.Tip.{Tip}
use Rattle.sn_geom.specs.declared.tip.Tip.TheVariants.{Unknown}
use Rattle.sn_outline.specs.Job.{Job}
use Rattle.sn_outline.specs.JobRule.{IsJob}
use Rattle.sn_outline.specs.declared.job.StepJob.{StepJob}
use Rattle.sn_raster.specs.Heights.{Pass}
use Rattle.sn_link.specs.declared.moves.Move.{Move}
use Rattle.sn_link.specs.Moves.{tip_for, tool_after, tip_after_moves, tip_after_step}
use Rattle.sn_link.specs.Plan.{IsStepPlan, passes_by, ArePlans, IsPlan}
use Rattle.sn_link.specs.Safe.{IsAtSecurity}
use Rattle.sn_link.specs.SafeLaws.{IsPlanned, PlannedMovesEndAbove}
use Rattle.sn_link.proofs.MovesLemmas.{by_test}

-- the steps of a plan
abbrev pub steps_of : List (StepJob × List Move) → List StepJob
steps_of plan = map (λ (planned : StepJob × List Move). planned.0) plan

-- each step is planned after the passes of those before it, from these passes, this tool and this tip on
abbrev pub AreEachPlanned : Job → List Pass → Option ℕ → Tip → List (StepJob × List Move) → Type 0
AreEachPlanned job passes tool tip [] = Unit {0}
AreEachPlanned job passes tool tip ((step, moves) ∷ later) =
    IsPlanned job step passes (tip_for job tool tip step) moves
    × AreEachPlanned job (passes ++ passes_by step.body (tip_for job tool tip step) moves) (tool_after tool step moves) (tip_after_step job tool tip step moves) later

-- a tool that is in the spindle is at the security height
abbrev IsReady : Job → Option ℕ → Tip → Type 0
IsReady job None tip = Unit {0}
IsReady job (Some tool) tip = IsAtSecurity job tip

begins_above : (job : Job) (tool : Option ℕ) (tip : Tip) (step : StepJob) → IsReady job tool tip → IsAtSecurity job (tip_for job tool tip step)
begins_above job None tip step ready = refl
begins_above job (Some tool) tip step ready =
    by_test (tool == step.tool) (IsAtSecurity job (tip_for job (Some tool) tip step)) (λ same. rw same ready) (λ other. rw other refl)

pub here : {X : Type 0} (x : X) (xs : List X) → Contains (x ∷ xs) x
here x xs = (0, omega arith, refl)

pub there : {X : Type 0} (x y : X) (xs : List X) → Contains xs y → Contains (x ∷ xs) y
there x y xs (k, below, is) = (suc k, omega arith, is)

-- the steps are all executed in the job
abbrev AreExecuted : Job → List StepJob → Type 0
AreExecuted job steps = (step : StepJob) → Contains steps step → Contains job.steps step

planned_next : (job : Job) (step : StepJob) (passes : List Pass) (tool : Option ℕ) (tip : Tip) (moves : List Move) (later : List StepJob)
    → IsJob job → IsReady job tool tip → AreExecuted job (step ∷ later) → IsStepPlan job step passes (tip_for job tool tip step) moves
    → IsPlanned job step passes (tip_for job tool tip step) moves
planned_next job step passes tool tip moves later rule ready executed plan = record {
  rule = rule;
  executed = executed step (here step later);
  above = begins_above job tool tip step ready;
  planned = plan;
}

each_planned : (job : Job) (passes : List Pass) (tool : Option ℕ) (tip : Tip) (plan : List (StepJob × List Move))
    → PlannedMovesEndAbove → IsJob job → IsReady job tool tip → AreExecuted job (steps_of plan) → ArePlans job passes tool tip plan
    → AreEachPlanned job passes tool tip plan
each_planned job passes tool tip [] end_above rule ready executed plans = tt
each_planned job passes tool tip ((step, []) ∷ later) end_above rule ready executed plans = (
  planned_next job step passes tool tip [] (steps_of later) rule ready executed plans.0,
  subst (λ (ps : List Pass). AreEachPlanned job ps tool tip later) (sym (append-nil passes))
      (each_planned job passes tool tip later end_above rule ready (λ s inside. executed s (there step s (steps_of later) inside)) plans.1),
)
each_planned job passes tool tip ((step, move ∷ moves) ∷ later) end_above rule ready executed plans =
    let at = tip_for job tool tip step in
    let planned = planned_next job step passes tool tip (move ∷ moves) (steps_of later) rule ready executed plans.0 in (
      planned,
      each_planned job (passes ++ passes_by step.body at (move ∷ moves)) (Some step.tool) (tip_after_moves at (move ∷ moves)) later end_above rule
          (end_above job step passes at (move ∷ moves) planned)
          (λ s inside. executed s (there step s (steps_of later) inside))
          plans.1,
    )

-- each step of the plan of a job is planned after the passes of those before it
pub steps_planned : (job : Job) (plan : List (StepJob × List Move)) → PlannedMovesEndAbove → IsJob job → IsPlan job plan
    → AreEachPlanned job [] None Unknown plan
steps_planned job plan end_above rule is =
    each_planned job [] None Unknown plan end_above rule tt (λ step inside. subst (λ (steps : List StepJob). Contains steps step) is.steps inside) is.moves
