-- The plan of a job: the steps so far, and one more.
use Rattle.std.proofs.Common.{ℕ, ◌≡◌, ◌+◌, ◌<◌, ◌≤◌, Option, None, List, [], ◌∷◌, ◌++◌, length, take, get_or, map, refl, sym, ap, subst, ◌∙◌, append_assoc, append-nil, length-append, arith}
use Rattle.std.specs.List.{All}
use Rattle.std.proofs.lemmas.List.{take_more, take_all, length-take-le, length-map, map-append}
use Rattle.std.proofs.lemmas.List.Elements.{All-push}
use Rattle.sn_geom.specs.declared.tip.Tip.{Tip}
use Rattle.sn_geom.specs.declared.tip.Tip.TheVariants.{Unknown}
use Rattle.sn_outline.specs.Job.{Job}
use Rattle.sn_outline.specs.declared.job.StepJob.{StepJob}
use Rattle.sn_raster.specs.Grid.{Grid}
use Rattle.sn_raster.specs.Heights.{Pass}
use Rattle.sn_link.specs.declared.moves.Move.{Move}
use Rattle.sn_link.specs.declared.planner.PlannedStep.{PlannedStep}
use Rattle.sn_link.specs.declared.planner.Progress.{Progress}
use Rattle.sn_link.specs.Counts.{AreCountedPlans, IsCountedStep, moves_of}
use Rattle.sn_link.specs.Moves.{tip_for, tool_after, tip_after_step}
use Rattle.sn_link.specs.Plan.{ArePlans, IsPlan, IsStepPlan, passes_by, with_moves}
use Rattle.sn_link.specs.Planner.{IsAfter}
use Rattle.sn_link.specs.Safe.{AreWithin}

abbrev pub Planned : Type 0
Planned = StepJob × List Move

-- Steps, each with its moves.

pub steps_of : (steps : List StepJob) (plans : List (List Move)) → map (λ (planned : Planned). planned.0) (with_moves steps plans) ≡ steps
steps_of [] plans = refl
steps_of (step ∷ steps) [] = ap (λ (l : List StepJob). step ∷ l) (steps_of steps [])
steps_of (step ∷ steps) (moves ∷ plans) = ap (λ (l : List StepJob). step ∷ l) (steps_of steps plans)

with_last : (steps : List StepJob) (plans : List (List Move)) (step : StepJob) (moves : List Move) → length steps ≡ length plans
    → with_moves (steps ++ step ∷ []) (plans ++ moves ∷ []) ≡ with_moves steps plans ++ (step, moves) ∷ []
with_last [] [] step moves same = refl
with_last [] (p ∷ ps) step moves same = absurd (omega arith)
with_last (s ∷ ss) [] step moves same = absurd (omega arith)
with_last (s ∷ ss) (p ∷ ps) step moves same = ap (λ (l : List Planned). (s, p) ∷ l) (with_last ss ps step moves (omega arith))

with_more : (steps : List StepJob) (plans : List (List Move)) (k : ℕ) (step : StepJob) (moves : List Move) (later : List Planned)
    → length plans ≡ k → k < length steps → step ≡ get_or steps k step
    → with_moves (take (k + 1) steps) (plans ++ moves ∷ []) ++ later ≡ with_moves (take k steps) plans ++ (step, moves) ∷ later
with_more steps plans k step moves later each inside is =
    let front : take (k + 1) steps ≡ take k steps ++ step ∷ [] = take_more steps k step inside ∙ ap (λ s. take k steps ++ s ∷ []) (sym is) in
    let long : length (take k steps) ≡ length plans = length-take-le k steps (omega arith) ∙ sym each in
    ap (λ ss. with_moves ss (plans ++ moves ∷ []) ++ later) front
    ∙ ap (λ l. l ++ later) (with_last (take k steps) plans step moves long)
    ∙ append_assoc (with_moves (take k steps) plans) ((step, moves) ∷ []) later

-- Plans.

first_planned : (job : Job) (passes : List Pass) (tool : Option ℕ) (tip : Tip) (step : StepJob) (moves : List Move) (later : List Planned)
    → IsStepPlan job step passes (tip_for job tool tip step) moves
    → ArePlans job (passes ++ passes_by step.body (tip_for job tool tip step) moves) (tool_after tool step moves) (tip_after_step job tool tip step moves) later
    → ArePlans job passes tool tip ((step, moves) ∷ later)
first_planned job passes tool tip step [] later plan rest = (plan, subst (λ ps. ArePlans job ps tool tip later) (append-nil passes) rest)
first_planned job passes tool tip step (move ∷ moves) later plan rest = (plan, rest)

-- one planned step more
moves_with_last : (plans more : List PlannedStep) (planned : PlannedStep) → more ≡ plans ++ planned ∷ [] → moves_of more ≡ moves_of plans ++ planned.moves ∷ []
moves_with_last plans more planned pushed = ap moves_of pushed ∙ map-append (λ (p : PlannedStep). p.moves) plans (planned ∷ [])

as_many : (plans : List PlannedStep) (k : ℕ) → length plans ≡ k → length (moves_of plans) ≡ k
as_many plans k each = length-map plans (λ (p : PlannedStep). p.moves) ∙ each

-- The first k steps of these are planned, and what is kept is that after their passes: plans of later steps from there on
-- make plans of all.
pub record ArePlanned (g : Grid) (job : Job) (steps : List StepJob) (k : ℕ) (plans : List PlannedStep) (progress : Progress) : Type 0 where
  pub passes : List Pass
  pub after : IsAfter g job passes progress
  pub so_far : (later : List Planned) → ArePlans job passes progress.tool progress.tip later
      → ArePlans job [] None Unknown (with_moves (take k steps) (moves_of plans) ++ later)
  pub counted : (later : List StepJob) (more : List PlannedStep) → AreCountedPlans job passes progress.tool progress.tip later more
      → AreCountedPlans job [] None Unknown (take k steps ++ later) (plans ++ more)
  pub each : length plans ≡ k
  pub within : All AreWithin (moves_of plans)

pub none_planned : (g : Grid) (job : Job) (steps : List StepJob) (plans : List PlannedStep) (progress : Progress) → plans ≡ [] → IsAfter g job [] progress
    → progress.tool ≡ None → progress.tip ≡ Unknown → ArePlanned g job steps 0 plans progress
none_planned g job steps plans progress none after tool tip = rw none (record {
  passes = [];
  after = after;
  so_far = λ later planned. rw (tool, tip) at planned;
  counted = λ later more are. rw (tool, tip) at are;
  each = refl;
  within = λ k d inside. absurd (omega (arith, inside));
})

module _ (g : Grid) (job : Job) (steps : List StepJob) (k : ℕ) (step : StepJob) (plans more : List PlannedStep) (planned : PlannedStep) (before after : Progress) where
  next_planned : k < length steps → step ≡ get_or steps k step
      → ((passes : List Pass) → IsAfter g job passes before → IsStepPlan job step passes (tip_for job before.tool before.tip step) planned.moves)
      → after.tool ≡ tool_after before.tool step planned.moves → after.tip ≡ tip_after_step job before.tool before.tip step planned.moves
      → (so_far : ArePlanned g job steps k plans before) (later : List Planned)
      → ArePlans job (so_far.passes ++ passes_by step.body (tip_for job before.tool before.tip step) planned.moves) after.tool after.tip later
      → ArePlans job [] None Unknown (with_moves (take (k + 1) steps) (moves_of plans ++ planned.moves ∷ []) ++ later)
  next_planned inside is plan tool tip so_far later are =
      let rest = rw (tool, tip) at are in
      subst (ArePlans job [] None Unknown) (sym (with_more steps (moves_of plans) k step planned.moves later (as_many plans k so_far.each) inside is))
      (so_far.so_far ((step, planned.moves) ∷ later)
      (first_planned job so_far.passes before.tool before.tip step planned.moves later (plan so_far.passes so_far.after) rest))

  next_counted : k < length steps → step ≡ get_or steps k step
      → ((passes : List Pass) → IsAfter g job passes before → IsCountedStep job step passes (tip_for job before.tool before.tip step) planned)
      → after.tool ≡ tool_after before.tool step planned.moves → after.tip ≡ tip_after_step job before.tool before.tip step planned.moves
      → (so_far : ArePlanned g job steps k plans before) (later : List StepJob) (rest : List PlannedStep)
      → AreCountedPlans job (so_far.passes ++ passes_by step.body (tip_for job before.tool before.tip step) planned.moves) after.tool after.tip later rest
      → AreCountedPlans job [] None Unknown (take (k + 1) steps ++ later) ((plans ++ planned ∷ []) ++ rest)
  next_counted inside is counts tool tip so_far later rest are =
      let here = rw (tool, tip) at are in
      let front : take (k + 1) steps ++ later ≡ take k steps ++ step ∷ later =
      ap (λ (s : List StepJob). s ++ later) (take_more steps k step inside ∙ ap (λ (s : StepJob). take k steps ++ s ∷ []) (sym is)) ∙ append_assoc (take k steps) (step ∷ []) later in
      rw (front, append_assoc plans (planned ∷ []) rest)
      (so_far.counted (step ∷ later) (planned ∷ rest) (counts so_far.passes so_far.after, here))

  pub one_planned : k < length steps → step ≡ get_or steps k step → more ≡ plans ++ planned ∷ []
      → ((passes : List Pass) → IsAfter g job passes before → IsStepPlan job step passes (tip_for job before.tool before.tip step) planned.moves)
      → ((passes : List Pass) → IsAfter g job passes before → IsCountedStep job step passes (tip_for job before.tool before.tip step) planned)
      → ((passes : List Pass) → IsAfter g job passes before
      → IsAfter g job (passes ++ passes_by step.body (tip_for job before.tool before.tip step) planned.moves) after)
      → after.tool ≡ tool_after before.tool step planned.moves → after.tip ≡ tip_after_step job before.tool before.tip step planned.moves → AreWithin planned.moves
      → ArePlanned g job steps k plans before → ArePlanned g job steps (k + 1) more after
  one_planned inside is pushed plan counts then tool tip within so_far = record {
    passes = so_far.passes ++ passes_by step.body (tip_for job before.tool before.tip step) planned.moves;
    after = then so_far.passes so_far.after;
    so_far = λ later are.
        subst (λ (ms : List (List Move)). ArePlans job [] None Unknown (with_moves (take (k + 1) steps) ms ++ later)) (sym (moves_with_last plans more planned pushed))
        (next_planned inside is plan tool tip so_far later are);
    counted = λ later rest are.
        subst (λ (ps : List PlannedStep). AreCountedPlans job [] None Unknown (take (k + 1) steps ++ later) (ps ++ rest)) (sym pushed)
        (next_counted inside is counts tool tip so_far later rest are);
    each = ap (λ (ps : List PlannedStep). length ps) pushed ∙ length-append plans (planned ∷ []) ∙ ap (λ n. n + 1) so_far.each;
    within = subst (λ (ms : List (List Move)). All AreWithin ms) (sym (moves_with_last plans more planned pushed))
        (All-push AreWithin (moves_of plans) planned.moves so_far.within within);
  }

module _ (g : Grid) (job : Job) (steps : List StepJob) (k : ℕ) (plans : List PlannedStep) (progress : Progress) (same : steps ≡ job.steps) (end : length steps ≤ k)
    (all : ArePlanned g job steps k plans progress) where
  pub all_planned : IsPlan job (with_moves job.steps (moves_of plans))
  all_planned = record {
    steps = steps_of job.steps (moves_of plans);
    moves = subst (λ (ss : List StepJob). ArePlans job [] None Unknown (with_moves ss (moves_of plans))) (take_all k steps end ∙ same)
        (subst (ArePlans job [] None Unknown) (append-nil (with_moves (take k steps) (moves_of plans))) (all.so_far [] tt));
  }

  pub all_counted : AreCountedPlans job [] None Unknown job.steps plans
  all_counted =
      subst (λ (ss : List StepJob). AreCountedPlans job [] None Unknown ss plans) (append-nil (take k steps) ∙ take_all k steps end ∙ same)
      (subst (λ (ps : List PlannedStep). AreCountedPlans job [] None Unknown (take k steps ++ []) ps) (append-nil plans) (all.counted [] [] refl))
