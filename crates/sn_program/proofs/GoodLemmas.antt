-- The program of a plan is good for its job.
use Rattle.std.proofs.Common.{ℕ, zero, suc, ◌≡◌, ◌+◌, List, [], ◌∷◌, ◌++◌, map, drop, Option, None, Some, length, sym, ap, subst, ◌∙◌, arith, append_assoc, append-nil}
use Rattle.std.specs.Prelude.{Contains, slice_get}
use Rattle.std.proofs.lemmas.List.Elements.{Contains-append_right}
use Rattle.sn_geom.specs.Acts.{Act}
use Rattle.sn_geom.specs.Acts.Act.{End}
use Rattle.sn_geom.specs.declared.tip.Tip.{Tip}
use Rattle.sn_geom.specs.declared.tip.Tip.TheVariants.{Unknown}
use Rattle.sn_geom.specs.declared.units.Cell.{Cell}
use Rattle.sn_outline.specs.Job.{Job}
use Rattle.sn_outline.specs.declared.job.StepJob.{StepJob}
use Rattle.sn_raster.specs.Heights.{node_of, Pass, IsMaterial}
use Rattle.sn_open.specs.Good.{marks, passes, IsLeft, AreGood}
use Rattle.sn_open.specs.Reach.{IsOpenCell, IsReachable}
use Rattle.sn_open.specs.Region.{IsRequiredNode}
use Rattle.sn_open.proofs.PassLemmas.{cut_stays_cut, marks_append}
use Rattle.sn_link.specs.declared.moves.Move.{Move}
use Rattle.sn_link.specs.Moves.{tip_for, tool_after, tip_after_step}
use Rattle.sn_link.specs.Plan.{IsPlan}
use Rattle.sn_link.specs.SafeLaws.{IsPlanned, PlannedMovesAreSafe, PlannedMovesEndAbove, PlannedMovesCutTheTargets}
use Rattle.sn_program.specs.GoodLaws.{PlansAreGood}
use Rattle.sn_program.specs.PlanActs.{step_acts, steps_acts, program_acts}
use Rattle.sn_program.proofs.ActLemmas.{one_more_mark, passes_after, steps_mark, EachRight, each_append, right_everywhere, step_right}
use Rattle.sn_program.proofs.PlannedLemmas.{steps_of, AreEachPlanned, here, steps_planned}
use Rattle.sn_program.proofs.StepLines.{program_means}

-- The steps behind those that are done.

next_is : (steps : List StepJob) (k : ℕ) (step : StepJob) (later : List StepJob) → drop k steps ≡ step ∷ later → slice_get steps k ≡ Some step
next_is [] zero step later e = absurd (cc)
next_is [] (suc k) step later e = absurd (cc)
next_is (s ∷ ss) zero step later e = cc
next_is (s ∷ ss) (suc k) step later e = next_is ss k step later e

left_behind : (steps : List StepJob) (k : ℕ) (step : StepJob) (later : List StepJob) → drop k steps ≡ step ∷ later → drop (k + 1) steps ≡ later
left_behind [] zero step later e = absurd (cc)
left_behind [] (suc k) step later e = absurd (cc)
left_behind (s ∷ ss) zero step later e = cc
left_behind (s ∷ ss) (suc k) step later e =
    let more : suc k + 1 ≡ suc (k + 1) = omega arith in ap (λ (n : ℕ). drop n (s ∷ ss)) more ∙ left_behind ss k step later e

-- what is done marks all steps but these
abbrev HasNext : Job → List Act → List StepJob → Type 0
HasNext job done steps = drop (length (marks done)) job.steps ≡ steps

has_later : (job : Job) (tool : Option ℕ) (tip : Tip) (step : StepJob) (moves : List Move) (later : List StepJob) (done : List Act)
    → HasNext job done (step ∷ later) → HasNext job (done ++ step_acts job tool tip step moves) later
has_later job tool tip step moves later done next =
    ap (λ (n : ℕ). drop n job.steps) (one_more_mark job tool tip step moves done) ∙ left_behind job.steps (length (marks done)) step later next

-- the later steps are planned after the acts of a step
planned_later : (job : Job) (tool : Option ℕ) (tip : Tip) (step : StepJob) (moves : List Move) (later : List (StepJob × List Move)) (done : List Act)
    → AreEachPlanned job (passes job.steps done) tool tip ((step, moves) ∷ later)
    → AreEachPlanned job (passes job.steps (done ++ step_acts job tool tip step moves)) (tool_after tool step moves) (tip_after_step job tool tip step moves) later
planned_later job tool tip step moves later done planned =
    subst (λ (ps : List Pass). AreEachPlanned job ps (tool_after tool step moves) (tip_after_step job tool tip step moves) later)
    (sym (passes_after job tool tip step moves done planned.0.rule planned.0.executed)) planned.1

-- Each act is right after those before it.

steps_right : (job : Job) (tool : Option ℕ) (tip : Tip) (plan : List (StepJob × List Move)) (done : List Act) → PlannedMovesAreSafe
    → HasNext job done (steps_of plan) → AreEachPlanned job (passes job.steps done) tool tip plan → EachRight job done (steps_acts job tool tip plan)
steps_right job tool tip [] done safe next planned = tt
steps_right job tool tip ((step, moves) ∷ later) done safe next planned =
    let acts = step_acts job tool tip step moves in
    let own : IsPlanned job step (passes job.steps done) (tip_for job tool tip step) moves = planned.0 in
    each_append job done acts (steps_acts job (tool_after tool step moves) (tip_after_step job tool tip step moves) later)
    (step_right job tool tip step moves done own.rule own.executed (next_is job.steps (length (marks done)) step (steps_of later) next)
    (safe job step (passes job.steps done) (tip_for job tool tip step) moves own))
    (steps_right job (tool_after tool step moves) (tip_after_step job tool tip step moves) later (done ++ acts) safe
    (has_later job tool tip step moves (steps_of later) done next)
    (planned_later job tool tip step moves later done planned))

-- Nothing is left of what steps open over required nodes.

-- the step opens the cell, which is over a node that its feature requires
abbrev IsTarget : Job → StepJob → Cell → Type 0
IsTarget job step c = IsOpenCell job step c × IsRequiredNode job step.feature (node_of c)

-- a step with its moves cuts these cells
own_cut : (job : Job) (tool : Option ℕ) (tip : Tip) (step : StepJob) (moves : List Move) (done : List Act) (c : Cell) → PlannedMovesCutTheTargets
    → IsPlanned job step (passes job.steps done) (tip_for job tool tip step) moves → IsTarget job step c
    → ¬ IsLeft job (done ++ step_acts job tool tip step moves) c
own_cut job tool tip step moves done c cut planned opened left =
    cut job step (passes job.steps done) (tip_for job tool tip step) moves planned c opened.0 opened.1
    (subst (λ (ps : List Pass). IsMaterial job ps c) (passes_after job tool tip step moves done planned.rule planned.executed) left)

three_parts : (a b c d : List Act) → a ++ ((b ++ c) ++ d) ≡ (a ++ b) ++ (c ++ d)
three_parts a b c d = simp append_assoc

steps_cut : (job : Job) (tool : Option ℕ) (tip : Tip) (plan : List (StepJob × List Move)) (done rest : List Act) (step : StepJob) (c : Cell)
    → PlannedMovesCutTheTargets → AreEachPlanned job (passes job.steps done) tool tip plan → Contains (steps_of plan) step → IsTarget job step c
    → ¬ IsLeft job (done ++ (steps_acts job tool tip plan ++ rest)) c
steps_cut job tool tip [] done rest step c cut planned (k, below, is) opened left = absurd (omega arith)
steps_cut job tool tip ((first, moves) ∷ later) done rest step c cut planned (zero, below, is) opened left =
    let acts = step_acts job tool tip first moves in
    let next = steps_acts job (tool_after tool first moves) (tip_after_step job tool tip first moves) later in
    let own = subst (λ (s : StepJob). IsTarget job s c) (sym is) opened in
    own_cut job tool tip first moves done c cut planned.0 own
    (cut_stays_cut job (done ++ acts) (next ++ rest) c (subst (λ (all : List Act). IsLeft job all c) (three_parts done acts next rest) left))
steps_cut job tool tip ((first, moves) ∷ later) done rest step c cut planned (suc k, below, is) opened left =
    let acts = step_acts job tool tip first moves in
    let next = steps_acts job (tool_after tool first moves) (tip_after_step job tool tip first moves) later in
    steps_cut job (tool_after tool first moves) (tip_after_step job tool tip first moves) later (done ++ acts) rest step c cut
    (planned_later job tool tip first moves later done planned) (k, omega arith, is) opened
    (subst (λ (all : List Act). IsLeft job all c) (three_parts done acts next rest) left)

-- The program.

acts_are_good : (job : Job) (plan : List (StepJob × List Move)) → PlannedMovesAreSafe → PlannedMovesCutTheTargets → IsReachable job → IsPlan job plan
    → AreEachPlanned job [] None Unknown plan → AreGood job (program_acts job plan)
acts_are_good job plan safe cut reachable is planned =
    let acts = steps_acts job None Unknown plan in
    record {
      ends = Contains-append_right acts (End ∷ []) End (here End []);
      marked = marks_append acts (End ∷ []) ∙ append-nil (marks acts) ∙ steps_mark job None Unknown plan ∙ ap (map (λ (step : StepJob). step.ws)) is.steps;
      right = right_everywhere job (program_acts job plan)
          (each_append job [] acts (End ∷ []) (steps_right job None Unknown plan [] safe (sym is.steps) planned) (tt, tt));
      finished = λ feature c required left.
          let (step, of_feature, opened) = reachable feature c required in
          steps_cut job None Unknown plan [] (End ∷ []) step c cut planned
          (subst (λ (steps : List StepJob). Contains steps step) (sym is.steps) of_feature.executed)
          (opened, subst (λ (f : ℕ). IsRequiredNode job f (node_of c)) (sym of_feature.cuts) required.node) left;
    }

pub plans_are_good : PlannedMovesAreSafe → PlannedMovesEndAbove → PlannedMovesCutTheTargets → PlansAreGood
plans_are_good safe end_above cut job plan rule reachable is writable = (
  program_acts job plan,
  program_means job plan writable,
  acts_are_good job plan safe cut reachable is (steps_planned job plan end_above rule is),
)
