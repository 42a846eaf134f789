-- Plans that can be written.
use Rattle.std.proofs.Common.{ℕ, ◌≡◌, ◌+◌, ◌-◌, ◌≤◌, ◌<◌, ◌^◌, true, List, [], ◌∷◌, ◌++◌, Option, None, length, map, eqb, get_or, refl, ap, arith}
use Rattle.std.specs.Prelude.{Contains}
use Rattle.std.specs.List.{All, list_any}
use Rattle.std.proofs.lemmas.Bool.{eq-eqb}
use Rattle.std.proofs.lemmas.List.{length-map, get_or-map}
use Rattle.std.proofs.lemmas.List.Elements.{All-contains, All-head, All-tail}
use Rattle.std.proofs.lemmas.List.Folds.{list_any_at}
use Rattle.std.proofs.lemmas.Map.Steps.{le-length_from_below}
use Rattle.sn_geom.specs.declared.tip.Tip.{Tip}
use Rattle.sn_geom.specs.declared.tip.Tip.TheVariants.{Unknown}
use Rattle.sn_outline.specs.Job.{Job}
use Rattle.sn_outline.specs.JobRule.{IsJob, IsProper, AreNumbered}
use Rattle.sn_outline.specs.declared.job.StepJob.{StepJob}
use Rattle.sn_raster.specs.Heights.{Pass}
use Rattle.sn_link.specs.declared.moves.Move.{Move}
use Rattle.sn_link.specs.Moves.{tip_for, tool_after, tip_after_step}
use Rattle.sn_link.specs.Plan.{passes_by, with_moves}
use Rattle.sn_link.specs.Safe.{AreWithin}
use Rattle.sn_link.specs.SafeLaws.{IsPlanned, PlannedMovesEndAbove, PlannedMovesAreStraight}
use Rattle.sn_program.specs.GoodLaws.{HasInstanceNumbers, PlansCanBeWritten}
use Rattle.sn_program.specs.PlanActs.{IsNumbered, AreWritable, AreNoted}
use Rattle.sn_program.proofs.PlannedLemmas.{AreEachPlanned, steps_planned}

-- How many tools there are.

used_below : (steps : List StepJob) (count q : ℕ) → AreNumbered steps count → q < count
    → list_any (eqb q) (map (λ (step : StepJob). step.tool - 1) steps) ≡ true
used_below steps count q numbered below =
    let (k, step, inside, is, own) = (numbered (q + 1)).1 (omega arith, omega arith) in
    let tools = map (λ (s : StepJob). s.tool - 1) steps in
    let at : q ≡ get_or tools k 0 = omega (arith, get_or-map (λ (s : StepJob). s.tool - 1) steps k step 0 inside, ap (λ (s : StepJob). s.tool) is) in
    list_any_at (eqb q) tools k 0 (omega (arith, length-map steps (λ (s : StepJob). s.tool - 1))) (eq-eqb q (get_or tools k 0) at)

-- each number up to the count is that of a step's tool, so there are no more tools than steps
few_tools : (steps : List StepJob) (count : ℕ) → AreNumbered steps count → count ≤ length steps
few_tools steps count numbered =
    let tools = map (λ (s : StepJob). s.tool - 1) steps in
    let few = le-length_from_below tools count (λ q below. used_below steps count q numbered below) in
    omega (arith, few, length-map steps (λ (s : StepJob). s.tool - 1))

are_noted : (number : ℕ) (tools : List ℕ) → number + length tools ≤ 2 ^ 32 → All (λ (instance : ℕ). instance < 2 ^ 32) tools → AreNoted number tools
are_noted number [] few within = tt
are_noted number (instance ∷ instances) few within = (
  (omega arith, All-head (λ (n : ℕ). n < 2 ^ 32) instance instances within),
  are_noted (number + 1) instances (omega arith) (All-tail (λ (n : ℕ). n < 2 ^ 32) instance instances within),
)

-- Steps with their moves.

is_numbered : (job : Job) (step : StepJob) → IsJob job → HasInstanceNumbers job → Contains job.steps step → IsNumbered step
is_numbered job step rule numbers (k, below, is) =
    let proper : IsProper step = All-contains IsProper job.steps step rule.proper (k, below, is) in
    let used = (rule.tools step.tool).0 (k, step, below, is, refl) in
    let few = few_tools job.steps (length job.tools) rule.tools in
    let steps = rule.few_steps in
    record {
      mark = (proper.numbered, All-contains (λ (s : StepJob). s.ws < 2 ^ 32) job.steps step numbers.steps (k, below, is));
      tool = (used.0, omega arith);
      speed = (proper.rates.1.at_least, proper.rates.1.at_most);
      feed = (proper.rates.0.at_least, proper.rates.0.at_most);
    }

-- the moves of each step end in the range
abbrev EachWithin : List (StepJob × List Move) → Type 0
EachWithin [] = Unit {0}
EachWithin ((step, moves) ∷ later) = AreWithin moves × EachWithin later

each_within : (steps : List StepJob) (plans : List (List Move)) → All AreWithin plans → EachWithin (with_moves steps plans)
each_within [] plans within = tt
each_within (step ∷ steps) [] within = (tt, each_within steps [] within)
each_within (step ∷ steps) (moves ∷ plans) within =
    (All-head AreWithin moves plans within, each_within steps plans (All-tail AreWithin moves plans within))

steps_writable : (job : Job) (passes : List Pass) (tool : Option ℕ) (tip : Tip) (plan : List (StepJob × List Move))
    → HasInstanceNumbers job → PlannedMovesAreStraight → AreEachPlanned job passes tool tip plan → EachWithin plan → AreWritable job tool tip plan
steps_writable job passes tool tip [] numbers straight planned within = tt
steps_writable job passes tool tip ((step, moves) ∷ later) numbers straight planned within =
    let at = tip_for job tool tip step in
    let own : IsPlanned job step passes at moves = planned.0 in (
      record {
        numbered = is_numbered job step own.rule numbers own.executed;
        straight = straight job step passes at moves own;
        within = within.0;
      },
      steps_writable job (passes ++ passes_by step.body at moves) (tool_after tool step moves) (tip_after_step job tool tip step moves) later
          numbers straight planned.1 within.1,
    )

pub plans_can_be_written : PlannedMovesEndAbove → PlannedMovesAreStraight → PlansCanBeWritten
plans_can_be_written end_above straight job plans rule numbers is within =
    let plan = with_moves job.steps plans in
    let few = few_tools job.steps (length job.tools) rule.tools in
    let steps = rule.few_steps in
    record {
      tools = are_noted 1 job.tools (omega arith) numbers.tools;
      sec = rule.security.length;
      steps = steps_writable job [] None Unknown plan numbers straight (steps_planned job plan end_above rule is) (each_within job.steps plans within);
    }
