use Rattle.std.proofs.Common.{subst}
use Rattle.sn_outline.specs.declared.job.StepJob.{StepJob}
use Rattle.sn_link.specs.Counts.{AreCounts, strokes_in}
use Rattle.sn_link.specs.Moves.{tip_at}
use Rattle.sn_link.specs.Plan.{IsStepPlan}
use Rattle.sn_link.proofs.ListedLemmas.{listed, read_at, same_step}
use Rattle.sn_link.proofs.step_plan.plan_step.Goals as goal

pub planned_of-requires : goal.planned_of-requires
planned_of-requires c =
    let step = c.index-steps-k.result in
    let is = read_at c.args.j.now.steps c.steps-steps.result.now c.args.k step c.steps-steps.ensures c.requires.step c.index-steps-k.is in
    record {
      executed = listed c.args.j.now.steps c.args.k step is;
      strokes = c.requires.strokes step is;
      allowed = c.requires.allowed step is;
      left = c.requires.left;
      above = c.requires.above;
    }

pub returns-clause-planned : goal.returns-clause-planned
returns-clause-planned c = λ step passes at stands.
    let own = c.index-steps-k.result in
    let is = read_at c.args.j.now.steps c.steps-steps.result.now c.args.k own c.steps-steps.ensures c.requires.step c.index-steps-k.is in
    subst (λ (s : StepJob). IsStepPlan c.args.j.now s passes (tip_at c.args.j.now c.args.start) c.in_ok-planned.planned.moves)
    (same_step c.args.j.now.steps c.args.k own step is at) (c.in_ok-planned.ensures.planned passes stands)

pub returns-clause-counts : goal.returns-clause-counts
returns-clause-counts c = λ step passes at stands.
    let own = c.index-steps-k.result in
    let is = read_at c.args.j.now.steps c.steps-steps.result.now c.args.k own c.steps-steps.ensures c.requires.step c.index-steps-k.is in
    let planned = c.in_ok-planned.planned in
    subst (λ (s : StepJob). AreCounts c.args.j.now s passes planned.moves (strokes_in planned.moves c.args.s.now) planned.layers planned.lifts)
    (same_step c.args.j.now.steps c.args.k own step is at) (c.in_ok-planned.ensures.counts passes stands)
