use Rattle.std.proofs.Common.{refl, ap, length, arith}
use Rattle.sn_open.specs.Reach.{IsExecuted, IsReachedFeature}
use Rattle.sn_open.proofs.ReachLemmas.{IsStepAt, step_at, none_before, one_passed, passed_again, all_features, earlier_passed, again_in}
use Rattle.sn_open.proofs.reach.unreached_in.Goals as goal

pub loop-k-init : goal.loop-k-init
loop-k-init c = record {
  own = c.requires.own;
  opening = c.requires.opening;
  reached = c.requires.reached;
  passed = none_before (IsReachedFeature c.args.j.now) c.args.j.now.steps;
}

pub loop-k-preserved-then-cuts : goal.loop-k-preserved-then-cuts
loop-k-preserved-then-cuts c =
    let job = c.args.j.now in
    let step = c.index-steps-k.result in
    let read : IsStepAt job.steps c.loop-k.k step = step_at c.steps-steps.result.now job.steps c.loop-k.k step c.steps-steps.ensures c.loop-k-test.true c.index-steps-k.is in
    let inside = read.inside in
    let again = passed_again (IsReachedFeature job) job.steps c.loop-k.k step.feature (omega arith) (again_in c.steps-steps.result.now job.steps c.loop-k.k step.feature c.steps-steps.ensures (c.cuts.ensures.0 c.if-cuts.true)) c.loop-k.invariant.passed in
    record {
      own = c.loop-k.invariant.own;
      opening = c.loop-k.invariant.opening;
      reached = c.loop-k.invariant.reached;
      passed = one_passed (IsReachedFeature job) job.steps c.loop-k.k step read.inside read.is again c.loop-k.invariant.passed;
    }

pub returns-in-Some : goal.returns-in-Some
returns-in-Some c =
    let job = c.args.j.now in
    let step = c.index-steps-k.result in
    let read : IsStepAt job.steps c.loop-k.k step = step_at c.steps-steps.result.now job.steps c.loop-k.k step c.steps-steps.ensures c.loop-k-test.true c.index-steps-k.is in
    record {
      cell = c.in-Some.ensures.some;
      earlier = earlier_passed (IsReachedFeature job) job c.loop-k.k step read.inside read.is c.loop-k.invariant.passed;
    }

pub loop-k-preserved : goal.loop-k-preserved
loop-k-preserved c =
    let job = c.args.j.now in
    let step = c.index-steps-k.result in
    let read : IsStepAt job.steps c.loop-k.k step = step_at c.steps-steps.result.now job.steps c.loop-k.k step c.steps-steps.ensures c.loop-k-test.true c.index-steps-k.is in
    record {
      own = c.unreached_of.ensures.own;
      opening = c.unreached_of.ensures.opening;
      reached = c.unreached_of.ensures.reached;
      passed = one_passed (IsReachedFeature job) job.steps c.loop-k.k step read.inside read.is (c.in_default.ensures.none refl) c.loop-k.invariant.passed;
    }

pub returns : goal.returns
returns c = λ feature cell required.
    let long = ap length c.steps-steps.ensures in
    let executed : IsExecuted c.args.j.now feature = (required.node.0, required.node.1.of_feature) in
    all_features (IsReachedFeature c.args.j.now) c.args.j.now c.loop-k.k (omega (arith, c.loop-k-test.false)) c.loop-k.invariant.passed feature executed cell required
