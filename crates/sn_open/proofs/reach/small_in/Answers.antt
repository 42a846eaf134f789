use Rattle.std.proofs.Common.{refl, sym, ap, ◌∙◌, length, arith}
use Rattle.std.proofs.lemmas.Bool.{false≢true}
use Rattle.sn_open.specs.Reach.{HasRequired}
use Rattle.sn_open.proofs.ReachLemmas.{IsStepAt, step_at, none_before, one_passed, passed_again, all_features, earlier_passed, again_in}
use Rattle.sn_open.proofs.reach.small_in.Goals as goal

pub loop-k-init : goal.loop-k-init
loop-k-init c = record { own = c.requires.own; passed = none_before (HasRequired c.args.j.now) c.args.j.now.steps }

pub loop-k-preserved-then-cuts : goal.loop-k-preserved-then-cuts
loop-k-preserved-then-cuts c =
    let job = c.args.j.now in
    let step = c.index-steps-k.result in
    let read : IsStepAt job.steps c.loop-k.k step = step_at c.steps-steps.result.now job.steps c.loop-k.k step c.steps-steps.ensures c.loop-k-test.true c.index-steps-k.is in
    let inside = read.inside in
    let again = passed_again (HasRequired job) job.steps c.loop-k.k step.feature (omega arith) (again_in c.steps-steps.result.now job.steps c.loop-k.k step.feature c.steps-steps.ensures (c.cuts.ensures.0 c.if-cuts.true)) c.loop-k.invariant.passed in
    record { own = c.loop-k.invariant.own; passed = one_passed (HasRequired job) job.steps c.loop-k.k step read.inside read.is again c.loop-k.invariant.passed }

pub returns-then-is_small : goal.returns-then-is_small
returns-then-is_small c =
    let job = c.args.j.now in
    let step = c.index-steps-k.result in
    let read : IsStepAt job.steps c.loop-k.k step = step_at c.steps-steps.result.now job.steps c.loop-k.k step c.steps-steps.ensures c.loop-k-test.true c.index-steps-k.is in
    record {
      executed = (step, record { executed = (c.loop-k.k, read.inside, sym read.is); cuts = refl });
      small = c.is_small.ensures.yes c.if-is_small.true;
      earlier = earlier_passed (HasRequired job) job c.loop-k.k step read.inside read.is c.loop-k.invariant.passed;
    }

pub loop-k-preserved : goal.loop-k-preserved
loop-k-preserved c =
    let job = c.args.j.now in
    let step = c.index-steps-k.result in
    let read : IsStepAt job.steps c.loop-k.k step = step_at c.steps-steps.result.now job.steps c.loop-k.k step c.steps-steps.ensures c.loop-k-test.true c.index-steps-k.is in
    record {
      own = c.is_small.ensures.own;
      passed = one_passed (HasRequired job) job.steps c.loop-k.k step read.inside read.is (c.is_small.ensures.no (λ yes. false≢true (sym c.if-is_small.false ∙ yes))) c.loop-k.invariant.passed;
    }

pub returns : goal.returns
returns c =
    let long = ap length c.steps-steps.ensures in
    all_features (HasRequired c.args.j.now) c.args.j.now c.loop-k.k (omega (arith, c.loop-k-test.false)) c.loop-k.invariant.passed
