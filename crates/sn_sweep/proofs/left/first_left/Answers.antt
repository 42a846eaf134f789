use Rattle.std.proofs.Common.{refl, ap, length, arith}
use Rattle.sn_sweep.proofs.LeftLemmas.{step_at, one_passed, passed_again, first_is_left, nothing_is_left}
use Rattle.sn_sweep.proofs.left.first_left.Goals as goal

pub loop-k-preserved-then-cuts : goal.loop-k-preserved-then-cuts
loop-k-preserved-then-cuts c =
    let job = c.args.j.now in
    let map = c.args.heights.now in
    let steps = c.steps-steps.result.now in
    let k = c.loop-k.k in
    let step = c.index-steps-k.result in
    let here = step_at steps job.steps k step c.steps-steps.ensures c.loop-k-test.true c.index-steps-k.is in
    let within = c.loop-k-test.true in
    record {
      own = c.loop-k.invariant.own;
      passed = one_passed job map k step here
          (passed_again job map steps k step.feature c.steps-steps.ensures (omega arith) (c.cuts.ensures.0 c.if-cuts.true) c.loop-k.invariant.passed)
          c.loop-k.invariant.passed;
    }

pub returns-in-Some-clause-some : goal.returns-in-Some-clause-some
returns-in-Some-clause-some c =
    let job = c.args.j.now in
    let step = c.index-steps-k.result in
    let here = step_at c.steps-steps.result.now job.steps c.loop-k.k step c.steps-steps.ensures c.loop-k-test.true c.index-steps-k.is in
    first_is_left job c.args.heights.now c.loop-k.k step c.in-Some.cell here c.loop-k.invariant.passed c.in-Some.ensures.some

pub loop-k-preserved : goal.loop-k-preserved
loop-k-preserved c =
    let job = c.args.j.now in
    let step = c.index-steps-k.result in
    let here = step_at c.steps-steps.result.now job.steps c.loop-k.k step c.steps-steps.ensures c.loop-k-test.true c.index-steps-k.is in
    record {
      own = c.left_of.ensures.plane;
      passed = one_passed job c.args.heights.now c.loop-k.k step here (c.in_default.ensures.none refl) c.loop-k.invariant.passed;
    }

pub returns-clause-none : goal.returns-clause-none
returns-clause-none c = λ _.
    let long = ap length c.steps-steps.ensures in
    let end = c.loop-k-test.false in
    nothing_is_left c.args.j.now c.args.heights.now c.loop-k.k (omega arith) c.loop-k.invariant.passed
