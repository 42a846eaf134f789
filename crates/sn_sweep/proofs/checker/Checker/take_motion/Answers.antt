use Rattle.sn_sweep.proofs.ActLemmas.{does_none, first_of_one, none_of_one}
use Rattle.sn_sweep.proofs.checker.Checker.take_motion.Goals as goal

pub returns-in-None-clause-judged : goal.returns-in-None-clause-judged
returns-in-None-clause-judged c = rw c.in-None.is (λ before keeps. does_none _ before _ keeps)

pub returns-in-Some-motion_cause-clause-judged : goal.returns-in-Some-motion_cause-clause-judged
returns-in-Some-motion_cause-clause-judged c = rw c.in-Some.is (λ before keeps. first_of_one _ before _ _ (c.in-Some-motion_cause.ensures before keeps))

pub returns-in_default-clause-judged : goal.returns-in_default-clause-judged
returns-in_default-clause-judged c = rw c.in-Some.is (λ before keeps. record {
  right = none_of_one _ before _ (c.in_default.ensures before keeps);
  keeps = c.follow.ensures.keeps before keeps;
})
