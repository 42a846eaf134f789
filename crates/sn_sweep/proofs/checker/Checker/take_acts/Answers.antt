use Rattle.sn_sweep.proofs.ActLemmas.{mark_is_first, judged_at_motion, judged_at_end}
use Rattle.sn_sweep.proofs.checker.Checker.take_acts.Goals as goal

pub returns-in-Some-clause-judged : goal.returns-in-Some-clause-judged
returns-in-Some-clause-judged c = λ before keeps. mark_is_first _ before c.args.acts.now c.in-Some.cause (c.in-Some.ensures.judged before keeps)

pub returns-in-Some-take_motion-clause-judged : goal.returns-in-Some-take_motion-clause-judged
returns-in-Some-take_motion-clause-judged c = λ before keeps.
    judged_at_motion c.args.self.now c.take_mark.new.self c.take_motion.new.self before c.args.acts.now c.in-Some-take_motion.cause
    c.in_default.ensures.machine (c.in_default.ensures.judged before keeps) c.in-Some-take_motion.ensures.judged

pub returns-clause-judged : goal.returns-clause-judged
returns-clause-judged c = λ before keeps.
    judged_at_end c.args.self.now c.take_mark.new.self c.take_motion.new.self c.take_end.new.self before c.args.acts.now
    c.in_default.ensures.machine c.in_default-take_motion.ensures.machine (c.in_default.ensures.judged before keeps) c.in_default-take_motion.ensures.judged
    c.take_end.ensures.keeps
