use Rattle.std.proofs.Common.{refl, sym, subst, ◌∙◌}
use Rattle.sn_geom.specs.Acts.{act_list}
use Rattle.sn_geom.specs.declared.machine.Acts.{Acts}
use Rattle.sn_sweep.specs.Judging.{AreStraight, JudgesActs}
use Rattle.sn_sweep.proofs.ActLemmas.{keeps_state}
use Rattle.sn_sweep.proofs.LineCauseLemmas.{line_by_acts}
use Rattle.sn_sweep.proofs.StraightLemmas.{accepted_is_straight}
use Rattle.sn_sweep.proofs.checker.Checker.take_block.Goals as goal

pub take_acts-requires : goal.take_acts-requires
take_acts-requires c =
    subst (λ (acts : Acts). AreStraight acts.motion) (sym c.in-Ok.ensures.acts.1)
    (accepted_is_straight c.faults.ensures.first c.self.inside.machine c.args.block.now c.in-Ok.ensures.acts.0)

pub returns-in-Err-clause-judged : goal.returns-in-Err-clause-judged
returns-in-Err-clause-judged c = rw (← c.self.view_is)
    (λ before line says keeps. c.line_causes.ensures.refused _ _ before line c.args.block.now c.in-Err.fault says ((c.in-Err.ensures.fault c.in-Err.fault).0 refl))

pub returns-in-Ok-clause-judged : goal.returns-in-Ok-clause-judged
returns-in-Ok-clause-judged c = rw (← c.self.view_is) (λ before line says keeps.
    let job = c.self.inside.job.now in
    let state = c.self.inside.machine in
    let judged = c.take_acts.ensures.judged before (keeps_state job before _ c.step.new.self keeps) in
    line_by_acts c.line_readings.ensures.one_block c.line_readings.ensures.not_both job state before line c.args.block.now c.take_acts.new.self c.take_acts.result
    says c.in-Ok.ensures.acts.0 (c.take_acts.ensures.machine.machine ∙ c.in-Ok.ensures.after)
    (subst (λ (acts : Acts). JudgesActs job before (act_list acts) c.take_acts.new.self c.take_acts.result) c.in-Ok.ensures.acts.1 judged))
