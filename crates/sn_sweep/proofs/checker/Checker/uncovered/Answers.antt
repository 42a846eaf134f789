use Rattle.std.proofs.Common.{Option, IsNone, subst}
use Rattle.sn_sweep.specs.Checking.{Checking}
use Rattle.sn_sweep.specs.Kept.{HasPlanes}
use Rattle.sn_sweep.specs.declared.planes.Planes.{Planes}
use Rattle.sn_sweep.proofs.FinishLemmas.{IsAllCut, without_steps}
use Rattle.sn_sweep.proofs.checker.Checker.uncovered.Goals as goal
use Rattle.sn_sweep.proofs.checker.Checker.uncovered.Goals.{in-Some, in-None}

pub returns-clause-none : goal.returns-clause-none
returns-clause-none c =
    elim c.match-self.branch [
      | in-Some w ↦
          λ none. subst (λ (kept : Checking). IsAllCut kept.heights kept.job) c.self.view_is (w.first_left.ensures.none (subst IsNone w.result-is none))
      | in-None w ↦
          λ none. subst (λ (kept : Checking). IsAllCut kept.heights kept.job) c.self.view_is
          (without_steps c.self.inside.heights c.self.inside.job.now
          (subst (λ (planes : Option Planes). HasPlanes c.self.inside.grid.now c.self.inside.job.now.steps planes) w.in-None.is c.self.invariant.planes))
    ]
