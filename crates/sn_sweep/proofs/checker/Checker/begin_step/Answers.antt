use Rattle.sn_sweep.specs.Kept.{allowed_of}
use Rattle.sn_sweep.proofs.ActLemmas.{keeps_mark}
use Rattle.sn_sweep.proofs.checker.Checker.begin_step.Goals as goal

pub returns-clause-keeps : goal.returns-clause-keeps
returns-clause-keeps c = rw (← c.self.view_is)
    (λ before n keeps. keeps_mark _ before n _ (allowed_of c.self.inside.grid.now c.make_current.new.planes) c.make_current.ensures.allowed keeps)
