use Rattle.std.proofs.Common.{refl}
use Rattle.sn_sweep.proofs.checker.Checker.motion_cause.Goals as goal

pub returns-in-Enter : goal.returns-in-Enter
returns-in-Enter c = rw (← c.self.view_is, c.in-Enter.is) (λ before keeps. c.entry_cause.ensures.enter before)

pub returns-in-Locate : goal.returns-in-Locate
returns-in-Locate c = rw (← c.self.view_is, c.in-Locate.is) (λ before keeps. c.entry_cause-in-Locate.ensures.locate before c.in-Locate.to refl)

pub returns-in-Rapid : goal.returns-in-Rapid
returns-in-Rapid c = rw (← c.self.view_is, c.in-Rapid.is) (λ before keeps. c.rapid_cause.ensures before keeps.material)
