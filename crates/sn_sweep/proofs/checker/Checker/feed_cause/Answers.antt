use Rattle.std.proofs.Common.{sym}
use Rattle.sn_sweep.proofs.checker.Checker.feed_cause.Goals as goal

pub returns-in-Some : goal.returns-in-Some
returns-in-Some c = rw (← c.self.view_is)
    (λ before keeps. c.feed_cause.ensures before (sym keeps.marked) keeps.material (λ step current. rw c.in-Some.is at (keeps.allowed step current)))
