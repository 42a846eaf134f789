use Rattle.std.proofs.Common.{sym, subst, ◌∷◌, [], ◌++◌}
use Rattle.sn_open.specs.Good.{passes}
use Rattle.sn_sweep.specs.Checking.{Checking}
use Rattle.sn_sweep.specs.Judging.{KeepsActs}
use Rattle.sn_geom.specs.Acts.Act.{Feed}
use Rattle.sn_sweep.proofs.ActLemmas.{keeps_enter, keeps_locate, keeps_rapid, keeps_feed}
use Rattle.sn_sweep.proofs.checker.Checker.follow.Goals as goal

pub returns-in-Enter-clause-keeps : goal.returns-in-Enter-clause-keeps
returns-in-Enter-clause-keeps c = rw c.in-Enter.is (λ before keeps. keeps_enter _ before _ _ keeps)

pub returns-in-Locate-clause-keeps : goal.returns-in-Locate-clause-keeps
returns-in-Locate-clause-keeps c = rw c.in-Locate.is (λ before keeps. keeps_locate _ before _ _ keeps)

pub returns-in-Rapid-clause-keeps : goal.returns-in-Rapid-clause-keeps
returns-in-Rapid-clause-keeps c = rw c.in-Rapid.is (λ before keeps. keeps_rapid _ before _ _ _ _ keeps)

pub returns-in-Feed-clause-keeps : goal.returns-in-Feed-clause-keeps
returns-in-Feed-clause-keeps c = rw c.in-Feed.is (λ before keeps.
    let job = c.args.self.now.job in
    subst (λ (kept : Checking). KeepsActs job (before ++ Feed c.in-Feed.from c.in-Feed.to c.in-Feed.field-2 c.in-Feed.field-3 c.in-Feed.tool ∷ []) kept) (sym c.cut.ensures.others)
    (keeps_feed job before c.in-Feed.from c.in-Feed.to c.in-Feed.field-2 c.in-Feed.field-3 c.in-Feed.tool c.args.self.now c.cut.new.self.heights
    (c.cut.ensures.material (passes job.steps before) keeps.material) keeps))
