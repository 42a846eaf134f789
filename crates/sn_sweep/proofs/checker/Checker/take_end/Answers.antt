use Rattle.sn_sweep.proofs.ActLemmas.{keeps_ended}
use Rattle.sn_sweep.proofs.checker.Checker.take_end.Goals as goal

pub returns-then-end-clause-keeps : goal.returns-then-end-clause-keeps
returns-then-end-clause-keeps c = rw (c.if-end.true, ← c.self.view_is) (λ before keeps. keeps_ended _ before _ keeps)
