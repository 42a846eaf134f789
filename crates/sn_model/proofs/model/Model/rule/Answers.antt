use Rattle.std.proofs.Common.{subst}
use Rattle.sn_model.specs.Built.{IsModel}
use Rattle.sn_model.proofs.model.Model.rule.Goals as goal

pub returns : goal.returns
returns c = subst IsModel c.self.view_is c.self.invariant
