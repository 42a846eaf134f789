use Rattle.sn_flow.proofs.PartsLemmas.{parts_rule}
use Rattle.sn_flow.proofs.laws.parts_keep_rule.Goals as goal

pub returns : goal.returns
returns c = parts_rule
