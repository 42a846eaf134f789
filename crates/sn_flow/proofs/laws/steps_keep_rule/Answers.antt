use Rattle.sn_flow.proofs.RuleLemmas as lemmas
use Rattle.sn_flow.proofs.laws.steps_keep_rule.Goals as goal

pub returns : goal.returns
returns c = lemmas.steps_keep_rule
