use Rattle.sn_flow.proofs.ToolLemmas.{has-first_uses, first_uses-push, numbers_filled, numbers_differ}
use Rattle.sn_flow.proofs.laws.tools.Goals as goal

pub returns-clause-grow : goal.returns-clause-grow
returns-clause-grow c ns n = rw (← has-first_uses ns n) (first_uses-push ns n)

pub returns-clause-filled : goal.returns-clause-filled
returns-clause-filled c = numbers_filled

pub returns-clause-differ : goal.returns-clause-differ
returns-clause-differ c = numbers_differ
