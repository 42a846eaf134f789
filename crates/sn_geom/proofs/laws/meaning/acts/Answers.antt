use Rattle.sn_geom.proofs.Meanings.{acts_have_an_order, acts_are_joined}
use Rattle.sn_geom.proofs.laws.meaning.acts.Goals as goal

pub returns-clause-order : goal.returns-clause-order
returns-clause-order c = acts_have_an_order

pub returns-clause-joined : goal.returns-clause-joined
returns-clause-joined c = acts_are_joined
