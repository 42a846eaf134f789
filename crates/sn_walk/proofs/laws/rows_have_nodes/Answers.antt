use Rattle.sn_walk.proofs.NodeLemmas.{rows_have_nodes}
use Rattle.sn_walk.proofs.laws.rows_have_nodes.Goals as goal

pub returns : goal.returns
returns c = rows_have_nodes
