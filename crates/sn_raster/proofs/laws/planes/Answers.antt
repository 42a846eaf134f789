use Rattle.sn_raster.proofs.Planes.{planes_are_their_nodes, nodes_have_marks, marks_are_nodes}
use Rattle.sn_raster.proofs.laws.planes.Goals as goal

pub returns-clause-nodes : goal.returns-clause-nodes
returns-clause-nodes c = planes_are_their_nodes

pub returns-clause-marks : goal.returns-clause-marks
returns-clause-marks c = nodes_have_marks

pub returns-clause-marked : goal.returns-clause-marked
returns-clause-marked c = marks_are_nodes
