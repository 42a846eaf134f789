use Rattle.sn_feature.proofs.LongPolylines.{long_polyline_is_bad}
use Rattle.sn_feature.proofs.OutlineProofs.{sides_are_halved, width_of_five, face_lies_beside_path, path_goes_in_direction, repeated_last_is_dropped}
use Rattle.sn_feature.proofs.laws.outlines.Goals as goal

pub returns-clause-sides : goal.returns-clause-sides
returns-clause-sides c = sides_are_halved

pub returns-clause-five : goal.returns-clause-five
returns-clause-five c = width_of_five

pub returns-clause-faces : goal.returns-clause-faces
returns-clause-faces c = face_lies_beside_path

pub returns-clause-paths : goal.returns-clause-paths
returns-clause-paths c = path_goes_in_direction

pub returns-clause-polygons : goal.returns-clause-polygons
returns-clause-polygons c = repeated_last_is_dropped

pub returns-clause-long : goal.returns-clause-long
returns-clause-long c = long_polyline_is_bad
