use Rattle.sn_entity.specs.Parts.{second_rows, third_rows}
use Rattle.sn_entity.proofs.RowsLeft.{left_of}
use Rattle.sn_entity.proofs.table.reads_of_later.Goals as goal

pub reads_of_last-requires : goal.reads_of_last-requires
reads_of_last-requires c = left_of c.args.id second_rows third_rows (c.in_default.not-MillingCuttingTool, (c.in_default.not-Endmill, (c.in_default.not-TwistDrill, (c.in_default.not-MillingToolDimension, (c.in_default.not-MillingTechnology, (c.in_default.not-Axis2Placement3d, (c.in_default.not-CartesianPoint, (c.in_default.not-Direction, (c.in_default.not-Plane, (c.in_default.not-ElementarySurface, (c.in_default.not-TolerancedLengthMeasure, (c.in_default.not-NumericParameter, (c.in_default.not-LinearPath, (c.in_default.not-GeneralPath, (c.in_default.not-Polyline, (c.in_default.not-LinearProfile, (c.in_default.not-SquareUProfile, (c.in_default.not-GeneralClosedProfile, (c.in_default.not-RectangularClosedProfile, (c.in_default.not-CircularClosedProfile, (tt))))))))))))))))))))) c.requires
