use Rattle.std.proofs.Common.{◌++◌}
use Rattle.sn_entity.specs.Parts.{first_rows, second_rows, third_rows}
use Rattle.sn_entity.proofs.RowsLeft.{left_of, among_all}
use Rattle.sn_entity.proofs.table.reads_of.Goals as goal

pub reads_of_later-requires : goal.reads_of_later-requires
reads_of_later-requires c = left_of c.args.id first_rows (second_rows ++ third_rows) (c.in_default.not-Project, (c.in_default.not-Workplan, (c.in_default.not-IfStatement, (c.in_default.not-NonSequential, (c.in_default.not-MachiningWorkingstep, (c.in_default.not-Setup, (c.in_default.not-WorkpieceSetup, (c.in_default.not-Workpiece, (c.in_default.not-Block, (c.in_default.not-PlanarFace, (c.in_default.not-ClosedPocket, (c.in_default.not-Slot, (c.in_default.not-RoundHole, (c.in_default.not-Boss, (c.in_default.not-PlaneRoughMilling, (c.in_default.not-PlaneFinishMilling, (c.in_default.not-BottomAndSideRoughMilling, (c.in_default.not-BottomAndSideFinishMilling, (c.in_default.not-Drilling, (c.in_default.not-CuttingTool, (tt))))))))))))))))))))) (among_all c.args.id)
