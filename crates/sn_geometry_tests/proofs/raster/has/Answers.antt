use Rattle.std.proofs.Common.{sym}
use Rattle.sn_raster.proofs.Marks.{in_own_window}
use Rattle.sn_geometry_tests.proofs.raster.has.Goals as goal

pub get-requires : goal.get-requires
get-requires c = in_own_window _ c.grid-g.result _ (sym c.grid-g.ensures) (c.is_node.ensures c.if-is_node.true)
