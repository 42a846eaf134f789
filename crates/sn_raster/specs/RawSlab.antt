-- PRIVATE: the raw box by a grid in place of a job (the code's own words).
use Rattle.std.specs.Prelude.{◌≤ℤ◌, ◌<ℤ◌}
use Rattle.sn_geom.specs.declared.units.Cell.{Cell}
use Rattle.sn_raster.specs.Grid.{Grid, IsInRaw}
use Rattle.sn_raster.specs.Heights.{node_of}

-- the cells of the raw box, by the grid of its job
pub record IsRawSlab (g : Grid) (c : Cell) : Type 0 where
  pub raw : IsInRaw g (node_of c)
  pub above : g.bottom ≤ℤ c.z
  pub below : c.z <ℤ g.top
