-- MEANING: the cells that a move gouges (this project's own).
use Rattle.std.specs.Prelude.{ℕ}
use Rattle.sn_geom.specs.declared.units.Pt3.{Pt3}
use Rattle.sn_geom.specs.declared.units.Cell.{Cell}
use Rattle.sn_geom.specs.Sweep.{Touch}
use Rattle.sn_raster.specs.Heights.{HeightMap, HasCell, low_end}
use Rattle.sn_open.specs.Planes.{CellSet, HasIn}

-- a cell that is left, that a tool of diameter d touches, its tip moving from a to b, and that is not one of the cells
pub record IsGougedCell (map : HeightMap) (d : ℕ) (a b : Pt3) (cells : CellSet) (c : Cell) : Type 0 where
  pub left : HasCell map c
  pub touched : Touch d a b (low_end map.grid.pitch c)
  pub forbidden : ¬ HasIn cells c
