-- Laws of the material that is left after passes (this project's own).
use Rattle.std.specs.Prelude.{◌≡◌, ◌↔◌, ℤ, List, [], ◌∷◌, ◌++◌}
use Rattle.std.specs.List.{Contains}
use Rattle.sn_geom.specs.declared.units.Cell.{Cell}
use Rattle.sn_geom.specs.Sweep.{Touch}
use Rattle.sn_outline.specs.Job.{Job}
use Rattle.sn_raster.specs.Grid.{IsInRaw}
use Rattle.sn_raster.specs.Plane.{Plane, Has}
use Rattle.sn_raster.specs.Heights.{Pass, IsMaterial, low_end, HeightMap, IsHeightMap, IsTop, IsCount, HasCell, cells_left}

-- what was cut stays cut
abbrev pub CutStaysCut : Type 0
CutStaysCut = (job : Job) (earlier later : List Pass) (c : Cell) → IsMaterial job (earlier ++ later) c → IsMaterial job earlier c

-- neither the order of passes nor how often one is made matters for what is left: the same passes leave the same
abbrev pub SamePassesLeaveTheSame : Type 0
SamePassesLeaveTheSame =
    (job : Job) (some others : List Pass) (c : Cell) → ((pass : Pass) → Contains some pass ↔ Contains others pass)
    → IsMaterial job some c ↔ IsMaterial job others c

-- a pass leaves the cells that it does not touch
abbrev pub UntouchedIsLeft : Type 0
UntouchedIsLeft =
    (job : Job) (earlier : List Pass) (p : Pass) (c : Cell)
    → IsMaterial job earlier c → ¬ Touch p.body.d p.from p.to (low_end job.pitch c) → IsMaterial job (earlier ++ p ∷ []) c

-- an area has one top alone
abbrev pub TopIsOne : Type 0
TopIsOne =
    (map : HeightMap) (area : Plane) (top other : ℤ) → IsHeightMap map → area.grid ≡ map.grid
    → IsTop map (λ n. IsInRaw map.grid n × Has area n) top → IsTop map (λ n. IsInRaw map.grid n × Has area n) other → top ≡ other

-- the sum of heights counts the cells
abbrev pub CellsAreCounted : Type 0
CellsAreCounted = (map : HeightMap) → IsHeightMap map → IsCount (HasCell map) (cells_left map)
