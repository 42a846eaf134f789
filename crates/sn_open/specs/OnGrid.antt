-- PRIVATE: the regions of a step by a grid in place of a job.
use Rattle.std.specs.Prelude.{ℕ, ◌*◌}
use Rattle.sn_geom.specs.declared.units.Pt.{Pt}
use Rattle.sn_outline.specs.Job.{Job}
use Rattle.sn_outline.specs.declared.job.StepJob.{StepJob}
use Rattle.sn_outline.specs.declared.outline.Outline.{Outline}
use Rattle.sn_outline.specs.declared.outline.Shape.{Shape}
use Rattle.sn_outline.specs.declared.outline.Shape.TheVariants.{Rect, Circle, Polygon, Trail}
use Rattle.sn_outline.specs.Outline.{InOutline}
use Rattle.sn_raster.specs.Grid.{Grid, Node, Nodes, place, InDisc, IsInRaw, IsInWindow, IsRawNode}
use Rattle.sn_raster.specs.Plane.{Plane, Has}
use Rattle.sn_open.specs.Region.{IsFreeCentre}

-- the nodes whose disc of twice the side allowance has no raw node outside the outline
abbrev pub KeepsSideOn : Grid → Outline → ℕ → Nodes
KeepsSideOn g outline side n = (q : Node) → InDisc g.pitch (2 * side) (place g.pitch n) q → IsInRaw g q → InOutline outline (place g.pitch q)

-- the raw nodes in the discs about free centres
abbrev pub IsCleared : Job → StepJob → Nodes
IsCleared job step n = IsRawNode job n × ((c : Node) × IsFreeCentre job step c × InDisc job.pitch step.body.d (place job.pitch c) n)

-- the plane has all nodes of its window in the disc of diameter d about the point
abbrev pub HasRoomOn : Plane → ℕ → Pt → Type 0
HasRoomOn plane d centre = (m : Node) → IsInWindow plane.grid m → InDisc plane.grid.pitch d centre m → Has plane m

-- the nodes of the disc at the centre of the outline, where the plane has all of it
abbrev pub IsDrilledOn : Plane → StepJob → Shape → Nodes
IsDrilledOn plane step (Rect low high) n = ⊥
IsDrilledOn plane step (Circle centre d) n = InDisc plane.grid.pitch step.body.d centre n × HasRoomOn plane step.body.d centre
IsDrilledOn plane step (Polygon points) n = ⊥
IsDrilledOn plane step (Trail points width) n = ⊥
