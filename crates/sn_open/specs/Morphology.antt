-- MEANING: erosion and dilation of planes over their window, by discs and by the five by five block of nodes (this project's own).
use Rattle.std.specs.Prelude.{ℕ}
use Rattle.sn_raster.specs.Grid.{Node, Nodes, place, InDisc, IsInWindow}
use Rattle.sn_raster.specs.Plane.{Plane, Has}
use Rattle.sn_open.specs.Region.{InBlock}

-- all nodes of the window in the disc of diameter d about n are in the plane
abbrev pub HasDisc : Plane → ℕ → Nodes
HasDisc plane d n = (q : Node) → IsInWindow plane.grid q → InDisc plane.grid.pitch d (place plane.grid.pitch n) q → Has plane q

-- n is in the disc of diameter d about a node of the plane
abbrev pub IsNearOne : Plane → ℕ → Nodes
IsNearOne plane d n = (q : Node) × Has plane q × InDisc plane.grid.pitch d (place plane.grid.pitch q) n

-- the plane has all nodes of the window in the block about n
abbrev pub HasBlock : Plane → Nodes
HasBlock plane n = (q : Node) → IsInWindow plane.grid q → InBlock n q → Has plane q
