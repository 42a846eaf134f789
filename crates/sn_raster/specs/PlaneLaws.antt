-- Laws of planes (this project's own).
use Rattle.std.specs.Prelude.{◌≡◌, ◌↔◌, ℕ, ◌*◌, ◌<◌, IsTrue, false, slice_index_or}
use Rattle.sn_raster.specs.Grid.{Grid, Node, IsInWindow, places}
use Rattle.sn_raster.specs.Plane.{Plane, Has, IsPlane, mark_of}

-- planes over one grid that have the same nodes are one
abbrev pub PlanesAreTheirNodes : Type 0
PlanesAreTheirNodes =
    (a b : Plane) → IsPlane a → IsPlane b → a.grid ≡ b.grid → ((n : Node) → Has a n ↔ Has b n) → a ≡ b

-- each node of the window has a mark, and no other has the same
abbrev pub NodesHaveMarks : Type 0
NodesHaveMarks =
    (g : Grid) (n : Node) → IsInWindow g n
    → (mark_of g n < places g.i0 g.i1 * places g.j0 g.j1) × ((other : Node) → IsInWindow g other → mark_of g other ≡ mark_of g n → other ≡ n)

-- each mark is that of a node of the window, and the plane has the node exactly where the mark is set
abbrev pub MarksAreNodes : Type 0
MarksAreNodes =
    (plane : Plane) (k : ℕ) → k < places plane.grid.i0 plane.grid.i1 * places plane.grid.j0 plane.grid.j1
    → (n : Node) × IsInWindow plane.grid n × (mark_of plane.grid n ≡ k) × (Has plane n ↔ IsTrue (slice_index_or plane.marks k false))
