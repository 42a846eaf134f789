use Rattle.std.proofs.Common.{◌≡◌, ◌↔◌, ◌∷◌, drop}
use Rattle.sn_raster.specs.Grid.{Node}
use Rattle.sn_open.proofs.OpeningLemmas.{HasOrNear}
use Rattle.sn_open.proofs.opening.add_trail.Given as goal

abbrev pub invariant-loop-to : goal.invariant-loop-to
invariant-loop-to l = record {
  grid : l.plane.grid ≡ l.fn.plane.grid;
  trail : (n : Node) → HasOrNear l.plane l.fn.plane.grid (l.from ∷ drop l.to-index l.rest) l.d n ↔ HasOrNear l.fn.plane l.fn.plane.grid l.points l.d n;
}
