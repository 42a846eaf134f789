use Rattle.std.proofs.Common.{◌≡◌, ℕ, ◌<◌, get_or}
use Rattle.sn_geom.specs.declared.units.Pt.{Pt}
use Rattle.sn_outline.proofs.same.are_same_points.Given as goal

abbrev pub invariant-loop-i : goal.invariant-loop-i
invariant-loop-i l = (k : ℕ) (d : Pt) → k < l.i → get_or l.a k d ≡ get_or l.b k d
