use Rattle.std.proofs.Common.{◌≡◌, ◌*◌, ◌≤◌, ◌-ℤ◌, unsigned_abs, take}
use Rattle.std.specs.List.{sum_by}
use Rattle.sn_geom.specs.declared.limits.TheConstants.{REACH}
use Rattle.sn_raster.proofs.tops.sum_above.Given as goal

abbrev pub invariant-loop-height : goal.invariant-loop-height
invariant-loop-height l = record {
  sum : l.sum ≡ sum_by (λ height. unsigned_abs (height -ℤ l.g.bottom)) (take l.height-index l.heights);
  size : l.sum ≤ l.height-index * (2 * REACH);
}
