use Rattle.std.proofs.Common.{◌≤◌}
use Rattle.sn_geom.specs.declared.limits.TheConstants.{REACH}
use Rattle.sn_raster.proofs.Margins.{IsPassed}
use Rattle.sn_raster.proofs.grid.greatest_margin_of.Given as goal

abbrev pub invariant-loop-step : goal.invariant-loop-step
invariant-loop-step l = record { passed : IsPassed l.steps l.step-index l.margin; small : l.margin ≤ REACH }
