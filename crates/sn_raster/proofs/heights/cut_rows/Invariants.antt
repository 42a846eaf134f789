use Rattle.std.proofs.Common.{◌≤ℤ◌}
use Rattle.sn_raster.specs.Heights.{HasCell, IsCutBy}
use Rattle.sn_raster.proofs.HeightRows.{AreRowsPassed}
use Rattle.sn_raster.proofs.heights.cut_rows.Given as goal

abbrev pub invariant-loop-j : goal.invariant-loop-j
invariant-loop-j l = record {
  low : l.initial.j ≤ℤ l.j;
  passed : AreRowsPassed (λ c. HasCell l.fn.map c × ¬ IsCutBy l.g.pitch (record { body = l.body; from = l.a; to = l.b }) c) l.g l.fn.map l.map l.j;
}
