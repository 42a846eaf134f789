use Rattle.std.proofs.Common.{◌≤ℤ◌}
use Rattle.sn_raster.specs.Heights.{HasCell, IsCutBy}
use Rattle.sn_raster.proofs.HeightRows.{IsRowPassed}
use Rattle.sn_raster.proofs.heights.cut_row.Given as goal

abbrev pub invariant-loop-i : goal.invariant-loop-i
invariant-loop-i l = record {
  low : l.initial.i ≤ℤ l.i;
  passed : IsRowPassed (λ c. HasCell l.fn.map c × ¬ IsCutBy l.g.pitch (record { body = l.body; from = l.a; to = l.b }) c) l.g l.j l.fn.map l.map l.i;
}
