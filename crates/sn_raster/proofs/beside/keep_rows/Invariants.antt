use Rattle.std.proofs.Common.{ℕ, ◌≡◌, ◌↔◌, ◌+◌, ◌*◌, ◌<◌, false, IsTrue, length, get_or}
use Rattle.sn_raster.specs.MarksBeside.{IsSetBeside}
use Rattle.sn_raster.proofs.beside.keep_rows.Given as goal

abbrev pub invariant-loop-row : goal.invariant-loop-row
invariant-loop-row l = record {
  full : length l.to ≡ l.width * l.rows;
  done : (row column : ℕ) → row < l.row → column < l.width
      → IsTrue (get_or l.to (row * l.width + column) false) ↔ IsSetBeside l.from 1 (row * l.width) (row * l.width + l.width) (row * l.width + column);
}
