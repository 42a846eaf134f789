use Rattle.std.proofs.Common.{rules, ◌+◌, ◌*◌, ◌-◌, ◌≤◌, length, arith}
use Rattle.std.proofs.lemmas.Nat.{mul-le}
use Rattle.sn_raster.specs.MarksBeside.{IsSetBeside}
use Rattle.sn_raster.proofs.MarksBeside.{row_kept, rows_kept, before_place}
use Rattle.sn_raster.proofs.beside.keep_rows.Goals as goal

pub loop-row-preserved : goal.loop-row-preserved
loop-row-preserved c =
    let width = c.args.width in
    let row = c.loop-row.row in
    let from = c.args.from.now in
    let more : (row + 1) * width ≤ c.args.rows * width = mul-le (row + 1) width c.args.rows width (omega (arith, c.loop-row-test.true)) (omega arith) in
    let within : row * width + width ≤ length from = omega (arith, more, c.requires.from) in
    let inside : row * width ≤ length c.loop-row.to = omega (arith, more, c.loop-row.invariant.full) in
    record {
      full = search rules;
      done = rows_kept (λ r column. IsSetBeside from 1 (r * width) (r * width + width) (r * width + column)) c.loop-row.to _ width row
          (λ k below. before_place c.loop-row.to _ (row * width) k inside below) c.loop-row.invariant.done
          (row_kept from c.loop-row.to c.keep_beside.new.to _ (row * width) width (row * width + width - row * width) (omega arith) within inside
          c.keep_beside.ensures.full c.keep_beside.ensures.each);
    }
