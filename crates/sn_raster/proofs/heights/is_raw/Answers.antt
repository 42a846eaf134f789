use Rattle.std.proofs.Common.{w32, ap, ◌∙◌, sym}
use Rattle.std.proofs.lemmas.Int.{to_z-of_z}
use Rattle.sn_raster.proofs.Axis.{kept}
use Rattle.sn_raster.proofs.Rows.{passed_between}
use Rattle.sn_raster.proofs.heights.is_raw.Goals as goal

pub returns-then-is_between : goal.returns-then-is_between
returns-then-is_between c =
    let ends = c.g.invariant.ends in
    let left = kept _ ends.raw_columns.0 ∙ ap (λ g. g.ri0) c.g.view_is in
    let right = kept _ ends.raw_columns.1 ∙ ap (λ g. g.ri1) c.g.view_is in
    let front = kept _ ends.raw_rows.0 ∙ ap (λ g. g.rj0) c.g.view_is in
    let back = kept _ ends.raw_rows.1 ∙ ap (λ g. g.rj1) c.g.view_is in
    let i = to_z-of_z w32 c.args.i c.ranges.i in
    let j = to_z-of_z w32 c.args.j c.ranges.j in (
      λ test.
          let columns = passed_between _ _ _ _ _ _ left right i (c.is_between.ensures.0 c.if-is_between.true) in
          let rows = passed_between _ _ _ _ _ _ front back j (c.is_between-then-is_between.ensures.0 test) in
          record { left = columns.0; right = columns.1; front = rows.0; back = rows.1 },
      λ raw. c.is_between-then-is_between.ensures.1 (passed_between _ _ _ _ _ _ (sym front) (sym back) (sym j) (raw.front, raw.back)),
    )
