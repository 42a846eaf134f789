use Rattle.std.proofs.Common.{◌<◌, sym, subst, arith}
use Rattle.sn_geom.proofs.Ring.{sums}
use Rattle.sn_raster.specs.Grid.{Grid, IsGridOf}
use Rattle.sn_raster.proofs.HeightRows.{along}
use Rattle.sn_raster.proofs.HeightMaps.{raw_material}
use Rattle.sn_raster.proofs.heights.Heights.raw.Goals as goal

pub flat-requires : goal.flat-requires
flat-requires c = omega (arith, sums, c.rule.ensures.raw_box.z, c.requires.heights.0, c.requires.heights.1)

pub raise_rows-requires-clause-ends : goal.raise_rows-requires-clause-ends
raise_rows-requires-clause-ends c = omega (arith, sums, c.rule.ensures.raw_box.z, c.requires.heights.0, c.requires.heights.1)

pub returns : goal.returns
returns c =
    let some : 0 < c.args.j.now.pitch = omega (arith, c.rule.ensures.pitch.at_least) in
    let P : Grid → Type 0 = λ g. IsGridOf g c.args.j.now in (
      c.raise_rows.ensures.grid,
      record {
        grid = subst P (sym c.raise_rows.ensures.grid) c.requires;
        cells = λ cell. along (c.raise_rows.ensures.cells cell) (raw_material c.grids.ensures.raw c.args.g.now c.args.j.now cell some c.requires);
      },
    )
