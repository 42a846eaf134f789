use Rattle.std.proofs.Common.{ℤ, sym, subst, ap}
use Rattle.sn_raster.specs.Grid.{Grid, IsInRaw}
use Rattle.sn_raster.specs.Plane.{Has}
use Rattle.sn_raster.specs.Heights.{IsHeightMap, IsTop}
use Rattle.sn_raster.proofs.Axis.{kept}
use Rattle.sn_raster.proofs.HeightTops.{top_of_cells}
use Rattle.sn_raster.proofs.heights.Heights.top_in.Goals as goal

pub returns-clause-top : goal.returns-clause-top
returns-clause-top c =
    let P : Grid → Type 0 = λ g. IsTop c.args.self.now (λ n. IsInRaw g n × Has c.args.area.now n) c.top_of_rows.result in
    let Q : ℤ → Type 0 = λ top. IsTop c.args.self.now (λ n. IsInRaw c.args.self.now.grid n × Has c.args.area.now n) top in
    subst Q (sym (kept _ c.top_of_rows.ensures.range)) (subst P (ap (λ m. m.grid) c.self.view_is) c.top_of_rows.ensures.top)

pub returns-clause-cells : goal.returns-clause-cells
returns-clause-cells c =
    let rule = subst IsHeightMap c.self.view_is c.self.invariant in
    top_of_cells c.args.self.now (λ n. IsInRaw c.args.self.now.grid n × Has c.args.area.now n) _ rule (λ n inside. rule.grid.raw n inside.0) (returns-clause-top c)
