use Rattle.std.proofs.Common.{◌↔◌, ◌∙◌, subst}
use Rattle.sn_raster.specs.Grid.{Grid}
use Rattle.sn_raster.specs.Heights.{Pass, HasCell}
use Rattle.sn_raster.proofs.HeightCuts.{IsKept, material_after}
use Rattle.sn_raster.proofs.heights.Heights.cut.Goals as goal

pub returns-clause-material : goal.returns-clause-material
returns-clause-material c =
    let pass : Pass = record { body = c.args.body.now; from = c.args.a.now; to = c.args.b.now } in
    material_after c.args.self.now c.cut_rows.new.map pass (c.cut_rows.ensures.grid ∙ c.grid-g.ensures)
    (λ cell. let P : Grid → Type 0 = λ g. HasCell c.cut_rows.new.map cell ↔ IsKept c.args.self.now g.pitch pass cell in subst P c.grid-g.ensures (c.cut_rows.ensures.cells cell))
