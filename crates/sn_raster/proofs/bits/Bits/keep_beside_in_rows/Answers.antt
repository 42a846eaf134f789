use Rattle.std.proofs.Common.{◌≡◌, ◌*◌, Bool, List, refl, sym, ◌∙◌, subst}
use Rattle.std.specs.Vec.{with_items}
use Rattle.std.proofs.lemmas.List.{with_items_is}
use Rattle.sn_raster.specs.Grid.{places}
use Rattle.sn_raster.proofs.Marks.{with_marks}
use Rattle.sn_raster.proofs.NeighbourPlanes.{AreRows, kept_in_rows}
use Rattle.sn_raster.proofs.bits.Bits.keep_beside_in_rows.Goals as goal

pub returns-clause-nodes : goal.returns-clause-nodes
returns-clause-nodes c =
    let v = c.self.inside.marks in
    let g = c.self.inside.grid in
    let width = c.columns_of-columns.ensures.value in
    let rows = c.rows_of-rows.ensures.value in
    let size : c.columns_of-columns.result * c.rows_of-rows.result ≡ places g.i0 g.i1 * places g.j0 g.j1 = rw (width, rows) refl in
    let is = with_items_is v c.keep_rows.new.to (c.keep_rows.ensures.full ∙ size ∙ sym c.self.invariant.full ∙ sym v.ok.0) in
    kept_in_rows c.args.self.now c.args.from.now g c.from.inside.grid v.items c.deref.result.now (with_items v c.keep_rows.new.to).items _ _
    c.self.view_is (with_marks _ _ _ c.deref.ensures.value ∙ c.from.view_is) c.requires width rows
    (subst (λ (xs : List Bool). AreRows c.deref.result.now xs c.columns_of-columns.result c.rows_of-rows.result) (sym is) c.keep_rows.ensures.each)
