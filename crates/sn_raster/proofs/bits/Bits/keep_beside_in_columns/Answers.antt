use Rattle.std.proofs.Common.{◌≡◌, ◌*◌, Bool, List, length, sym, ap, ◌∙◌, subst}
use Rattle.std.specs.Vec.{with_items}
use Rattle.std.proofs.lemmas.List.{with_items_is}
use Rattle.sn_raster.specs.Grid.{places}
use Rattle.sn_raster.proofs.Marks.{with_marks}
use Rattle.sn_raster.proofs.MarksBeside.{few_or_two}
use Rattle.sn_raster.proofs.NeighbourPlanes.{AreColumns, one_size, kept_in_columns}
use Rattle.sn_raster.proofs.bits.Bits.keep_beside_in_columns.Goals as goal

pub keep_beside-requires-clause-whole : goal.keep_beside-requires-clause-whole
keep_beside-requires-clause-whole c =
    let g = c.self.inside.grid in
    let size = one_size c.args.self.now c.args.from.now g c.from.inside.grid c.self.inside.marks.items c.from.inside.marks.items
    c.self.view_is c.from.view_is c.requires c.from.invariant.full in
    let full : length c.deref.result.now ≡ c.columns_of-columns.result * places g.j0 g.j1 =
    ap length c.deref.ensures.value ∙ size ∙ ap (λ w. w * places g.j0 g.j1) (sym c.columns_of-columns.ensures.value) in
    few_or_two c.columns_of-columns.result (places g.j0 g.j1) _ full

pub returns-clause-nodes : goal.returns-clause-nodes
returns-clause-nodes c =
    let v = c.self.inside.marks in
    let g = c.self.inside.grid in
    let from = c.from.inside.marks.items in
    let size = one_size c.args.self.now c.args.from.now g c.from.inside.grid v.items from c.self.view_is c.from.view_is c.requires c.from.invariant.full in
    let full : length c.deref.result.now ≡ places g.i0 g.i1 * places g.j0 g.j1 = ap length c.deref.ensures.value ∙ size in
    let is = with_items_is v c.keep_beside.new.to (c.keep_beside.ensures.full ∙ full ∙ sym c.self.invariant.full ∙ sym v.ok.0) in
    kept_in_columns c.args.self.now c.args.from.now g c.from.inside.grid v.items c.deref.result.now (with_items v c.keep_beside.new.to).items _ _
    c.self.view_is (with_marks _ _ _ c.deref.ensures.value ∙ c.from.view_is) c.requires c.columns_of-columns.ensures.value full
    (subst (λ (xs : List Bool). AreColumns c.deref.result.now xs c.columns_of-columns.result (length c.deref.result.now)) (sym is) c.keep_beside.ensures.each)
