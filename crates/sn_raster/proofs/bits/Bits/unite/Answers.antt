use Rattle.std.proofs.Common.{false, length, get_or, sym, ap, ◌∙◌}
use Rattle.std.specs.Vec.{with_items}
use Rattle.std.proofs.lemmas.List.{with_items_is}
use Rattle.sn_raster.proofs.Marks.{joined, with_marks}
use Rattle.sn_raster.proofs.bits.Bits.unite.Goals as goal

pub returns-clause-nodes : goal.returns-clause-nodes
returns-clause-nodes c =
    let v = c.self.inside.marks in
    let marks = c.deref_mut.ensures.value in
    let is = with_items_is v c.add.new.marks (c.add.ensures.full ∙ ap length marks ∙ sym v.ok.0) in
    joined c.args.self.now c.args.other.now c.self.inside.grid c.other.inside.grid c.deref_mut.result.now c.deref.result.now (with_items v c.add.new.marks).items
    (with_marks _ _ _ marks ∙ c.self.view_is) (with_marks _ _ _ c.deref.ensures.value ∙ c.other.view_is) c.requires
    (ap length marks ∙ c.self.invariant.full) (λ k below. ap (λ xs. get_or xs k false) is ∙ c.add.ensures.each k below)
