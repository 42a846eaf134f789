use Rattle.std.proofs.Common.{◌<◌, length, ap, subst, sym, arith}
use Rattle.sn_raster.specs.Grid.{Node}
use Rattle.sn_raster.specs.Plane.{Has, Plane}
use Rattle.sn_raster.proofs.Marks.{set_node, set_others, passed_mark, in_own_window}
use Rattle.sn_raster.proofs.bits.Bits.set.Goals as goal

pub returns-clause-node : goal.returns-clause-node
returns-clause-node c =
    let n : Node = record { i = c.args.i; j = c.args.j } in
    let below : c.mark-at.result < length c.self.inside.marks.items = omega (arith, c.self.invariant.full, c.mark-at.ensures.size) in
    set_node c.self.inside.grid c.self.inside.marks.items n c.mark-at.result c.args.on
    (passed_mark c.self.inside.grid c.args.i c.args.j c.mark-at.result c.ranges.i c.ranges.j c.mark-at.ensures.value)
    below (in_own_window _ _ n (ap (λ p. p.grid) c.self.view_is) c.requires)

pub returns-clause-others : goal.returns-clause-others
returns-clause-others c =
    let n : Node = record { i = c.args.i; j = c.args.j } in
    λ m other.
    let step = set_others c.self.inside.grid c.self.inside.marks.items n m c.mark-at.result c.args.on
    (passed_mark c.self.inside.grid c.args.i c.args.j c.mark-at.result c.ranges.i c.ranges.j c.mark-at.ensures.value)
    (in_own_window _ _ n (ap (λ p. p.grid) c.self.view_is) c.requires) other in
    let P : Plane → Type 0 = λ p. Has p m in
    ((λ has. subst P c.self.view_is (step.0 has)), (λ has. step.1 (subst P (sym c.self.view_is) has)))
