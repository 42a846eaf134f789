use Rattle.std.proofs.Common.{◌∙◌, inr, refl, ap, sym, subst}
use Rattle.sn_geom.specs.declared.units.Pt.{Pt}
use Rattle.sn_geom.specs.Sweep.{Near}
use Rattle.sn_raster.specs.Grid.{Node, place}
use Rattle.sn_raster.specs.Plane.{Has}
use Rattle.sn_raster.proofs.HeightMaps.{passed_node}
use Rattle.sn_raster.proofs.segments.mark_node.Goals as goal

pub returns-then-near-clause-node : goal.returns-then-near-clause-node
returns-then-near-clause-node c = λ n is.
    let same = passed_node c.args.i c.args.j c.ranges.i c.ranges.j in
    let N : Node → Type 0 = λ m. Has c.set.new.self m in
    let P : Pt → Type 0 = λ p. Near c.args.d c.args.e.now.a c.args.e.now.b p in
    let near = subst P (c.place_of.ensures ∙ ap (place c.args.g.now.pitch) (same ∙ sym is)) (c.near.ensures.0 c.if-near.true) in
    (λ has. inr near, λ _. subst N (same ∙ sym is) (c.set.ensures.node.1 refl))

pub returns-then-near-clause-others : goal.returns-then-near-clause-others
returns-then-near-clause-others c = λ n other. c.set.ensures.others n (λ is. other (is ∙ passed_node c.args.i c.args.j c.ranges.i c.ranges.j))
