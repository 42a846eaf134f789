use Rattle.std.proofs.Common.{◌<◌, ◌∙◌, w32, to_z, of_z, length, ap, arith}
use Rattle.std.proofs.lemmas.Int.{to_z-of_z}
use Rattle.sn_raster.specs.Heights.{HeightMap, height_of}
use Rattle.sn_raster.proofs.Marks.{passed_mark, in_own_window}
use Rattle.sn_raster.proofs.HeightMaps.{node, set_height, set_other_height, set_rule, passed_height}
use Rattle.sn_raster.proofs.heights.Heights.put.Goals as goal

pub invariant_of-self : goal.invariant_of-self
invariant_of-self c =
    set_rule c.self.inside.grid c.self.inside.heights.items c.mark-at.result _ c.self.invariant
    (passed_height _ _ c.args.height (ap (λ m. m.grid) c.self.view_is) c.ranges.height c.requires.range)

pub returns-clause-node : goal.returns-clause-node
returns-clause-node c =
    let below : c.mark-at.result < length c.self.inside.heights.items = omega (arith, c.self.invariant.full, c.mark-at.ensures.size) in
    set_height c.self.inside.grid c.self.inside.heights.items (node c.args.i c.args.j) c.mark-at.result (to_z w32 (of_z w32 c.args.height))
    (passed_mark c.self.inside.grid c.args.i c.args.j c.mark-at.result c.ranges.i c.ranges.j c.mark-at.ensures.value) below
    ∙ to_z-of_z w32 c.args.height c.ranges.height

pub returns-clause-others : goal.returns-clause-others
returns-clause-others c =
    λ m window other.
    let grid = ap (λ p. p.grid) c.self.view_is in
    set_other_height c.self.inside.grid c.self.inside.heights.items (node c.args.i c.args.j) m c.mark-at.result (to_z w32 (of_z w32 c.args.height))
    (passed_mark c.self.inside.grid c.args.i c.args.j c.mark-at.result c.ranges.i c.ranges.j c.mark-at.ensures.value)
    (in_own_window _ _ (node c.args.i c.args.j) grid c.requires.window) (in_own_window _ _ m grid window) other
    ∙ ap (λ (p : HeightMap). height_of p m) c.self.view_is
