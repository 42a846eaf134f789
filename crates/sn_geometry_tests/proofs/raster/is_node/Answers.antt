use Rattle.std.proofs.Common.{w32, ap, ◌∙◌}
use Rattle.std.proofs.lemmas.Int.{to_z-of_z}
use Rattle.sn_raster.proofs.Axis.{kept}
use Rattle.sn_raster.proofs.Rows.{passed_between}
use Rattle.sn_geometry_tests.proofs.raster.is_node.Goals as goal

pub returns-then-is_from_to : goal.returns-then-is_from_to
returns-then-is_from_to c = λ true_rows.
    let ends = c.g.invariant.ends in
    let columns = passed_between _ _ _ _ _ _ (kept _ ends.columns.0 ∙ ap (λ g. g.i0) c.g.view_is) (kept _ ends.columns.1 ∙ ap (λ g. g.i1) c.g.view_is)
    (to_z-of_z w32 c.args.i c.ranges.i) (c.is_from_to.ensures.0 c.if-is_from_to.true) in
    let rows = passed_between _ _ _ _ _ _ (kept _ ends.rows.0 ∙ ap (λ g. g.j0) c.g.view_is) (kept _ ends.rows.1 ∙ ap (λ g. g.j1) c.g.view_is)
    (to_z-of_z w32 c.args.j c.ranges.j) (c.is_from_to-then-is_from_to.ensures.0 true_rows) in
    record { left = columns.0; right = columns.1; front = rows.0; back = rows.1 }
