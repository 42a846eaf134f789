use Rattle.std.proofs.Common.{ap, ◌∙◌}
use Rattle.sn_clear.proofs.WindowLemmas.{kept, in_window_at}
use Rattle.sn_link.proofs.FreeWayLemmas.{passed_coordinate}
use Rattle.sn_link.proofs.free_way.point_at.Goals as goal

pub coordinate_of-requires-clause-range : goal.coordinate_of-requires-clause-range
coordinate_of-requires-clause-range c =
    let g = c.args.g.now in
    passed_coordinate g.i0 _ c.args.column g.pitch _ (kept _ c.g.invariant.ends.columns.0 ∙ ap (λ g. g.i0) c.g.view_is) (ap (λ g. g.pitch) c.g.view_is)
    (c.rule.ensures.in_range _ (in_window_at g c.args.column c.args.row c.requires.column c.requires.row)).x

pub coordinate_of-requires-2-clause-range : goal.coordinate_of-requires-2-clause-range
coordinate_of-requires-2-clause-range c =
    let g = c.args.g.now in
    passed_coordinate g.j0 _ c.args.row g.pitch _ (kept _ c.g.invariant.ends.rows.0 ∙ ap (λ g. g.j0) c.g.view_is) (ap (λ g. g.pitch) c.g.view_is)
    (c.rule.ensures.in_range _ (in_window_at g c.args.column c.args.row c.requires.column c.requires.row)).y
