use Rattle.std.proofs.Common.{ap}
use Rattle.sn_clear.specs.Window.{node_at}
use Rattle.sn_clear.proofs.WindowLemmas.{in_window_at, passed_place, passed_length}
use Rattle.sn_clear.proofs.window.point_at.Goals as goal

pub coordinate-requires-clause-range : goal.coordinate-requires-clause-range
coordinate-requires-clause-range c =
    let g = c.args.g.now in
    let point = c.rule.ensures.in_range (node_at g c.args.column c.args.row) (in_window_at g c.args.column c.args.row c.requires.column c.requires.row) in
    passed_length _ _ g.pitch _
    (passed_place g.i0 _ c.place_after.result c.args.column (ap (λ h. h.i0) c.g.view_is) c.rule.ensures.ends.columns.0 c.place_after.type_inv c.place_after.ensures)
    (ap (λ h. h.pitch) c.g.view_is) point.x

pub coordinate-requires-2-clause-range : goal.coordinate-requires-2-clause-range
coordinate-requires-2-clause-range c =
    let g = c.args.g.now in
    let point = c.rule.ensures.in_range (node_at g c.args.column c.args.row) (in_window_at g c.args.column c.args.row c.requires.column c.requires.row) in
    passed_length _ _ g.pitch _
    (passed_place g.j0 _ c.place_after-2.result c.args.row (ap (λ h. h.j0) c.g.view_is) c.rule.ensures.ends.rows.0 c.place_after-2.type_inv c.place_after-2.ensures)
    (ap (λ h. h.pitch) c.g.view_is) point.y
