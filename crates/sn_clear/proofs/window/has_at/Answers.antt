use Rattle.std.proofs.Common.{ap, subst, ◌↔◌, IsTrue}
use Rattle.sn_raster.specs.Grid.{IsInWindow}
use Rattle.sn_raster.specs.Plane.{Has}
use Rattle.sn_clear.proofs.WindowLemmas.{in_window_at, in_own_window, passed_node, of_node}
use Rattle.sn_clear.proofs.window.has_at.Goals as goal

pub get-requires : goal.get-requires
get-requires c =
    of_node (λ n. IsInWindow c.args.plane.now.grid n) _ _ (passed_node c.args.g.now _ _ _ _ c.args.column c.args.row c.rule.ensures (ap (λ g. g.i0) c.g.view_is) (ap (λ g. g.j0) c.g.view_is) c.place_after.type_inv c.place_after-2.type_inv c.place_after.ensures c.place_after-2.ensures)
    (in_own_window _ c.args.g.now _ c.requires.grid (in_window_at c.args.g.now c.args.column c.args.row c.requires.column c.requires.row))

pub returns : goal.returns
returns c = subst (λ n. IsTrue c.get.result ↔ Has c.args.plane.now n) (passed_node c.args.g.now _ _ _ _ c.args.column c.args.row c.rule.ensures (ap (λ g. g.i0) c.g.view_is) (ap (λ g. g.j0) c.g.view_is) c.place_after.type_inv c.place_after-2.type_inv c.place_after.ensures c.place_after-2.ensures) c.get.ensures
