use Rattle.std.proofs.Common.{◌≡◌, Option, Some, ap, subst, ◌∙◌, ⊎_elim}
use Rattle.sn_entity.specs.declared.row.Group.{Group}
use Rattle.sn_entity.specs.declared.row.Group.TheVariants.{One}
use Rattle.sn_entity.specs.declared.row.RowId.{RowId}
use Rattle.sn_entity.specs.declared.row.RowId.TheVariants.{CartesianPoint, Polyline}
use Rattle.sn_model.specs.ModelContent.{row_of_number}
use Rattle.sn_refs.specs.Target.{read_at, group_at, IsTarget}
use Rattle.sn_feature.proofs.sketch.polyline.Goals as goal

pub plane_points-requires : goal.plane_points-requires
plane_points-requires c =
    let m = c.args.c.now in
    let row : row_of_number c.args.n m ≡ Some Polyline = c.requires.has_row ∙ ⊎_elim (λ e. ap Some e) (λ no. absurd no) c.requires.kind in
    let group : group_at (read_at (row_of_number c.args.n m) 0) ≡ One CartesianPoint = ap (λ (r : Option RowId). group_at (read_at r 0)) row in
    λ n h. subst (λ (g : Group). IsTarget m g n) group (c.many.ensures.targets n h)
