-- Each row of a group has a form of its own.
use Rattle.std.proofs.Common.{◌≡◌, List, [], ◌∷◌, Some, sym, subst, ⊎_elim}
use Rattle.std.specs.List.{AllByRecursion}
use Rattle.sn_entity.specs.declared.row.Group.TheVariants as group
use Rattle.sn_entity.specs.declared.row.RowId.{RowId}
use Rattle.sn_entity.specs.Table.{rows_of, IsAmong}
use Rattle.sn_feature.specs.Entities.{form_from, course_from, boundary_from, bottom_from, operation_from, cutter_from, plane_milling, side_milling, drilling}
use Rattle.sn_feature.specs.FormLaws.{IsFormOf, IsCourseOf, IsBoundaryOf, IsBottomOf, IsCuttingOf, IsCutterOf, RowsHaveForms}

-- what holds of each of the rows
among : (P : RowId → Type 0) (ids : List RowId) → AllByRecursion P ids → (row : RowId) → IsAmong row ids → P row
among P [] all row h = absurd h
among P (id ∷ ids) all row h = ⊎_elim (λ e. subst P (sym e) all.0) (λ later. among P ids all.1 row later) h

pub rows_have_forms : RowsHaveForms
unfolding plane_milling side_milling drilling
rows_have_forms = record {
  features = λ m n id h. among (λ r. IsFormOf r (form_from (Some r) m n)) (rows_of group.Feat) (tt, (tt, (tt, (tt, tt)))) id h;
  paths = λ m n id h. among (λ r. IsCourseOf r (course_from (Some r) m n)) (rows_of group.Path) (tt, (tt, tt)) id h;
  profiles = λ m n id h. among (λ r. IsBoundaryOf r (boundary_from (Some r) m n)) (rows_of group.Prof) (tt, (tt, (tt, tt))) id h;
  hole_bottoms = λ id h. among (λ r. IsBottomOf r (bottom_from (Some r))) (rows_of group.Hbot) (tt, (tt, (tt, tt))) id h;
  pocket_bottoms = λ id h. among (λ r. IsBottomOf r (bottom_from (Some r))) (rows_of group.Pbot) (tt, (tt, tt)) id h;
  operations = λ m n id h. among (λ r. IsCuttingOf r (operation_from (Some r) m n).cutting) (rows_of group.Op) (tt, (tt, (tt, (tt, (tt, tt))))) id h;
  bodies = λ id h. among (λ r. IsCutterOf r (cutter_from (Some r))) (rows_of group.Body) (tt, (tt, tt)) id h;
}
