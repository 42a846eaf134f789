use Rattle.std.proofs.Common.{List, ℕ, ℤ, ◌≡◌, ◌++◌, w32, to_z, of_z, rules}
use mir.Val.{SFits}
use Rattle.std.specs.Prelude.{codes}
use Rattle.std.specs.Fmt.{signed_decimal}
use Rattle.std.proofs.lemmas.Int.{to_z-of_z}
use Rattle.sn_message.proofs.RefusalLemmas.{coordinate-first, coordinate-later, coordinate-alone}
use Rattle.sn_message.proofs.message.write_cell.Goals as goal

-- what comes behind the row, and behind the column
abbrev height : ℤ → List ℕ
height z = codes " z " ++ signed_decimal z

abbrev row_on : ℤ → ℤ → List ℕ
row_on j z = codes " j " ++ (signed_decimal j ++ height z)

-- a coordinate that was passed on
passed : (z : ℤ) → SFits w32 z → to_z w32 (of_z w32 z) ≡ z
passed z fits = simp to_z-of_z

pub returns-in_err-write_coordinate : goal.returns-in_err-write_coordinate
returns-in_err-write_coordinate g c =
    let cell = c.args.cell.now in
    coordinate-first c.from_residual.result _ _ (codes " i ") (row_on cell.j cell.z) _ cell.i (passed cell.i (search rules)) c.from_residual.ensures.0 c.in_err-write_coordinate.ensures

pub returns-in_err-write_coordinate-2 : goal.returns-in_err-write_coordinate-2
returns-in_err-write_coordinate-2 g c =
    let cell = c.args.cell.now in
    coordinate-later c.from_residual-in_err-write_coordinate-2.result _ _ _ (codes " i ") (row_on cell.j cell.z) _ cell.i (passed cell.i (search rules)) c.in_ok-write_coordinate.ensures
    (coordinate-first c.from_residual-in_err-write_coordinate-2.result _ _ (codes " j ") (height cell.z) _ cell.j (passed cell.j (search rules)) c.from_residual-in_err-write_coordinate-2.ensures.0 c.in_err-write_coordinate-2.ensures)

pub returns : goal.returns
returns g c =
    let cell = c.args.cell.now in
    coordinate-later c.write_coordinate-3.result _ _ _ (codes " i ") (row_on cell.j cell.z) _ cell.i (passed cell.i (search rules)) c.in_ok-write_coordinate.ensures
    (coordinate-later c.write_coordinate-3.result _ _ _ (codes " j ") (height cell.z) _ cell.j (passed cell.j (search rules)) c.in_ok-write_coordinate-2.ensures
    (coordinate-alone c.write_coordinate-3.result _ _ (codes " z ") _ cell.z (passed cell.z (search rules)) c.write_coordinate-3.ensures))
