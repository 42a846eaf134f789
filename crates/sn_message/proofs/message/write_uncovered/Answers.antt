use Rattle.std.proofs.Common.{List, ℕ, ◌≡◌, ◌++◌, append_assoc}
use Rattle.std.specs.Prelude.{codes}
use Rattle.std.specs.Fmt.{signed_decimal}
use Rattle.sn_geom.specs.declared.units.Cell.{Cell}
use Rattle.sn_io.proofs.SinkLemmas.{writes-first, writes-later}
use Rattle.sn_message.specs.CellText.{cell_text}
use Rattle.sn_message.proofs.RefusalLemmas.{number-first, number-later}
use Rattle.sn_message.proofs.message.write_uncovered.Goals as goal

-- what comes behind the number of the feature
abbrev rest : Cell → List ℕ
rest c = codes " i " ++ (signed_decimal c.i ++ (codes " j " ++ (signed_decimal c.j ++ (codes " z " ++ (signed_decimal c.z ++ codes "\n")))))

six_parts : (a b c d e f end : List ℕ)
    → a ++ (b ++ (c ++ (d ++ (e ++ (f ++ end))))) ≡ (a ++ (b ++ (c ++ (d ++ (e ++ f))))) ++ end
six_parts a b c d e f end = simp append_assoc

parts : (c : Cell) → rest c ≡ cell_text c ++ codes "\n"
parts c = six_parts (codes " i ") (signed_decimal c.i) (codes " j ") (signed_decimal c.j) (codes " z ") (signed_decimal c.z) (codes "\n")

pub returns-in_err-write_number : goal.returns-in_err-write_number
returns-in_err-write_number g c =
    number-first c.from_residual.result _ _ (codes "stepmill: uncovered #") (rest c.args.cell.now) c.args.feature c.from_residual.ensures.0 c.in_err-write_number.ensures

pub returns-in_err-write_cell : goal.returns-in_err-write_cell
returns-in_err-write_cell g c =
    number-later c.from_residual-in_err-write_cell.result _ _ _ (codes "stepmill: uncovered #") (rest c.args.cell.now) c.args.feature c.in_ok-write_number.ensures
    (writes-first c.from_residual-in_err-write_cell.result _ _ _ _ _ c.from_residual-in_err-write_cell.ensures.0 (parts c.args.cell.now) c.in_err-write_cell.ensures)

pub returns : goal.returns
returns g c =
    number-later c.write_all.result _ _ _ (codes "stepmill: uncovered #") (rest c.args.cell.now) c.args.feature c.in_ok-write_number.ensures
    (writes-later c.write_all.result _ _ _ _ _ _ (parts c.args.cell.now) c.in_ok-write_cell.ensures c.write_all.ensures)
