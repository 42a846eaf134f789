use Rattle.std.proofs.Common.{◌≡◌, List, ℕ, ◌++◌}
use Rattle.std.specs.Prelude.{codes, decimal}
use Rattle.sn_io.proofs.SinkLemmas.{writes-first, writes-later}
use Rattle.sn_message.proofs.RefusalLemmas.{line_parts, number-first, number-later}
use Rattle.sn_message.proofs.message.write_parameter.Goals as goal

-- what comes behind the number of the instance
abbrev rest : ℕ → List ℕ → List ℕ
rest place words = (codes " parameter " ++ (decimal place ++ words)) ++ codes "\n"

parts : (place : ℕ) (words : List ℕ) → rest place words ≡ (codes " parameter " ++ decimal place) ++ (words ++ codes "\n")
parts place words = line_parts (codes " parameter ") (decimal place) words (codes "\n")

pub returns-in_err-write_number : goal.returns-in_err-write_number
returns-in_err-write_number g c =
    number-first c.from_residual.result _ _ (codes "stepmill: part: #") (rest c.args.place c.args.words.now) c.args.number c.from_residual.ensures.0 c.in_err-write_number.ensures

pub returns-in_err-write_number-2 : goal.returns-in_err-write_number-2
returns-in_err-write_number-2 g c =
    number-later c.from_residual-in_err-write_number-2.result _ _ _ (codes "stepmill: part: #") (rest c.args.place c.args.words.now) c.args.number c.in_ok-write_number.ensures
    (writes-first c.from_residual-in_err-write_number-2.result _ _ _ _ _ c.from_residual-in_err-write_number-2.ensures.0 (parts c.args.place c.args.words.now) c.in_err-write_number-2.ensures)

pub returns : goal.returns
returns g c =
    number-later c.write_line.result _ _ _ (codes "stepmill: part: #") (rest c.args.place c.args.words.now) c.args.number c.in_ok-write_number.ensures
    (writes-later c.write_line.result _ _ _ _ _ _ (parts c.args.place c.args.words.now) c.in_ok-write_number-2.ensures c.write_line.ensures)
