use Rattle.std.proofs.Common.{◌≡◌, List, ℕ, ◌++◌, append_assoc, ◌∙◌, ap}
use Rattle.std.specs.Prelude.{codes, decimal}
use Rattle.sn_io.proofs.SinkLemmas.{writes-first, writes-later}
use Rattle.sn_message.specs.FaultText.{placed_text}
use Rattle.sn_message.proofs.RefusalLemmas.{line_parts, number-first, number-later}
use Rattle.sn_message.proofs.message.write_counts.Goals as goal

-- what comes behind the number of the instance
abbrev rest : ℕ → ℕ → List ℕ
rest wanted given = (codes " has " ++ (decimal given ++ (codes " parameters and wants " ++ decimal wanted))) ++ codes "\n"

parts : (wanted given : ℕ) → rest wanted given ≡ (codes " has " ++ decimal given) ++ placed_text (codes " parameters and wants ") wanted
parts wanted given =
    line_parts (codes " has ") (decimal given) (codes " parameters and wants " ++ decimal wanted) (codes "\n")
    ∙ ap (λ (text : List ℕ). (codes " has " ++ decimal given) ++ text) (append_assoc (codes " parameters and wants ") (decimal wanted) (codes "\n"))

pub returns-in_err-write_number : goal.returns-in_err-write_number
returns-in_err-write_number g c =
    number-first c.from_residual.result _ _ (codes "stepmill: part: #") (rest c.args.wanted c.args.given) c.args.number c.from_residual.ensures.0 c.in_err-write_number.ensures

pub returns-in_err-write_number-2 : goal.returns-in_err-write_number-2
returns-in_err-write_number-2 g c =
    number-later c.from_residual-in_err-write_number-2.result _ _ _ (codes "stepmill: part: #") (rest c.args.wanted c.args.given) c.args.number c.in_ok-write_number.ensures
    (writes-first c.from_residual-in_err-write_number-2.result _ _ _ _ _ c.from_residual-in_err-write_number-2.ensures.0 (parts c.args.wanted c.args.given) c.in_err-write_number-2.ensures)

pub returns : goal.returns
returns g c =
    number-later c.write_place.result _ _ _ (codes "stepmill: part: #") (rest c.args.wanted c.args.given) c.args.number c.in_ok-write_number.ensures
    (writes-later c.write_place.result _ _ _ _ _ _ (parts c.args.wanted c.args.given) c.in_ok-write_number-2.ensures c.write_place.ensures)
