use Rattle.std.proofs.Common.{◌≡◌, List, ℕ, ◌++◌, refl}
use Rattle.std.specs.Prelude.{codes, decimal}
use Rattle.sn_io.proofs.SinkLemmas.{writes-first, writes-later}
use Rattle.sn_message.proofs.RefusalLemmas.{two_parts, number-first, number-later}
use Rattle.sn_message.proofs.message.write_wrong_kind.Goals as goal

-- what comes behind the number of the instance
abbrev rest : ℕ → ℕ → List ℕ
rest place named = (codes " parameter " ++ (decimal place ++ (codes " names #" ++ (decimal named ++ codes " of a wrong kind")))) ++ codes "\n"

-- what comes behind the place
abbrev last : ℕ → List ℕ
last named = (codes " names #" ++ decimal named) ++ codes " of a wrong kind\n"

parts : (place named : ℕ) → rest place named ≡ (codes " parameter " ++ decimal place) ++ last named
parts place named = two_parts (codes " parameter ") (decimal place) (codes " names #") (decimal named) (codes " of a wrong kind") (codes "\n")

pub returns-in_err-write_number : goal.returns-in_err-write_number
returns-in_err-write_number g c =
    number-first c.from_residual.result _ _ (codes "stepmill: part: #") (rest c.args.place c.args.named) c.args.number c.from_residual.ensures.0 c.in_err-write_number.ensures

pub returns-in_err-write_number-2 : goal.returns-in_err-write_number-2
returns-in_err-write_number-2 g c =
    number-later c.from_residual-in_err-write_number-2.result _ _ _ (codes "stepmill: part: #") (rest c.args.place c.args.named) c.args.number c.in_ok-write_number.ensures
    (writes-first c.from_residual-in_err-write_number-2.result _ _ _ _ _ c.from_residual-in_err-write_number-2.ensures.0 (parts c.args.place c.args.named) c.in_err-write_number-2.ensures)

pub returns-in_err-write_number-3 : goal.returns-in_err-write_number-3
returns-in_err-write_number-3 g c =
    number-later c.from_residual-in_err-write_number-3.result _ _ _ (codes "stepmill: part: #") (rest c.args.place c.args.named) c.args.number c.in_ok-write_number.ensures
    (writes-later c.from_residual-in_err-write_number-3.result _ _ _ _ _ _ (parts c.args.place c.args.named) c.in_ok-write_number-2.ensures
    (writes-first c.from_residual-in_err-write_number-3.result _ _ _ _ _ c.from_residual-in_err-write_number-3.ensures.0 refl c.in_err-write_number-3.ensures))

pub returns : goal.returns
returns g c =
    number-later c.write_all.result _ _ _ (codes "stepmill: part: #") (rest c.args.place c.args.named) c.args.number c.in_ok-write_number.ensures
    (writes-later c.write_all.result _ _ _ _ _ _ (parts c.args.place c.args.named) c.in_ok-write_number-2.ensures
    (writes-later c.write_all.result _ _ _ _ _ _ refl c.in_ok-write_number-3.ensures c.write_all.ensures))
