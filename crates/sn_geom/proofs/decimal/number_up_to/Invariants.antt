use Rattle.std.proofs.Common.{◌≡◌, ◌≤◌, drop}
use Rattle.std.specs.Str.Parse.{digits_value_after}
use Rattle.sn_geom.proofs.decimal.number_up_to.Given as goal

-- the digits that are left go behind the number so far
abbrev pub invariant-loop-digit : goal.invariant-loop-digit
invariant-loop-digit l =
    (l.number ≤ l.most) × (digits_value_after 10 l.number (drop l.digit-index l.digits) ≡ digits_value_after 10 l.start l.digits)
