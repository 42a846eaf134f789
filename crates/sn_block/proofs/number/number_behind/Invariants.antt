use Rattle.std.proofs.Common.{◌≡◌, ◌≤◌, take}
use Rattle.std.specs.Prelude.{min}
use Rattle.std.specs.Str.Parse.{digits_value_after}
use Rattle.sn_block.proofs.number.number_behind.Given as goal

abbrev pub invariant-loop-digit : goal.invariant-loop-digit
invariant-loop-digit l = (l.number ≡ min l.most (digits_value_after 10 l.start (take l.digit-index l.digits))) × (l.number ≤ l.most)
