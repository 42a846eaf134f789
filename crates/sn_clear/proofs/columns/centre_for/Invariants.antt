use Rattle.std.proofs.Common.{ℕ, ◌≡◌, ◌<◌, None}
use Rattle.sn_clear.specs.Columns.{centre_in}
use Rattle.sn_clear.proofs.columns.centre_for.Given as goal

abbrev pub invariant-loop-column : goal.invariant-loop-column
invariant-loop-column l = (m : ℕ) → m < l.column → centre_in l.f l.spot m ≡ None
