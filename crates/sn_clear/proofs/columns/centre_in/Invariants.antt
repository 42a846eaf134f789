use Rattle.std.proofs.Common.{ℕ, ◌≡◌, ◌<◌, None}
use Rattle.sn_clear.specs.Columns.{centre_at}
use Rattle.sn_clear.proofs.columns.centre_in.Given as goal

abbrev pub invariant-loop-row : goal.invariant-loop-row
invariant-loop-row l = (m : ℕ) → m < l.row → centre_at l.f l.fn.spot l.column m ≡ None
