use Rattle.std.proofs.Common.{◌≡◌, ◌++◌, replicate}
use Rattle.sn_gwrite.proofs.text.Text.push_zeros.Given as goal

abbrev pub invariant-loop-place : goal.invariant-loop-place
invariant-loop-place l = l.self ≡ l.fn.self ++ replicate l._place 48
