use Rattle.std.proofs.Common.{◌≡◌, ◌++◌, reverse}
use Rattle.sn_walk.specs.Pending.{gated}
use Rattle.sn_walk.proofs.walk.push_gated.Given as goal

abbrev pub invariant-loop-n : goal.invariant-loop-n
invariant-loop-n l = reverse l.pending ≡ gated l.gate (reverse l.yielded) ++ reverse l.initial.pending
