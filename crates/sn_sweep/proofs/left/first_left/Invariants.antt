use Rattle.std.proofs.Common.{◌≡◌}
use Rattle.sn_sweep.proofs.LeftLemmas.{IsPassed}
use Rattle.sn_sweep.proofs.left.first_left.Given as goal

abbrev pub invariant-loop-k : goal.invariant-loop-k
invariant-loop-k l = record {
  own : l.required.grid ≡ l.g;
  passed : IsPassed l.j l.heights l.k;
}
