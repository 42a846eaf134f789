use Rattle.std.proofs.Common.{◌≡◌}
use Rattle.sn_open.specs.Reach.{HasRequired}
use Rattle.sn_open.proofs.ReachLemmas.{IsPassed}
use Rattle.sn_open.proofs.reach.small_in.Given as goal

abbrev pub invariant-loop-k : goal.invariant-loop-k
invariant-loop-k l = record {
  own : l.required.grid ≡ l.g;
  passed : IsPassed (HasRequired l.j) l.j.steps l.k;
}
