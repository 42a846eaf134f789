use Rattle.std.proofs.Common.{◌≡◌}
use Rattle.sn_open.specs.Reach.{IsReachedFeature}
use Rattle.sn_open.proofs.ReachLemmas.{IsPassed}
use Rattle.sn_open.proofs.reach.unreached_in.Given as goal

abbrev pub invariant-loop-k : goal.invariant-loop-k
invariant-loop-k l = record {
  own : l.required.grid ≡ l.g;
  opening : l.opening.grid ≡ l.g;
  reached : l.reached.grid ≡ l.g;
  passed : IsPassed (IsReachedFeature l.j) l.j.steps l.k;
}
