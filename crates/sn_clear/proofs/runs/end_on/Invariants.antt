use Rattle.std.proofs.Common.{◌≤◌, ◌<◌, ◌+◌, ◌-◌}
use Rattle.sn_clear.specs.Runs.{is_useful_on}
use Rattle.sn_clear.proofs.PlaceLemmas.{AllPass}
use Rattle.sn_clear.proofs.runs.end_on.Given as goal

abbrev pub invariant-loop-end : goal.invariant-loop-end
invariant-loop-end l = record {
  after : l.k ≤ l.end;
  within : l.end < l.count;
  pass : AllPass (is_useful_on l.f l.line) (l.k + 1) (l.end + 1);
}

abbrev pub decreases-loop-end : goal.decreases-loop-end
decreases-loop-end l = l.count - l.end
