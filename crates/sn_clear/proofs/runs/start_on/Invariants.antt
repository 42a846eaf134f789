use Rattle.std.proofs.Common.{◌≤◌}
use Rattle.sn_clear.specs.Runs.{is_useful_on}
use Rattle.sn_clear.proofs.PlaceLemmas.{AllPass}
use Rattle.sn_clear.proofs.runs.start_on.Given as goal

abbrev pub invariant-loop-start : goal.invariant-loop-start
invariant-loop-start l = record { before : l.start ≤ l.k; pass : AllPass (is_useful_on l.f l.line) l.start l.k }

abbrev pub decreases-loop-start : goal.decreases-loop-start
decreases-loop-start l = l.start
