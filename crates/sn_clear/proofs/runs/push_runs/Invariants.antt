use Rattle.std.proofs.Common.{◌≡◌, ◌++◌}
use Rattle.sn_clear.specs.Runs.{runs_before}
use Rattle.sn_clear.proofs.runs.push_runs.Given as goal

abbrev pub invariant-loop-k : goal.invariant-loop-k
invariant-loop-k l = l.strokes.items ≡ l.fn.strokes.items ++ runs_before l.f l.line l.k
