use Rattle.std.proofs.Common.{◌≡◌, ◌-◌, ◌++◌}
use Rattle.sn_report.specs.Generated.{draw_features}
use Rattle.sn_report.proofs.draws.draw_features.Given as goal

-- the features so far, and those that are still to be drawn
abbrev pub invariant-loop-place : goal.invariant-loop-place
invariant-loop-place l = l.features.items ++ draw_features (l.count - l._place) l.draws ≡ draw_features l.count l.fn.seed
