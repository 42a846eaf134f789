use Rattle.std.proofs.Common.{drop}
use Rattle.sn_fit.proofs.FitLemmas.{IsAlong}
use Rattle.sn_fit.proofs.trail.strokes_along.Given as goal

abbrev pub invariant-loop-to : goal.invariant-loop-to
invariant-loop-to l = IsAlong l.points l.from (drop l.to-index l.rest) l.strokes
