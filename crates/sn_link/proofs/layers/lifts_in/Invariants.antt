use Rattle.std.proofs.Common.{◌≡◌, ◌+◌, ◌≤◌, false, drop}
use Rattle.sn_link.specs.Layering.{lifts_after}
use Rattle.sn_link.proofs.layers.lifts_in.Given as goal

abbrev pub invariant-loop-to : goal.invariant-loop-to
invariant-loop-to l = record {
  so_far : l.lifts + lifts_after l.feeds (drop l.to-index l.moves) ≡ lifts_after false l.moves;
  few : l.lifts ≤ l.to-index;
}
