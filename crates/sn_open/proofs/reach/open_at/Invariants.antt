use Rattle.std.proofs.Common.{◌≡◌}
use Rattle.sn_open.proofs.ReachLemmas.{AreOpened}
use Rattle.sn_open.proofs.reach.open_at.Given as goal

abbrev pub invariant-loop-step : goal.invariant-loop-step
invariant-loop-step l = record {
  opening : l.opening.grid ≡ l.g;
  reached : l.reached.grid ≡ l.g;
  opened : AreOpened l.j l.feature l.z l.reached l.step-index;
}
