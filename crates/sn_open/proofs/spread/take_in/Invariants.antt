use Rattle.sn_open.specs.Window.{columns}
use Rattle.sn_open.specs.Spread.{IsReach, GainsInRow}
use Rattle.sn_open.proofs.spread.take_in.Given as goal

abbrev pub invariant-loop-k : goal.invariant-loop-k
invariant-loop-k l = record {
  reach : IsReach l.widths l.gaps l.across (columns l.g) l.k l.reach;
  gains : GainsInRow l.widths l.gaps l.across l.g l.row l.k l.fn.to l.to;
}
