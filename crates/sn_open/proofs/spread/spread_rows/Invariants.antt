use Rattle.sn_open.specs.declared.spread.Direction.TheVariants.{Rising, Falling}
use Rattle.sn_open.specs.Spread.{quarter_of, AreGaps, Gains, HasAllTakenIn}
use Rattle.sn_open.proofs.spread.spread_rows.Given as goal

abbrev pub invariant-loop-row : goal.invariant-loop-row
invariant-loop-row l = record {
  gaps : AreGaps l.from l.on l.along l.row l.gaps;
  gains : Gains l.from l.on l.widths l.fn.to l.to;
  rising : HasAllTakenIn l.from l.on (quarter_of Rising l.along) l.widths l.to l.row;
  falling : HasAllTakenIn l.from l.on (quarter_of Falling l.along) l.widths l.to l.row;
}
