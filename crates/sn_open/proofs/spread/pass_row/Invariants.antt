use Rattle.sn_open.specs.Spread.{ArePassing}
use Rattle.sn_open.proofs.spread.pass_row.Given as goal

abbrev pub invariant-loop-column : goal.invariant-loop-column
invariant-loop-column l = record { gaps : ArePassing l.from l.on l.fn.along l.fn.row l.column l.gaps }
