use Rattle.sn_clear.proofs.SweptLemmas.{IsPut}
use Rattle.sn_clear.proofs.swept.put_run.Given as goal

abbrev pub invariant-loop-column : goal.invariant-loop-column
invariant-loop-column l = IsPut l.g l.row l.first l.column l.fn.plane l.plane
