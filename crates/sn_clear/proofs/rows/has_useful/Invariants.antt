use Rattle.std.proofs.Common.{◌≡◌, false}
use Rattle.sn_clear.specs.Field.{is_useful}
use Rattle.sn_clear.specs.Places.{passes_before}
use Rattle.sn_clear.proofs.rows.has_useful.Given as goal

abbrev pub invariant-loop-column : goal.invariant-loop-column
invariant-loop-column l = passes_before (λ column. is_useful l.f (record { column = column; row = l.row })) l.column ≡ false
