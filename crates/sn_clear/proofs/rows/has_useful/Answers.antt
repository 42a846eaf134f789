use Rattle.std.proofs.Common.{sym, ◌∙◌, arith}
use Rattle.sn_clear.specs.Field.{is_useful}
use Rattle.sn_clear.proofs.PlaceLemmas.{none_passes, none_passes_yet, one_passes}
use Rattle.sn_clear.proofs.rows.has_useful.Goals as goal

pub loop-column-init : goal.loop-column-init
loop-column-init c = none_passes (λ column. is_useful c.args.f.now (record { column = column; row = c.args.row }))

pub returns-then-is_useful : goal.returns-then-is_useful
returns-then-is_useful c =
    sym (one_passes (λ column. is_useful c.args.f.now (record { column = column; row = c.args.row })) c.args.f.now.columns c.loop-column.column
    (omega (arith, c.loop-column-test.true, c.columns-column-end.ensures)) (sym c.is_useful.ensures ∙ c.if-is_useful.true))

pub loop-column-preserved : goal.loop-column-preserved
loop-column-preserved c =
    none_passes_yet (λ column. is_useful c.args.f.now (record { column = column; row = c.args.row })) c.loop-column.column c.loop-column.invariant
    (sym c.is_useful.ensures ∙ c.if-is_useful.false)
