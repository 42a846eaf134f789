use Rattle.std.proofs.Common.{◌≡◌, ℕ, ◌+◌, inl, inr, ⊎_elim, refl, subst, arith}
use Rattle.sn_raster.specs.Plane.{Has}
use Rattle.sn_clear.specs.Window.{node_at}
use Rattle.sn_clear.specs.Columns.{IsCentreOf}
use Rattle.sn_clear.proofs.WindowLemmas.{fits_place}
use Rattle.sn_clear.proofs.SweptLemmas.{InSpan, IsPut, one_put, span_is}
use Rattle.sn_clear.proofs.swept.put_run.Goals as goal

pub overflow_cast-row : goal.overflow_cast-row
overflow_cast-row c =
    fits_place c.args.g.now.j0 c.args.g.now.j1 c.args.run.from.row c.rule.ensures.ends.rows.0 c.rule.ensures.ends.rows.1 c.requires.inside.from_row

pub loop-column-preserved : goal.loop-column-preserved
loop-column-preserved c =
    one_put c.args.g.now c.args.run.from.row c.min-first.result c.loop-column.column c.args.plane.now c.loop-column.plane c.put_at.new.plane
    c.loop-column.auto.column c.put_at.ensures.grid c.put_at.ensures.node c.put_at.ensures.others c.loop-column.invariant

pub returns-clause-nodes : goal.returns-clause-nodes
returns-clause-nodes c =
    let run = c.args.run in
    let all : c.loop-column.column ≡ c.max-last.result + 1 = omega (arith, c.loop-column-test.false, c.loop-column.auto.column-end, c.min-first.ensures, c.max-last.ensures) in
    let P : ℕ → Type 0 = λ end. IsPut c.args.g.now run.from.row c.min-first.result end c.args.plane.now c.loop-column.plane in
    let put = subst P all c.loop-column.invariant in
    λ column row below_column below_row.
    let step = put.nodes column row in
    let span = span_is run run.from.row c.min-first.result c.max-last.result column row c.requires.row refl c.min-first.ensures c.max-last.ensures in (
      (λ has.
          ⊎_elim (λ (old : Has c.args.plane.now (node_at c.args.g.now column row)). inl old)
          (λ (s : InSpan run.from.row c.min-first.result (c.max-last.result + 1) column row). inr (span.0 s)) (step.0 has)),
      (λ either.
          ⊎_elim (λ (old : Has c.args.plane.now (node_at c.args.g.now column row)). step.1 (inl old))
          (λ (centre : IsCentreOf run (record { column = column; row = row })). step.1 (inr (span.1 centre))) either),
    )
