use Rattle.std.proofs.Common.{ap, ◌∙◌}
use Rattle.sn_open.proofs.WindowLemmas.{kept, raw_test}
use Rattle.sn_open.proofs.window.is_raw_at.Goals as goal

pub returns-then-across : goal.returns-then-across
returns-then-across c =
    let ends = c.g.invariant.ends in
    raw_test c.args.g.now c.args.column c.args.row _ _ _ _ _ _ c.is_between-across.result c.is_between-along.result
    (kept _ ends.raw_columns.0 ∙ ap (λ g. g.ri0) c.g.view_is) (kept _ ends.columns.0 ∙ ap (λ g. g.i0) c.g.view_is) (kept _ ends.raw_columns.1 ∙ ap (λ g. g.ri1) c.g.view_is)
    (kept _ ends.raw_rows.0 ∙ ap (λ g. g.rj0) c.g.view_is) (kept _ ends.rows.0 ∙ ap (λ g. g.j0) c.g.view_is) (kept _ ends.raw_rows.1 ∙ ap (λ g. g.rj1) c.g.view_is)
    c.is_between-across.ensures c.is_between-along.ensures c.if-across.true
