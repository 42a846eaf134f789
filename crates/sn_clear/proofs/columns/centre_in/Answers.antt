use Rattle.std.proofs.Common.{◌≡◌, ◌-◌, ◌*◌, ◌<◌, ◌≤◌, inl, inr, None, sym, ap, ◌∙◌, below_more, arith}
use Rattle.std.specs.Option.{is_some}
use Rattle.std.proofs.lemmas.Bool.{cases_lt}
use Rattle.sn_clear.specs.Field.{apart}
use Rattle.sn_clear.specs.Columns.{centre_at}
use Rattle.sn_clear.proofs.DiscLemmas.{IsRoot}
use Rattle.sn_clear.proofs.ColumnLemmas.{none_found, found_here, none_beside, none_above, column_holds, centre_is, centre_not_useful}
use Rattle.sn_clear.proofs.columns.centre_in.Goals as goal

pub returns-then-across-reach-clause-value : goal.returns-then-across-reach-clause-value
returns-then-across-reach-clause-value c =
    let f = c.args.f.now in
    let across : c.abs_diff-across.result ≡ apart c.args.column c.args.spot.column = omega (arith, c.abs_diff-across.ensures) in
    sym (none_beside f c.args.spot c.args.column (rw (← across) (omega (arith, c.if-across-reach.true, c.reach.ensures))))

pub loop-row-init : goal.loop-row-init
loop-row-init c =
    let f = c.args.f.now in
    let across : c.abs_diff-across.result ≡ apart c.args.column c.args.spot.column = c.abs_diff-across.ensures in
    let near : c.abs_diff-across.result * c.abs_diff-across.result ≤ f.reach = omega (arith, c.if-across-reach.false, c.reach.ensures) in
    let root : IsRoot (f.reach - c.abs_diff-across.result * c.abs_diff-across.result) c.isqrt-height.result =
    rw (← c.reach-2.ensures) (record { square_le = c.isqrt-height.ensures.square_le; next_square_gt = c.isqrt-height.ensures.next_square_gt }) in
    λ m before.
    none_above f c.args.spot c.args.column m c.abs_diff-across.result c.isqrt-height.result across near root
    (inl (omega (arith, before, c.saturating_sub-row.ensures)))

pub returns-then-is_useful-clause-value : goal.returns-then-is_useful-clause-value
returns-then-is_useful-clause-value c =
    let f = c.args.f.now in
    let across : c.abs_diff-across.result ≡ apart c.args.column c.args.spot.column = c.abs_diff-across.ensures in
    let near : c.abs_diff-across.result * c.abs_diff-across.result ≤ f.reach = omega (arith, c.if-across-reach.false, c.reach.ensures) in
    let root : IsRoot (f.reach - c.abs_diff-across.result * c.abs_diff-across.result) c.isqrt-height.result =
    rw (← c.reach-2.ensures) (record { square_le = c.isqrt-height.ensures.square_le; next_square_gt = c.isqrt-height.ensures.next_square_gt }) in
    let within : apart c.loop-row.row c.args.spot.row ≤ c.isqrt-height.result =
    omega (arith, c.loop-row.auto.row, c.loop-row-test.true, c.min-row-end.ensures, c.saturating_sub-row.ensures) in
    let below : c.loop-row.row < f.rows = omega (arith, c.loop-row-test.true, c.min-row-end.ensures, c.rows.ensures) in
    let here = centre_is f c.args.spot c.args.column c.loop-row.row (sym c.is_useful.ensures ∙ c.if-is_useful.true)
    ((column_holds f c.args.spot c.args.column c.loop-row.row c.abs_diff-across.result c.isqrt-height.result across near root).0 within) in
    sym (found_here (centre_at f c.args.spot c.args.column) f.rows c.loop-row.row below c.loop-row.invariant (ap is_some here) ∙ here)

pub loop-row-preserved : goal.loop-row-preserved
loop-row-preserved c =
    let f = c.args.f.now in
    below_more (λ m. centre_at f c.args.spot c.args.column m ≡ None) c.loop-row.row c.loop-row.invariant
    (centre_not_useful f c.args.spot c.args.column c.loop-row.row (sym c.is_useful.ensures ∙ c.if-is_useful.false))

pub returns-clause-value : goal.returns-clause-value
returns-clause-value c =
    let f = c.args.f.now in
    let across : c.abs_diff-across.result ≡ apart c.args.column c.args.spot.column = c.abs_diff-across.ensures in
    let near : c.abs_diff-across.result * c.abs_diff-across.result ≤ f.reach = omega (arith, c.if-across-reach.false, c.reach.ensures) in
    let root : IsRoot (f.reach - c.abs_diff-across.result * c.abs_diff-across.result) c.isqrt-height.result =
    rw (← c.reach-2.ensures) (record { square_le = c.isqrt-height.ensures.square_le; next_square_gt = c.isqrt-height.ensures.next_square_gt }) in
    sym (none_found (centre_at f c.args.spot c.args.column) f.rows (λ m below.
    elim (cases_lt m c.loop-row.row) [
      | inl before ↦ c.loop-row.invariant m before
      | inr after ↦
          none_above f c.args.spot c.args.column m c.abs_diff-across.result c.isqrt-height.result across near root
          (inr (omega (arith, after, below, c.loop-row-test.false, c.min-row-end.ensures, c.rows.ensures)))
    ]))
