use Rattle.std.proofs.Common.{◌<◌, inl, inr, sym, ap, ◌∙◌, arith}
use Rattle.std.specs.Option.{is_some}
use Rattle.std.proofs.lemmas.Bool.{cases_lt}
use Rattle.sn_clear.specs.Columns.{centre_in}
use Rattle.sn_clear.proofs.DiscLemmas.{IsRoot}
use Rattle.sn_clear.proofs.ColumnLemmas.{none_found, found_here, none_far}
use Rattle.sn_clear.proofs.columns.centre_for.Goals as goal

pub loop-column-init : goal.loop-column-init
loop-column-init c =
    let f = c.args.f.now in
    let root : IsRoot f.reach c.isqrt-radius.result =
    rw (← c.reach.ensures) (record { square_le = c.isqrt-radius.ensures.square_le; next_square_gt = c.isqrt-radius.ensures.next_square_gt }) in
    λ m before. none_far f c.args.spot m c.isqrt-radius.result root (inl (omega (arith, before, c.saturating_sub-column.ensures)))

pub returns-then-is_some-clause-value : goal.returns-then-is_some-clause-value
returns-then-is_some-clause-value c =
    let f = c.args.f.now in
    let below : c.loop-column.column < f.columns = omega (arith, c.loop-column-test.true, c.min-column-end.ensures, c.columns.ensures) in
    let some = ap is_some (sym c.centre_in-centre.ensures.value) ∙ sym c.is_some.ensures ∙ c.if-is_some.true in
    c.centre_in-centre.ensures.value
    ∙ sym (found_here (centre_in f c.args.spot) f.columns c.loop-column.column below c.loop-column.invariant some)

pub returns-clause-value : goal.returns-clause-value
returns-clause-value c =
    let f = c.args.f.now in
    let root : IsRoot f.reach c.isqrt-radius.result =
    rw (← c.reach.ensures) (record { square_le = c.isqrt-radius.ensures.square_le; next_square_gt = c.isqrt-radius.ensures.next_square_gt }) in
    sym (none_found (centre_in f c.args.spot) f.columns (λ m below.
    elim (cases_lt m c.loop-column.column) [
      | inl before ↦ c.loop-column.invariant m before
      | inr after ↦
          none_far f c.args.spot m c.isqrt-radius.result root
          (inr (omega (arith, after, below, c.loop-column-test.false, c.min-column-end.ensures, c.columns.ensures)))
    ]))
