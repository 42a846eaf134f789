use Rattle.std.proofs.Common.{◌*◌, ◌<◌, sym, arith}
use Rattle.sn_clear.proofs.ColumnLemmas.{columns-none, column_added, column_passed}
use Rattle.sn_clear.proofs.columns.push_columns.Goals as goal
use Rattle.sn_clear.proofs.columns.push_columns.Goals.{then-left-k+in_ok-push_column, else-left-k}

pub loop-k-init : goal.loop-k-init
loop-k-init c =
    λ targets left. record { made = sym (columns-none c.args.f.now targets c.args.strokes.now.items); is_left = left }

pub loop-k-preserved : goal.loop-k-preserved
loop-k-preserved c =
    let f = c.args.f.now in
    let below : c.loop-k.k < f.columns * f.rows = omega (arith, c.loop-k-test.true, c.nodes-k-end.ensures) in
    λ targets left.
    let so_far = c.loop-k.invariant targets left in
    elim c.if-left-k.branch [
      | then-left-k+in_ok-push_column w ↦
          rw (w.strokes-is, w.left-is)
          (column_added f targets c.loop-k.left w.push_column.new.left c.args.strokes.now.items c.loop-k.strokes.items w.push_column.new.strokes.items
          c.loop-k.k below so_far w.if-left-k.true w.in_ok-push_column.ensures.strokes w.in_ok-push_column.ensures.left)
      | else-left-k w ↦
          rw (w.strokes-is, w.left-is)
          (column_passed f targets c.loop-k.left c.args.strokes.now.items c.loop-k.strokes.items c.loop-k.k below so_far w.if-left-k.false)
    ]
