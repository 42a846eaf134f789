use Rattle.std.proofs.Common.{sym, ◌∙◌, arith}
use Rattle.sn_clear.specs.Rows.{has_useful}
use Rattle.sn_clear.proofs.PlaceLemmas.{count_none, one_counted, none_counted}
use Rattle.sn_clear.proofs.rows.useful_rows.Goals as goal
use Rattle.sn_clear.proofs.rows.useful_rows.Goals.{then-has_useful, else-has_useful}

pub loop-row-init : goal.loop-row-init
loop-row-init c = record { counted = sym (count_none (has_useful c.args.f.now)); small = omega arith }

pub loop-row-preserved : goal.loop-row-preserved
loop-row-preserved c =
    let p = has_useful c.args.f.now in
    elim c.if-has_useful.branch [
      | then-has_useful w ↦ record {
        counted = w.count-is ∙ one_counted p c.loop-row.row c.loop-row.count (sym c.has_useful.ensures ∙ w.if-has_useful.true) c.loop-row.invariant.counted;
        small = omega (arith, w.count-is, c.loop-row.invariant.small);
      }
      | else-has_useful w ↦ record {
        counted = w.count-is ∙ none_counted p c.loop-row.row c.loop-row.count (sym c.has_useful.ensures ∙ w.if-has_useful.false) c.loop-row.invariant.counted;
        small = omega (arith, w.count-is, c.loop-row.invariant.small);
      }
    ]
