use Rattle.std.proofs.Common.{◌+◌, ap, refl, subst, sym, arith}
use Rattle.sn_open.specs.Window.{columns, node_at}
use Rattle.sn_open.specs.Spread.{GainsInRow}
use Rattle.sn_open.proofs.SpreadLemmas.{place_by, reach_by, reached_by, beyond_reached, gains_reached, gains_unreached}
use Rattle.sn_open.proofs.WindowLemmas.{put_in}
use Rattle.sn_open.proofs.spread.take_in.Goals.{then-reach-from, else-reach-from}
use Rattle.sn_open.proofs.spread.take_in.Goals as goal

pub loop-k-preserved : goal.loop-k-preserved
loop-k-preserved c =
    let before = c.loop-k.invariant in
    let g = c.args.g.now in
    let widths = c.args.widths.now in
    let gaps = c.args.gaps.now in
    let k = c.loop-k.k in
    let place = place_by c.args.across (columns g) _ k _ c.columns_of-count.ensures.value c.place_of-column.ensures.value in
    let reach = reach_by widths gaps c.args.across (columns g) k _ c.loop-k.reach c.max-reach.result place before.reach (omega (arith, c.max-reach.ensures, c.from.ensures, c.from-in-loop-k.ensures)) in
    record {
      reach = reach;
      gains = elim c.if-reach-from.branch [
        | then-reach-from w ↦
            let new = w.put_at.new.plane in
            let nodes = put_in c.loop-k.to new _ (node_at g c.place_of-column.result c.args.row) refl w.put_at.ensures.node w.put_at.ensures.others in
            let far = reached_by widths gaps c.args.across (columns g) k _ reach (omega (arith, w.if-reach-from.true, c.from-in-loop-k-2.ensures)) in
            let gains = gains_reached widths gaps c.args.across g c.args.row k _ c.args.to.now c.loop-k.to new w.put_at.ensures.grid (omega (arith, c.loop-k-test.true, c.columns_of-count.ensures.value)) before.gains far
            (ap (λ l. node_at g l c.args.row) place) nodes in
            subst (λ p. GainsInRow widths gaps c.args.across g c.args.row (k + 1) c.args.to.now p) (sym w.to-is) gains
        | else-reach-from w ↦
            let gains = gains_unreached widths gaps c.args.across g c.args.row k c.args.to.now c.loop-k.to before.gains
            (λ far. let beyond = beyond_reached widths gaps c.args.across (columns g) k _ reach far in omega (arith, beyond, w.if-reach-from.false, c.from-in-loop-k-2.ensures)) in
            subst (λ p. GainsInRow widths gaps c.args.across g c.args.row (k + 1) c.args.to.now p) (sym w.to-is) gains
      ];
    }
