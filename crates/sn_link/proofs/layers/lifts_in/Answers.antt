use Rattle.std.proofs.Common.{false, arith}
use Rattle.sn_link.specs.Layering.{lifts_after}
use Rattle.sn_link.proofs.LiftLemmas.{next_lift}
use Rattle.sn_link.proofs.layers.lifts_in.Goals as goal

pub loop-to-preserved : goal.loop-to-preserved
loop-to-preserved c =
    let few = c.loop-to.invariant.few in
    record {
      so_far = next_lift c.args.moves.now c.loop-to.to-index c.to-item.result c.loop-to.feeds c.is_feed-feeds.result c.loop-to.lifts c.lift_of-lifts.result
          (lifts_after false c.args.moves.now) c.loop-to-test.true c.to-item.is c.is_feed-feeds.ensures c.lift_of-lifts.ensures.next c.loop-to.invariant.so_far;
      few = omega (arith, few, c.lift_of-lifts.ensures.size);
    }
