use Rattle.std.proofs.Common.{refl}
use Rattle.sn_link.proofs.LayeringLemmas.{ends_cut, goes_on_cut, one_layer, one_layer_more, starts_cut}
use Rattle.sn_link.proofs.layers.push_layers.Goals as goal

pub loop-low-init : goal.loop-low-init
loop-low-init c = record {
  over = c.requires.high;
  few = one_layer c.args.above;
  so_far = starts_cut c.args.allowed.now c.args.step.now c.args.strokes.now c.args.sec c.args.above c.args.moves.now c.feed_start-start.result c.feed_start-start.ensures;
}

pub loop-low-preserved : goal.loop-low-preserved
loop-low-preserved c =
    let is_tip = c.in-Some.ensures.some in
    record {
      over = is_tip.over_floor;
      few = one_layer_more c.args.above c.loop-low.top c.in-Some.low c.loop-low.layers c.loop-low.invariant.few is_tip.lower;
      so_far =
          goes_on_cut c.args.allowed.now c.args.step.now c.args.strokes.now c.args.sec c.args.above c.args.moves.now c.loop-low.top c.loop-low.start c.in-Some.low
          c.start_after-start.result c.layer_at-layer.result c.loop-low.moves c.push_layer.new.moves c.loop-low.layers is_tip
          c.layer_at-layer.ensures c.start_after-start.ensures c.in_ok-push_layer.ensures c.loop-low.invariant.so_far;
    }

pub returns : goal.returns
returns c =
    ends_cut c.args.allowed.now c.args.step.now c.args.strokes.now c.args.sec c.args.above c.args.moves.now c.loop-low.top c.loop-low.start c.lowest-floor.result
    c.layer_at-layer-2.result c.loop-low.moves c.push_layer-2.new.moves c.loop-low.layers c.lowest-floor.ensures (c.in_default.ensures.none refl)
    c.layer_at-layer-2.ensures c.in_ok-push_layer-2.ensures c.loop-low.invariant.so_far
