use Rattle.sn_report.specs.Generated.{draw_features}
use Rattle.sn_report.proofs.DrawLemmas.{next_drawn, all_drawn}
use Rattle.sn_report.proofs.draws.draw_features.Goals as goal

pub loop-place-preserved : goal.loop-place-preserved
loop-place-preserved c =
    next_drawn (draw_features c.args.count c.args.seed) c.loop-place.features.items _ c.feature.result c.args.count c.loop-place._place c.loop-place.draws _ c.loop-place-test.true c.feature.ensures.feature c.feature.ensures.state (c.in_ok-push.ensures.items) c.loop-place.invariant

pub returns : goal.returns
returns c =
    all_drawn (draw_features c.args.count c.args.seed) c.loop-place.features.items c.args.count c.loop-place._place c.loop-place.draws c.loop-place-test.false c.loop-place.invariant
