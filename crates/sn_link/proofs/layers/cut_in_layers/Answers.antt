use Rattle.std.proofs.Common.{refl}
use Rattle.sn_link.proofs.LayeringLemmas.{cut_as, cut_within}
use Rattle.sn_link.proofs.layers.cut_in_layers.Goals as goal

pub returns-clause-within : goal.returns-clause-within
returns-clause-within c =
    let (job, same, are) = c.requires.own in
    cut_within job c.args.step.now c.args.strokes.now c.args.above c.args.tip c.new-all.result c.push_layers.new.moves c.as_slice-all.result.now c.in_ok-moves.moves c.in_ok-layers.layers
    (c.in_ok-layers.ensures job same are) c.new-all.ensures c.as_slice-all.ensures c.in_ok-moves.ensures

pub returns-clause-cut : goal.returns-clause-cut
returns-clause-cut c = λ job same are.
    cut_as job c.args.step.now c.args.strokes.now c.args.above c.args.tip c.new-all.result c.push_layers.new.moves c.as_slice-all.result.now c.in_ok-moves.moves c.in_ok-layers.layers
    (c.in_ok-layers.ensures job same are) c.new-all.ensures c.as_slice-all.ensures c.in_ok-moves.ensures c.lifts_in-lifts.result _ refl c.lifts_in-lifts.ensures
    c.requires.high c.requires.some
