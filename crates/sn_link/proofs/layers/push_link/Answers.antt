use Rattle.sn_link.proofs.LayeringLemmas.{fed, lifted}
use Rattle.sn_link.proofs.layers.push_link.Goals as goal

pub returns-then-is_free_way : goal.returns-then-is_free_way
returns-then-is_free_way c =
    fed c.args.allowed.now c.args.step.now c.args.layer.now c.args.from.now c.args.to.now c.is_free_way.result c.is_free_way.ensures
    c.args.moves.now c.push_feed.new.moves c.if-is_free_way.true c.in_ok-push_feed.ensures

pub returns : goal.returns
returns c =
    lifted c.args.allowed.now c.args.step.now c.args.layer.now c.args.from.now c.args.to.now c.is_free_way.result c.is_free_way.ensures
    c.args.moves.now c.push_lift.new.moves c.push_approach.new.moves c.if-is_free_way.false c.in_ok-push_lift.ensures c.in_ok-push_approach.ensures
