use Rattle.sn_link.proofs.FreeWayLemmas.{free_by_test}
use Rattle.sn_link.proofs.free_way.is_free_way.Goals as goal

pub returns : goal.returns
returns c = λ job are.
    free_by_test c.outside.ensures.allowed c.args.allowed.now c.args.step.now c.requires.executed job c.args.from.now c.args.to.now
    are c.lacks_any.result (rw (← c.nodes.ensures) c.lacks_any.ensures.yes) (rw (← c.nodes.ensures) c.lacks_any.ensures.no)
