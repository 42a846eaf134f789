use Rattle.sn_clear.proofs.SweptLemmas.{none_swept, next_swept, all_swept}
use Rattle.sn_clear.proofs.swept.swept.Goals as goal

pub loop-run-init : goal.loop-run-init
loop-run-init c = none_swept c.args.g.now c.args.runs.now c.in_ok-plane.plane c.in_ok-plane.ensures.0 c.in_ok-plane.ensures.1

pub loop-run-preserved : goal.loop-run-preserved
loop-run-preserved c =
    next_swept c.args.g.now c.args.runs.now c.loop-run.run-index _ c.loop-run.plane c.put_run.new.plane c.loop-run-test.true
    c.put_run.ensures.grid c.put_run.ensures.nodes c.loop-run.invariant

pub returns-clause-nodes : goal.returns-clause-nodes
returns-clause-nodes c =
    (all_swept c.args.g.now c.args.runs.now c.loop-run.run-index c.loop-run.plane c.loop-run-test.false c.loop-run.invariant).nodes
