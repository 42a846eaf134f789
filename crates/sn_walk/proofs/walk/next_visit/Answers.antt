use Rattle.std.proofs.Common.{reverse, subst}
use Rattle.sn_walk.specs.Pending.{GoesOn}
use Rattle.sn_walk.proofs.PendingLemmas.{does_one}
use Rattle.sn_walk.proofs.walk.next_visit.Goals as goal

pub returns-in-Some-2-clause-on : goal.returns-in-Some-2-clause-on
returns-in-Some-2-clause-on c =
    subst (λ o. GoesOn (reverse c.args.pending.now) (reverse c.args.truths.now) o (reverse c.pop.new.self) (reverse c.settle.new.truths)) c.in-Some-2.is
    (does_one (reverse c.args.pending.now) (reverse c.args.truths.now) c.loop-item.pending c.pop.new.self c.in-Some.item (reverse c.loop-item.truths) (reverse c.settle.new.truths) c.in_ok-n.field-0 c.loop-item.invariant c.in-Some.ensures c.in_ok-n.ensures.same c.in_ok-n.ensures.reached)

pub loop-item-preserved : goal.loop-item-preserved
loop-item-preserved c =
    subst (λ o. GoesOn (reverse c.args.pending.now) (reverse c.args.truths.now) o (reverse c.pop.new.self) (reverse c.settle.new.truths)) c.in_default-2.is
    (does_one (reverse c.args.pending.now) (reverse c.args.truths.now) c.loop-item.pending c.pop.new.self c.in-Some.item (reverse c.loop-item.truths) (reverse c.settle.new.truths) c.in_ok-n.field-0 c.loop-item.invariant c.in-Some.ensures c.in_ok-n.ensures.same c.in_ok-n.ensures.reached)
