use Rattle.std.proofs.Common.{ℕ, ◌∷◌, Option, Ok, ap, reverse, subst}
use Rattle.sn_walk.specs.declared.walk.Item.TheVariants.{Visit}
use Rattle.sn_walk.specs.Pending.{IsAt, coming}
use Rattle.sn_walk.proofs.PendingLemmas.{goes_on, settles}
use Rattle.sn_walk.proofs.walk.executed.Goals as goal

pub loop-next-preserved : goal.loop-next-preserved
loop-next-preserved c =
    let m = c.args.c.now in
    let sets = c.args.sets.now in
    let walk = c.loop-next.walk in
    let new = c.visit.new.walk in
    let before : IsAt m sets walk.visits walk.steps (Visit c.in-Some.n ∷ reverse walk.pending) (reverse walk.truths) = subst (λ (o : Option ℕ). IsAt m sets walk.visits walk.steps (coming o (reverse walk.pending)) (reverse walk.truths)) c.in-Some.is c.loop-next.invariant.at in
    let after : IsAt m sets new.visits new.steps (reverse new.pending) (reverse new.truths) =
    goes_on c.instances_lead.ensures c.walk_goes_on.ensures.truth c.walk_goes_on.ensures.walk m c.rule.ensures.checked.model c.rule.ensures.sound sets walk.visits walk.steps c.in-Some.n (reverse walk.pending) (reverse walk.truths) before
    new.visits new.steps (reverse new.pending) (reverse new.truths) c.in_ok-visit.ensures.passed c.in_ok-visit.ensures.visits.0 c.in_ok-visit.ensures.visits.1 c.in_ok-visit.ensures.steps c.in_ok-visit.ensures.pending c.in_ok-visit.ensures.truths in
    record {
      at = settles m sets new.visits new.steps (reverse new.pending) (reverse new.truths) c.in_ok-next.next (reverse c.next_visit.new.pending) (reverse c.next_visit.new.truths) after c.in_ok-next.ensures.on;
      ends = λ e. c.in_ok-next.ensures.ends (ap Ok e);
    }
