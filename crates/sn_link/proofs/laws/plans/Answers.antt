use Rattle.sn_link.proofs.CountLawLemmas.{steps_are_counted}
use Rattle.sn_link.proofs.OnePlanLemmas.{one_highest}
use Rattle.sn_link.proofs.PlanLawLemmas.{tips_are_kept, one_plan, nothing_to_cut_no_moves, repeated_steps_rest, steps_begin_at_the_tip, drills_plunge}
use Rattle.sn_link.proofs.laws.plans.Goals as goal

pub returns-clause-tips : goal.returns-clause-tips
returns-clause-tips c = tips_are_kept

pub returns-clause-one_highest : goal.returns-clause-one_highest
returns-clause-one_highest c = one_highest

pub returns-clause-one_plan : goal.returns-clause-one_plan
returns-clause-one_plan c = one_plan c.clearing.ensures.same

pub returns-clause-no_moves : goal.returns-clause-no_moves
returns-clause-no_moves c = nothing_to_cut_no_moves c.clearing.ensures.same c.clearing.ensures.none

pub returns-clause-repeated : goal.returns-clause-repeated
returns-clause-repeated c = repeated_steps_rest

pub returns-clause-begin_at_the_tip : goal.returns-clause-begin_at_the_tip
returns-clause-begin_at_the_tip c = steps_begin_at_the_tip

pub returns-clause-drills : goal.returns-clause-drills
returns-clause-drills c = drills_plunge c.clearing.ensures.same

pub returns-clause-counted : goal.returns-clause-counted
returns-clause-counted c = steps_are_counted
