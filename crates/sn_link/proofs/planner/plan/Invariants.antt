use Rattle.sn_link.proofs.PlanLemmas.{ArePlanned}
use Rattle.sn_link.proofs.planner.plan.Given as goal

abbrev pub invariant-loop-k : goal.invariant-loop-k
invariant-loop-k l = ArePlanned l.g l.j l.steps l.k l.plans l.progress
