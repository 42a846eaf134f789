use Rattle.std.proofs.Common.{◌≡◌, drop}
use Rattle.sn_walk.specs.Condition.{assigned as assigned_to}
use Rattle.sn_walk.proofs.condition.assigned.Given as goal

abbrev pub invariant-loop-set : goal.invariant-loop-set
invariant-loop-set l = assigned_to l.sets l.name ≡ assigned_to (drop l.set-index l.sets) l.name
