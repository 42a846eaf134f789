use Rattle.std.proofs.Common.{◌≡◌, ◌++◌, map, reverse}
use Rattle.sn_walk.specs.declared.walk.Item.TheVariants.{Visit}
use Rattle.sn_walk.proofs.walk.push_visits.Given as goal

abbrev pub invariant-loop-n : goal.invariant-loop-n
invariant-loop-n l = reverse l.pending ≡ map Visit (reverse l.yielded) ++ reverse l.initial.pending
