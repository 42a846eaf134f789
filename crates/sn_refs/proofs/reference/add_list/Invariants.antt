use Rattle.std.proofs.Common.{◌≡◌, ◌++◌, map, take}
use Rattle.sn_refs.specs.Reference.{reference}
use Rattle.sn_refs.proofs.reference.add_list.Given as goal

abbrev pub invariant-loop-target : goal.invariant-loop-target
invariant-loop-target l = l.found.items ≡ l.fn.found.items ++ map (reference l.place l.group) (take l.target-index l.targets)
