use Rattle.std.specs.List.{AllWithin}
use Rattle.sn_open.specs.Least.{IsNotMore}
use Rattle.sn_open.proofs.least.has_least.Given as goal

abbrev pub invariant-loop-other : goal.invariant-loop-other
invariant-loop-other l = AllWithin (IsNotMore l.allowance l.step) l.steps 0 l.other-index
