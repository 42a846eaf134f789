use Rattle.std.proofs.Common.{take}
use Rattle.std.specs.List.{AllByRecursion}
use Rattle.sn_refs.specs.Reference.{IsOfKind}
use Rattle.sn_refs.proofs.instance.own_fault.Given as goal

abbrev pub invariant-loop-reference : goal.invariant-loop-reference
invariant-loop-reference l = AllByRecursion (IsOfKind l.model) (take l.reference-index l.references)
