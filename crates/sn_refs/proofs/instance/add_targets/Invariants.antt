use Rattle.std.proofs.Common.{◌≡◌, ◌++◌, ℕ, List, take}
use Rattle.sn_refs.specs.Reference.{AreTargets}
use Rattle.sn_refs.proofs.instance.add_targets.Given as goal

abbrev pub invariant-loop-reference : goal.invariant-loop-reference
invariant-loop-reference l = (targets : List ℕ) × (l.found.items ≡ l.fn.found.items ++ targets) × AreTargets l.model (take l.reference-index l.references) targets
