use Rattle.std.proofs.Common.{take}
use Rattle.sn_entity.specs.Form.{AreRefs}
use Rattle.sn_entity.proofs.param.references.Given as goal

abbrev pub invariant-loop-param : goal.invariant-loop-param
invariant-loop-param l = AreRefs (take l.param-index l.params) l.refs
