use Rattle.std.proofs.Common.{take}
use Rattle.sn_entity.specs.Shows.{AreGiven}
use Rattle.sn_entity.proofs.reads.values_of.Given as goal

abbrev pub invariant-loop-read : goal.invariant-loop-read
invariant-loop-read l = AreGiven l.entity (take l.read-index l.reads) l.values
