use Rattle.std.proofs.Common.{take}
use Rattle.sn_refs.specs.Path.{IsLeastOf}
use Rattle.sn_refs.proofs.walk.least.Given as goal

abbrev pub invariant-loop-n : goal.invariant-loop-n
invariant-loop-n l = IsLeastOf l.fn.before (take l.n-index l.numbers) l.least
