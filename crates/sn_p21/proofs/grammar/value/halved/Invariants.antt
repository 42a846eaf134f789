use Rattle.std.proofs.Common.{◌≡◌, ◌++◌, ◌-◌, drop, length}
use Rattle.sn_p21.specs.Reader.{halved}
use Rattle.sn_p21.proofs.grammar.value.halved.Given as goal

-- what is out, and the value of what is left, is the value of the whole
abbrev pub invariant-loop-at : goal.invariant-loop-at
invariant-loop-at l = l.value.items ++ halved (drop l.at l.bytes) ≡ halved l.bytes

abbrev pub decreases-loop-at : goal.decreases-loop-at
decreases-loop-at l = length l.bytes - l.at
