use Rattle.std.proofs.Common.{◌≡◌, ◌++◌, drop}
use Rattle.sn_lex.specs.Form.{doubled}
use Rattle.sn_p21.proofs.write.put_doubled.Given as goal

abbrev pub invariant-loop-byte : goal.invariant-loop-byte
invariant-loop-byte l = l.out.items ++ doubled (drop l.byte-index l.value) ≡ l.fn.out.items ++ doubled l.value
