use Rattle.std.proofs.Common.{◌≡◌, ℕ, List, ◌++◌, length}
use Rattle.sn_lex.specs.Form.{doubled}
use Rattle.sn_lex.proofs.read.after_string.Given as goal

abbrev pub invariant-loop-first : goal.invariant-loop-first
invariant-loop-first l = (value : List ℕ) × (l.bytes ≡ doubled value ++ l.rest)

abbrev pub decreases-loop-first : goal.decreases-loop-first
decreases-loop-first l = length l.rest
