use Rattle.std.proofs.Common.{◌≡◌, ◌≤◌, ◌++◌, length, drop}
use Rattle.sn_geom.specs.LineText.{run}
use Rattle.sn_block.proofs.run.run_of.Given as goal

abbrev pub invariant-loop-byte : goal.invariant-loop-byte
invariant-loop-byte l = (l.text ++ run (drop l.byte-index l.bytes) ≡ run l.bytes) × (length l.text ≤ l.byte-index)
