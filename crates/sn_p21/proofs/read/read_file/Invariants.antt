use Rattle.std.proofs.Common.{◌-◌, length}
use Rattle.sn_p21.proofs.WordsRead.{ReadTo}
use Rattle.sn_p21.proofs.read.read_file.Given as goal

abbrev pub invariant-loop-found : goal.invariant-loop-found
invariant-loop-found l = ReadTo l.bytes l.at l.reader

abbrev pub decreases-loop-found : goal.decreases-loop-found
decreases-loop-found l = length l.bytes - l.at
