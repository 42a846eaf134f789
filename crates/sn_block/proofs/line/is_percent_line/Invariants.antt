use Rattle.sn_block.proofs.Percent.{Shows}
use Rattle.sn_block.proofs.line.is_percent_line.Given as goal

abbrev pub invariant-loop-byte : goal.invariant-loop-byte
invariant-loop-byte l = Shows l.line l.byte-index l.seen
