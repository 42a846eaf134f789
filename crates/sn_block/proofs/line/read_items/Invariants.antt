use Rattle.sn_block.specs.Steps.{place_of}
use Rattle.sn_block.proofs.Reading.{IsRead}
use Rattle.sn_block.proofs.line.read_items.Given as goal

abbrev pub invariant-loop-i : goal.invariant-loop-i
invariant-loop-i l = IsRead l.line l.i (place_of l.place) l.said
