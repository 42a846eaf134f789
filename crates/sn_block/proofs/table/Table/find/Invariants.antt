use Rattle.std.proofs.Common.{◌≡◌, drop}
use Rattle.std.specs.List.{find}
use Rattle.sn_geom.specs.LineTable.{is_word}
use Rattle.sn_block.proofs.table.Table.find.Given as goal

abbrev pub invariant-loop-row : goal.invariant-loop-row
invariant-loop-row g l = find (is_word l.word) l.self.rows ≡ find (is_word l.word) (drop l.row-index l.self.rows)
