-- PRIVATE: a cell as it is written.
use Rattle.std.specs.Prelude.{ℕ, List, ◌++◌, codes}
use Rattle.std.specs.Fmt.{signed_decimal}
use Rattle.sn_geom.specs.declared.units.Cell.{Cell}

-- the column, the row and the height of a cell, each behind its letter
abbrev pub cell_text : Cell → List ℕ
cell_text c = codes " i " ++ (signed_decimal c.i ++ (codes " j " ++ (signed_decimal c.j ++ (codes " z " ++ signed_decimal c.z))))
