-- MEANING (this project's own): what the groups of the table say of a row.
use Rattle.std.specs.Prelude.{◌⊎◌}
use Rattle.sn_entity.specs.declared.row.Group.{Group}
use Rattle.sn_entity.specs.declared.row.RowId.{RowId}
use Rattle.sn_entity.specs.Table.{IsInGroup}

-- a row is in a group or not
abbrev pub InGroupOrNot : Type 0
InGroupOrNot = (group : Group) (row : RowId) → IsInGroup group row ⊎ (¬ IsInGroup group row)
