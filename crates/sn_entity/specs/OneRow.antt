-- MEANING (this project's own): the row of an instance.
use Rattle.std.specs.Prelude.{◌≡◌}
use Rattle.sn_p21.specs.declared.file.Entity.{Entity}
use Rattle.sn_p21.specs.declared.file.Instance.{Instance}
use Rattle.sn_entity.specs.declared.row.RowId.{RowId}
use Rattle.sn_entity.specs.Shows.{HasRow}

-- an instance has one row at most
abbrev pub OneRow : Type 0
OneRow = (i : Instance) (d e : Entity) (id other : RowId) → HasRow i d id → HasRow i e other → id ≡ other
