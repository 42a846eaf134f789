-- MEANING (this project's own): each row that a walk may come to is one of its nodes.
use Rattle.std.specs.Prelude.{Bool, true, false, IsTrue, List}
use Rattle.sn_entity.specs.declared.row.Group.TheVariants.{Exec, Cond, Val}
use Rattle.sn_entity.specs.declared.row.RowId.{RowId}
use Rattle.sn_entity.specs.declared.value.Value.{Value}
use Rattle.sn_entity.specs.Table.{IsInGroup}
use Rattle.sn_walk.specs.declared.node.Node.{Node}
use Rattle.sn_walk.specs.declared.node.Node.TheVariants.{Sequence, Choice, Step, AllOf, AnyOf, OneOf, Opposite, Compared, Variable, Constant}
use Rattle.sn_walk.specs.Node.{node_by}

abbrev pub is_executable : Node → Bool
is_executable Sequence = true
is_executable (Choice condition branch otherwise) = true
is_executable Step = true
is_executable _ = false

abbrev pub is_condition : Node → Bool
is_condition AllOf = true
is_condition AnyOf = true
is_condition (OneOf a b) = true
is_condition (Opposite a) = true
is_condition (Compared comparison a b) = true
is_condition _ = false

abbrev pub is_value : Node → Bool
is_value Variable = true
is_value Constant = true
is_value _ = false

-- the rows of executables, of conditions and of values are nodes that are executed, that hold or do not, and that have values
pub record RowsHaveNodes : Type 0 where
  pub executables : (row : RowId) (values : List Value) → IsInGroup Exec row → IsTrue (is_executable (node_by row values))
  pub conditions : (row : RowId) (values : List Value) → IsInGroup Cond row → IsTrue (is_condition (node_by row values))
  pub values : (row : RowId) (values : List Value) → IsInGroup Val row → IsTrue (is_value (node_by row values))
