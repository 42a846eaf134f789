-- MEANING (this project's own, after the executables and expressions of ISO 14649-10): what the instances of a sound model are to
-- the walk over it. Values are told by the order in which the row of an instance reads them, from 0.
use Rattle.std.specs.Prelude.{ℕ, List, Option, Some, None, unwrap_or}
use Rattle.sn_entity.specs.declared.row.RowId.{RowId}
use Rattle.sn_entity.specs.declared.row.RowId.TheVariants.{Workplan, IfStatement, MachiningWorkingstep, AndExpression, OrExpression, XorExpression, NotExpression, ComparisonEqual, ComparisonNotEqual, ComparisonLess, ComparisonLessEqual, ComparisonGreater, ComparisonGreaterEqual, NcVariable, NcConstant}
use Rattle.sn_entity.specs.declared.value.Value.{Value}
use Rattle.sn_entity.specs.Given.{one_at, many_at}
use Rattle.sn_model.specs.ModelContent.{ModelContent, row_of_number}
use Rattle.sn_refs.specs.Target.{values_of}
use Rattle.sn_walk.specs.declared.node.Comparison.{Comparison}
use Rattle.sn_walk.specs.declared.node.Comparison.TheVariants.{Equal, NotEqual, Less, LessOrEqual, Greater, GreaterOrEqual}
use Rattle.sn_walk.specs.declared.node.Node.{Node}
use Rattle.sn_walk.specs.declared.node.Node.TheVariants.{Sequence, Choice, Step, AllOf, AnyOf, OneOf, Opposite, Compared, Variable, Constant, Other}

-- the instance that is named at the place; a sound model names one where the row wants one
abbrev pub named_in : List Value → ℕ → ℕ
named_in values k = unwrap_or (one_at values k) 0

abbrev pub compared : Comparison → List Value → Node
compared comparison values = Compared comparison (named_in values 0) (named_in values 1)

-- what an instance of this row is that shows these values
abbrev pub node_by : RowId → List Value → Node
node_by Workplan values = Sequence
node_by IfStatement values = Choice (named_in values 0) (named_in values 1) (one_at values 2)
node_by MachiningWorkingstep values = Step
node_by AndExpression values = AllOf
node_by OrExpression values = AnyOf
node_by XorExpression values = OneOf (named_in values 0) (named_in values 1)
node_by NotExpression values = Opposite (named_in values 0)
node_by ComparisonEqual values = compared Equal values
node_by ComparisonNotEqual values = compared NotEqual values
node_by ComparisonLess values = compared Less values
node_by ComparisonLessEqual values = compared LessOrEqual values
node_by ComparisonGreater values = compared Greater values
node_by ComparisonGreaterEqual values = compared GreaterOrEqual values
node_by NcVariable values = Variable
node_by NcConstant values = Constant
node_by _ values = Other

abbrev pub node_from : Option RowId → List Value → Node
node_from (Some row) values = node_by row values
node_from None values = Other

abbrev pub node_of : ModelContent → ℕ → Node
node_of m n = node_from (row_of_number n m) (values_of n m)

-- the elements of a workplan, or the operands of `and` and `or`
abbrev pub listed : ModelContent → ℕ → List ℕ
listed m n = many_at (values_of n m) 0

-- the project's main workplan
abbrev pub main_workplan : ModelContent → ℕ
main_workplan m = named_in (values_of m.project m) 0

-- the setup that a workplan names, if it names one
abbrev pub setup_of : ModelContent → ℕ → Option ℕ
setup_of m workplan = one_at (values_of workplan m) 1

-- the setup of the main workplan
abbrev pub main_setup : ModelContent → Option ℕ
main_setup m = setup_of m (main_workplan m)
