use Rattle.sn_entity.specs.Parts.{third_rows}
use Rattle.sn_entity.proofs.RowsLeft.{none_left}
use Rattle.sn_entity.proofs.table.reads_of_last.Goals as goal

pub unreachable-requires : goal.unreachable-requires
unreachable-requires c = none_left c.args.id third_rows (c.in_default.not-RadiusedSlotEndType, (c.in_default.not-ThroughBottomCondition, (c.in_default.not-FlatHoleBottom, (c.in_default.not-ConicalHoleBottom, (c.in_default.not-PlanarPocketBottomCondition, (c.in_default.not-ThroughPocketBottomCondition, (c.in_default.not-AndExpression, (c.in_default.not-OrExpression, (c.in_default.not-XorExpression, (c.in_default.not-NotExpression, (c.in_default.not-ComparisonEqual, (c.in_default.not-ComparisonNotEqual, (c.in_default.not-ComparisonLess, (c.in_default.not-ComparisonLessEqual, (c.in_default.not-ComparisonGreater, (c.in_default.not-ComparisonGreaterEqual, (c.in_default.not-NcVariable, (c.in_default.not-NcConstant, (tt))))))))))))))))))) c.requires
