-- MEANING (this project's own, after the expressions of ISO 14649-10): the values of variables and constants, and whether a
-- condition holds.
use Rattle.std.specs.Prelude.{ℕ, zero, suc, ℤ, Bool, false, not, ◌&&◌, ◌||◌, cond, int_lt, int_le, bytes_eq, List, Option, Some, None, option_map}
use Rattle.std.specs.List.{find, list_all, list_any}
use Rattle.std.specs.Option.{option_or}
use Rattle.sn_entity.specs.declared.value.Value.{Value}
use Rattle.sn_entity.specs.Given.{num_at, text_at}
use Rattle.sn_model.specs.ModelContent.{ModelContent}
use Rattle.sn_refs.specs.Target.{values_of}
use Rattle.sn_words.specs.declared.options.Assign.{Assign}
use Rattle.sn_walk.specs.declared.node.Comparison.{Comparison}
use Rattle.sn_walk.specs.declared.node.Comparison.TheVariants.{Equal, NotEqual, Less, LessOrEqual, Greater, GreaterOrEqual}
use Rattle.sn_walk.specs.declared.node.Node.{Node}
use Rattle.sn_walk.specs.declared.node.Node.TheVariants.{AllOf, AnyOf, OneOf, Opposite, Compared, Variable, Constant}
use Rattle.sn_walk.specs.Node.{node_of, listed}

-- the value that is assigned to a name, in thousandths, if one is
abbrev pub assigned : List Assign → List ℕ → Option ℤ
assigned sets name = option_map (λ a. a.value) (find (λ a. bytes_eq a.name name) sets)

-- A variable has the value that is assigned to its name, and else its initial value, if it has one.
abbrev pub value_by : List Assign → Node → List Value → Option ℤ
value_by sets Variable values = option_or (assigned sets (text_at values 0)) (num_at values 1)
value_by sets Constant values = num_at values 0
value_by sets _ values = None

-- the value of a variable or a constant, in thousandths
abbrev pub value_of : ModelContent → List Assign → ℕ → Option ℤ
value_of m sets n = value_by sets (node_of m n) (values_of n m)

abbrev pub compares : Comparison → ℤ → ℤ → Bool
compares Equal a b = not (int_lt a b) && not (int_lt b a)
compares NotEqual a b = int_lt a b || int_lt b a
compares Less a b = int_lt a b
compares LessOrEqual a b = int_le a b
compares Greater a b = int_lt b a
compares GreaterOrEqual a b = int_le b a

-- The comparison of two values. The walk ends at an operand that has none, so what is said then is of no matter.
abbrev pub compares_given : Comparison → Option ℤ → Option ℤ → Bool
compares_given comparison (Some a) (Some b) = compares comparison a b
compares_given comparison _ _ = false

abbrev pub differ : Bool → Bool → Bool
differ a b = cond a (not b) b

-- whether a condition of these operands holds, by the values of the operands and by which of them hold
abbrev pub holds : (ℕ → Option ℤ) → (ℕ → Bool) → List ℕ → Node → Bool
holds value truth operands AllOf = list_all truth operands
holds value truth operands AnyOf = list_any truth operands
holds value truth operands (OneOf a b) = differ (truth a) (truth b)
holds value truth operands (Opposite a) = not (truth a)
holds value truth operands (Compared comparison a b) = compares_given comparison (value a) (value b)
holds value truth operands _ = false

-- whether the condition n holds, by recursion on its operands down to a depth
unfoldable pub holds_within : ModelContent → List Assign → ℕ → ℕ → Bool
holds_within m sets zero n = false
holds_within m sets (suc depth) n = holds (value_of m sets) (holds_within m sets depth) (listed m n) (node_of m n)
