-- MEANING (this project's own, after the executables of ISO 14649-10): the visits of executables, conditions and values, from
-- the main workplan of a sound model on, and the machining workingsteps that are executed.
use Rattle.std.specs.Prelude.{ℕ, zero, suc, ◌+◌, nat_eq, nat_le, Bool, true, false, not, List, [], ◌∷◌, ◌++◌, length, Option, Some, None, is_none, Result, Ok, Err, if◌then◌else◌}
use Rattle.std.specs.List.{cons_option, flat_map}
use Rattle.sn_model.specs.ModelContent.{ModelContent}
use Rattle.sn_outline.specs.declared.limits.TheConstants.{MOST_STEPS}
use Rattle.sn_words.specs.declared.options.Assign.{Assign}
use Rattle.sn_walk.specs.declared.fault.WalkFault.{WalkFault}
use Rattle.sn_walk.specs.declared.fault.WalkFault.TheVariants.{Unset, TooManySteps, SecondSetup}
use Rattle.sn_walk.specs.declared.limits.TheConstants.{MOST_VISITS}
use Rattle.sn_walk.specs.declared.node.Node.{Node}
use Rattle.sn_walk.specs.declared.node.Node.TheVariants.{Sequence, Choice, Step, AllOf, AnyOf, OneOf, Opposite, Compared, Variable}
use Rattle.sn_walk.specs.Condition.{value_of, holds_within}
use Rattle.sn_walk.specs.Node.{node_of, listed, main_workplan, setup_of, main_setup}

-- what is executed: the true branch, or the false one, if there is one
abbrev pub chosen : Bool → ℕ → Option ℕ → Option ℕ
chosen true branch otherwise = Some branch
chosen false branch otherwise = otherwise

-- What is visited behind an instance: the elements of a workplan in order; the condition of an if, then the chosen branch; the
-- operands of a condition from left to right; nothing behind a step, a variable or a constant.
abbrev pub followers : (ℕ → Bool) → List ℕ → Node → List ℕ
followers truth elements Sequence = elements
followers truth elements (Choice condition branch otherwise) = condition ∷ cons_option (chosen (truth condition) branch otherwise) []
followers truth operands AllOf = operands
followers truth operands AnyOf = operands
followers truth operands (OneOf a b) = a ∷ b ∷ []
followers truth operands (Opposite a) = a ∷ []
followers truth operands (Compared comparison a b) = a ∷ b ∷ []
followers truth _ _ = []

-- the visits from n on, by recursion along references down to a depth
unfoldable pub walk_within : ModelContent → List Assign → ℕ → ℕ → List ℕ
walk_within m sets zero n = []
walk_within m sets (suc depth) n = n ∷ flat_map (walk_within m sets depth) (followers (holds_within m sets depth) (listed m n) (node_of m n))

-- No chain of references of a sound model is as long as its list of instances, so with that depth nothing is cut off.

-- whether the condition n holds
abbrev pub truth_of : ModelContent → List Assign → ℕ → Bool
truth_of m sets n = holds_within m sets (length m.kept) n

-- the visits from n on
abbrev pub walk_from : ModelContent → List Assign → ℕ → List ℕ
walk_from m sets n = walk_within m sets (length m.kept) n

-- all visits: the main workplan is the first
abbrev pub visits_of : ModelContent → List Assign → List ℕ
visits_of m sets = walk_from m sets (main_workplan m)

abbrev pub is_step_node : Node → Bool
is_step_node Step = true
is_step_node _ = false

-- the instance is a machining workingstep
abbrev pub is_step : ModelContent → ℕ → Bool
is_step m n = is_step_node (node_of m n)

-- a setup that is not this one
abbrev pub is_other_setup : Option ℕ → Option ℕ → Bool
is_other_setup main None = false
is_other_setup None (Some setup) = true
is_other_setup (Some main) (Some setup) = not (nat_eq main setup)

-- what is wrong with the visit of n, before which so many steps were executed, if anything is
abbrev pub fault_by : ModelContent → List Assign → ℕ → ℕ → Node → Option WalkFault
fault_by m sets steps n Step = if nat_le MOST_STEPS steps then Some TooManySteps else None
fault_by m sets steps n Sequence = if is_other_setup (main_setup m) (setup_of m n) then Some (SecondSetup n) else None
fault_by m sets steps n Variable = if is_none (value_of m sets n) then Some (Unset n) else None
fault_by m sets steps n _ = None

-- the same, where so many visits came before, too: one visit too many goes before all that it shows
abbrev pub fault_of : ModelContent → List Assign → ℕ → ℕ → ℕ → Option WalkFault
fault_of m sets visits steps n = if nat_le MOST_VISITS visits then Some TooManySteps else fault_by m sets steps n (node_of m n)

abbrev pub unless : {A : Type 0} → Option WalkFault → Result A WalkFault → Result A WalkFault
unless (Some why) later = Err why
unless None later = later

-- The steps of visits in order, or the first fault. So many visits came before, and these steps were executed.
abbrev pub outcome_from : ModelContent → List Assign → ℕ → List ℕ → List ℕ → Result (List ℕ) WalkFault
outcome_from m sets visits steps [] = Ok steps
outcome_from m sets visits steps (n ∷ ns) = unless (fault_of m sets visits (length steps) n) (outcome_from m sets (visits + 1) (if is_step m n then steps ++ n ∷ [] else steps) ns)

-- the machining workingsteps that are executed, in order, each as often as it is, or why the walk ends
abbrev pub executed_of : ModelContent → List Assign → Result (List ℕ) WalkFault
executed_of m sets = outcome_from m sets 0 [] (visits_of m sets)
