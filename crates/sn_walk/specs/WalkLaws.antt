-- MEANING (this project's own): what the walk is in other words.
use Rattle.std.specs.Prelude.{◌≡◌, ◌≢◌, ◌⊎◌, ◌↔◌, ℕ, ◌<◌, ◌≤◌, IsTrue, List, ◌∷◌, ◌++◌, length, Option, Some, None, Ok, Err}
use Rattle.std.specs.List.{Contains, filter, flat_map}
use Rattle.sn_entity.specs.declared.row.Group.TheVariants.{One as OneRow}
use Rattle.sn_entity.specs.declared.row.RowId.TheVariants.{MachiningWorkingstep}
use Rattle.sn_model.specs.Built.{IsModel}
use Rattle.sn_model.specs.ModelContent.{ModelContent}
use Rattle.sn_outline.specs.declared.limits.TheConstants.{MOST_STEPS}
use Rattle.sn_refs.specs.Reference.{IsReached}
use Rattle.sn_refs.specs.Sound.{IsSound}
use Rattle.sn_refs.specs.Target.{IsTarget}
use Rattle.sn_words.specs.declared.options.Assign.{Assign}
use Rattle.sn_walk.specs.declared.fault.WalkFault.{WalkFault}
use Rattle.sn_walk.specs.declared.fault.WalkFault.TheVariants.{Unset, TooManySteps, SecondSetup, Memory}
use Rattle.sn_walk.specs.declared.limits.TheConstants.{MOST_VISITS}
use Rattle.sn_walk.specs.Condition.{value_of, holds}
use Rattle.sn_walk.specs.declared.node.Node.TheVariants.{Sequence, Step, Variable}
use Rattle.sn_walk.specs.Node.{node_of, listed, setup_of, main_setup}
use Rattle.sn_walk.specs.Walk.{followers, walk_from, truth_of, visits_of, is_step, fault_by, fault_of, executed_of}

-- whether a reached condition holds is told by its operands alone
abbrev pub TruthGoesByOperands : Type 0
TruthGoesByOperands =
    (m : ModelContent) → IsModel m → IsSound m → (sets : List Assign) (n : ℕ) → IsReached m n
    → truth_of m sets n ≡ holds (value_of m sets) (truth_of m sets) (listed m n) (node_of m n)

-- the walk from a reached instance is that instance, and then the walks of what is visited behind it
abbrev pub WalkGoesOn : Type 0
WalkGoesOn =
    (m : ModelContent) → IsModel m → IsSound m → (sets : List Assign) (n : ℕ) → IsReached m n
    → walk_from m sets n ≡ n ∷ flat_map (walk_from m sets) (followers (truth_of m sets) (listed m n) (node_of m n))

-- the visit is one too many, or executes one step too many
abbrev pub IsTooMuch : ModelContent → ℕ → ℕ → ℕ → Type 0
IsTooMuch m visits steps n = (MOST_VISITS ≤ visits) ⊎ (IsTrue (is_step m n) × (MOST_STEPS ≤ steps))

-- the workplan names a setup, and that is not the main workplan's
abbrev pub NamesSecondSetup : ModelContent → ℕ → Type 0
NamesSecondSetup m n = (node_of m n ≡ Sequence) × ((setup : ℕ) × (setup_of m n ≡ Some setup) × (main_setup m ≢ Some setup))

-- the variable has no value
abbrev pub HasNoValue : ModelContent → List Assign → ℕ → Type 0
HasNoValue m sets n = (node_of m n ≡ Variable) × (value_of m sets n ≡ None)

-- a visit has the first of these faults that it shows, and no other
pub record FaultsTell : Type 0 where
  pub too_much : (m : ModelContent) (sets : List Assign) (visits steps n : ℕ) → (fault_of m sets visits steps n ≡ Some TooManySteps) ↔ IsTooMuch m visits steps n
  pub second : (m : ModelContent) (sets : List Assign) (visits steps n k : ℕ) → (fault_of m sets visits steps n ≡ Some (SecondSetup k)) ↔ ((k ≡ n) × (visits < MOST_VISITS) × NamesSecondSetup m n)
  pub unset : (m : ModelContent) (sets : List Assign) (visits steps n k : ℕ) → (fault_of m sets visits steps n ≡ Some (Unset k)) ↔ ((k ≡ n) × (visits < MOST_VISITS) × HasNoValue m sets n)

-- the steps among some visits
abbrev pub steps_in : ModelContent → List ℕ → List ℕ
steps_in m visits = filter (is_step m) visits

-- the visit behind these has this fault, or none
abbrev pub fault_behind : ModelContent → List Assign → List ℕ → ℕ → Option WalkFault
fault_behind m sets before n = fault_of m sets (length before) (length (steps_in m before)) n

-- none of the visits has a fault
abbrev pub AreFaultless : ModelContent → List Assign → List ℕ → Type 0
AreFaultless m sets visits = (before : List ℕ) (n : ℕ) (after : List ℕ) → visits ≡ before ++ n ∷ after → fault_behind m sets before n ≡ None

-- the first visit that has a fault, with that fault
pub record EndsWith (m : ModelContent) (sets : List Assign) (visits : List ℕ) (why : WalkFault) : Type 0 where
  pub before : List ℕ
  pub number : ℕ
  pub after : List ℕ
  pub all : visits ≡ before ++ number ∷ after
  pub faultless : AreFaultless m sets before
  pub fault : fault_behind m sets before number ≡ Some why

-- the steps are executed exactly where no visit has a fault, and are the steps among the visits; else the first fault is told
pub record OutcomeTells : Type 0 where
  pub steps : (m : ModelContent) (sets : List Assign) (steps : List ℕ) → (executed_of m sets ≡ Ok steps) ↔ (AreFaultless m sets (visits_of m sets) × (steps ≡ steps_in m (visits_of m sets)))
  pub fault : (m : ModelContent) (sets : List Assign) (why : WalkFault) → (executed_of m sets ≡ Err why) ↔ EndsWith m sets (visits_of m sets) why

-- a walk without a fault is short, and want of memory is no fault of a walk
abbrev pub WalkIsShort : Type 0
WalkIsShort =
    (m : ModelContent) (sets : List Assign)
    → ((steps : List ℕ) → executed_of m sets ≡ Ok steps → (length (visits_of m sets) ≤ MOST_VISITS) × (length steps ≤ MOST_STEPS))
    × (executed_of m sets ≢ Err Memory)

-- what is executed is a machining workingstep to which the project leads
abbrev pub ExecutedAreSteps : Type 0
ExecutedAreSteps =
    (m : ModelContent) → IsModel m → IsSound m
    → (sets : List Assign) (steps : List ℕ) (n : ℕ) → executed_of m sets ≡ Ok steps → Contains steps n → IsTarget m (OneRow MachiningWorkingstep) n

-- the walk comes to the visit of n behind these visits, none of which has a fault
pub record IsMade (m : ModelContent) (sets : List Assign) (before : List ℕ) (n : ℕ) : Type 0 where
  pub after : List ℕ
  pub all : visits_of m sets ≡ before ++ n ∷ after
  pub faultless : AreFaultless m sets before

-- no visit is made behind more than the most visits: whatever the model, so many are made and one more that is refused
abbrev pub VisitsAreBounded : Type 0
VisitsAreBounded = (m : ModelContent) (sets : List Assign) (before : List ℕ) (n : ℕ) → IsMade m sets before n → length before ≤ MOST_VISITS

-- the 10,000th visit is judged by what it shows, and the next one is one too many; the 1,000th step is executed, and the next
-- one is one too many
pub record LimitsTell : Type 0 where
  pub last_visit : (m : ModelContent) (sets : List Assign) (steps n : ℕ) → fault_of m sets 9999 steps n ≡ fault_by m sets steps n (node_of m n)
  pub visit_too_many : (m : ModelContent) (sets : List Assign) (steps n : ℕ) → fault_of m sets 10000 steps n ≡ Some TooManySteps
  pub last_step : (m : ModelContent) (sets : List Assign) (n : ℕ) → fault_by m sets 999 n Step ≡ None
  pub step_too_many : (m : ModelContent) (sets : List Assign) (n : ℕ) → fault_by m sets 1000 n Step ≡ Some TooManySteps
