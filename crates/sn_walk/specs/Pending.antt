-- Private (only the functions of this crate cite these words): what a walk has still to do, and the truths that it keeps.
use Rattle.std.specs.Prelude.{◌≡◌, ℕ, ℤ, ◌≤◌, Bool, true, false, not, ◌&&◌, ◌||◌, cond, List, [], ◌∷◌, ◌++◌, map, Option, Some, None}
use Rattle.sn_model.specs.ModelContent.{ModelContent}
use Rattle.std.specs.List.{AllByRecursion}
use Rattle.sn_model.specs.Built.{IsModel}
use Rattle.sn_refs.specs.Reference.{Names, IsReached}
use Rattle.sn_refs.specs.Sound.{IsSound}
use Rattle.sn_words.specs.declared.options.Assign.{Assign}
use Rattle.sn_walk.specs.declared.walk.Gate.{Gate}
use Rattle.sn_walk.specs.declared.walk.Gate.TheVariants.{Both, Either, Differ}
use Rattle.sn_walk.specs.declared.walk.Item.{Item}
use Rattle.sn_walk.specs.declared.walk.Item.TheVariants.{Visit, Branch, Combine, Flip}
use Rattle.sn_walk.specs.declared.node.Node.{Node}
use Rattle.sn_walk.specs.declared.node.Node.TheVariants.{Sequence, Choice, AllOf, AnyOf, OneOf, Opposite, Compared}
use Rattle.sn_walk.specs.Condition.{compares_given, differ}
use Rattle.sn_walk.specs.Node.{node_of, listed}
use Rattle.sn_walk.specs.NodeLaws.{is_condition}
use Rattle.sn_walk.specs.declared.limits.TheConstants.{MOST_VISITS}
use Rattle.sn_walk.specs.Walk.{chosen, truth_of, walk_from, outcome_from, executed_of}

-- The truths are kept with the latest in front. An empty list reads as false.

abbrev pub latest : List Bool → Bool
latest [] = false
latest (b ∷ bs) = b

abbrev pub earlier : List Bool → List Bool
earlier [] = []
earlier (b ∷ bs) = bs

abbrev pub joined : Gate → Bool → Bool → Bool
joined Both a b = a && b
joined Either a b = a || b
joined Differ a b = differ a b

abbrev pub combined : Gate → List Bool → List Bool
combined gate truths = joined gate (latest (earlier truths)) (latest truths) ∷ earlier (earlier truths)

abbrev pub flipped : List Bool → List Bool
flipped truths = not (latest truths) ∷ earlier truths

-- the truths behind the walk from n: that of a condition comes in front
abbrev pub given : ModelContent → List Assign → ℕ → List Bool → List Bool
given m sets n truths = cond (is_condition (node_of m n)) (truth_of m sets n ∷ truths) truths

abbrev pub given_if : ModelContent → List Assign → Option ℕ → List Bool → List Bool
given_if m sets None truths = truths
given_if m sets (Some n) truths = given m sets n truths

abbrev pub walk_if : ModelContent → List Assign → Option ℕ → List ℕ
walk_if m sets None = []
walk_if m sets (Some n) = walk_from m sets n

-- the visits still to come, by what is still to do, the next in front, and by the truths
abbrev pub rest : ModelContent → List Assign → List Item → List Bool → List ℕ
rest m sets [] truths = []
rest m sets (Visit n ∷ items) truths = walk_from m sets n ++ rest m sets items (given m sets n truths)
rest m sets (Branch branch otherwise ∷ items) truths = walk_if m sets (chosen (latest truths) branch otherwise) ++ rest m sets items (given_if m sets (chosen (latest truths) branch otherwise) (earlier truths))
rest m sets (Combine gate ∷ items) truths = rest m sets items (combined gate truths)
rest m sets (Flip ∷ items) truths = rest m sets items (flipped truths)

-- what is to do behind the visit of an instance

abbrev pub gated : Gate → List ℕ → List Item
gated gate [] = []
gated gate (n ∷ ns) = Visit n ∷ Combine gate ∷ gated gate ns

abbrev pub items_of : List ℕ → Node → List Item
items_of ns Sequence = map Visit ns
items_of ns (Choice condition branch otherwise) = Visit condition ∷ Branch branch otherwise ∷ []
items_of ns AllOf = gated Both ns
items_of ns AnyOf = gated Either ns
items_of ns (OneOf a b) = gated Differ (a ∷ b ∷ [])
items_of ns (Opposite a) = Visit a ∷ Flip ∷ []
items_of ns (Compared comparison a b) = Visit a ∷ Visit b ∷ []
items_of ns _ = []

-- the truths with which that begins
abbrev pub begun : (ℕ → Option ℤ) → Node → List Bool → List Bool
begun value AllOf truths = true ∷ truths
begun value AnyOf truths = false ∷ truths
begun value (OneOf a b) truths = false ∷ truths
begun value (Compared comparison a b) truths = compares_given comparison (value a) (value b) ∷ truths
begun value _ truths = truths

-- what an instance has behind it

-- n names k, which is reached, and is a condition or not
pub record Leads (m : ModelContent) (n : ℕ) (condition : Bool) (k : ℕ) : Type 0 where
  pub name : Names m n k
  pub reached : IsReached m k
  pub kind : is_condition (node_of m k) ≡ condition

-- a node of this list is followed by executables, by its condition and then an executable, by conditions, or by values
abbrev pub IsLed : ModelContent → ℕ → List ℕ → Node → Type 0
IsLed m n ns Sequence = AllByRecursion (Leads m n false) ns
IsLed m n ns (Choice condition branch otherwise) = Leads m n true condition × Leads m n false branch × ((k : ℕ) → otherwise ≡ Some k → Leads m n false k)
IsLed m n ns AllOf = AllByRecursion (Leads m n true) ns
IsLed m n ns AnyOf = AllByRecursion (Leads m n true) ns
IsLed m n ns (OneOf a b) = Leads m n true a × Leads m n true b
IsLed m n ns (Opposite a) = Leads m n true a
IsLed m n ns (Compared comparison a b) = Leads m n false a × Leads m n false b
IsLed m n ns _ = Unit {0}

-- so is each reached instance
abbrev pub InstancesLead : Type 0
InstancesLead = (m : ModelContent) → IsModel m → IsSound m → (n : ℕ) → IsReached m n → IsLed m n (listed m n) (node_of m n)

-- the project leads to what an item may visit
abbrev pub IsReachedItem : ModelContent → Item → Type 0
IsReachedItem m (Visit n) = IsReached m n
IsReachedItem m (Branch branch otherwise) = IsReached m branch × ((n : ℕ) → otherwise ≡ Some n → IsReached m n)
IsReachedItem m _ = Unit {0}

abbrev pub AreReached : ModelContent → List Item → Type 0
AreReached m [] = Unit {0}
AreReached m (item ∷ items) = IsReachedItem m item × AreReached m items

abbrev pub coming : Option ℕ → List Item → List Item
coming None items = items
coming (Some n) items = Visit n ∷ items

-- The walk goes on with this visit, if it does; what is still to do, and the truths.
pub record GoesOn (items : List Item) (truths : List Bool) (next : Option ℕ) (later : List Item) (kept : List Bool) : Type 0 where
  pub same : (m : ModelContent) (sets : List Assign) → rest m sets items truths ≡ rest m sets (coming next later) kept
  pub reached : (m : ModelContent) → AreReached m items → AreReached m (coming next later)

-- What the walk of a sound model does is what is left of it: so many visits came before, and these steps were executed.
pub record IsAt (m : ModelContent) (sets : List Assign) (visits : ℕ) (steps : List ℕ) (items : List Item) (truths : List Bool) : Type 0 where
  pub outcome : executed_of m sets ≡ outcome_from m sets visits steps (rest m sets items truths)
  pub reached : AreReached m items
  pub within : visits ≤ MOST_VISITS
