-- MEANING (this project's own): the model of instances, and why they have none.
use Rattle.std.specs.Prelude.{◌≡◌, ℕ, ◌<◌, List, [], ◌∷◌, ◌++◌, Option, Some, None}
use Rattle.std.specs.List.{AllByRecursion}
use Rattle.sn_p21.specs.declared.file.Entity.{Entity}
use Rattle.sn_p21.specs.declared.file.Instance.{Instance}
use Rattle.sn_p21.specs.Numbers.{NumbersDiffer}
use Rattle.sn_entity.specs.declared.row.RowId.{RowId}
use Rattle.sn_entity.specs.declared.row.RowId.TheVariants.{Project}
use Rattle.sn_entity.specs.Shows.{HasRow, IsKnown, Shows, IsEntityFault}
use Rattle.sn_model.specs.declared.fault.ModelFault.{ModelFault}
use Rattle.sn_model.specs.declared.fault.ModelFault.TheVariants.{NoProject, TwoProjects, Memory}
use Rattle.sn_model.specs.declared.model.Entry.{Entry}
use Rattle.sn_model.specs.declared.model.Entry.TheVariants.{Typed, Bad, Stranger}
use Rattle.sn_model.specs.declared.model.Kept.{Kept}
use Rattle.sn_model.specs.ModelContent.{ModelContent}

-- the instance is simple and has the keyword of the row
abbrev pub IsOfRow : Instance → RowId → Type 0
IsOfRow i id = (e : Entity) × HasRow i e id

-- an instance of a row is typed, or has its fault; any other is a stranger
abbrev pub IsEntryOf : Instance → Option RowId → Entry → Type 0
IsEntryOf i (Some id) (Typed f) = IsOfRow i id × Shows i f
IsEntryOf i (Some id) (Bad why) = IsOfRow i id × IsEntityFault i why
IsEntryOf i None Stranger = ¬ IsKnown i
IsEntryOf i _ _ = ⊥

-- each is kept under its number, in file order
abbrev pub AreKept : List Instance → List (ℕ × Kept) → Type 0
AreKept [] ks = ks ≡ []
AreKept (i ∷ is) ks = (k : Kept) × (rest : List (ℕ × Kept)) × IsEntryOf i k.row k.entry × AreKept is rest × (ks ≡ (i.number, k) ∷ rest)

abbrev pub IsProject : Instance → Type 0
IsProject i = IsOfRow i Project

abbrev pub HaveNoProject : List Instance → Type 0
HaveNoProject is = AllByRecursion (λ i. ¬ IsProject i) is

-- one of the instances is a project, and has this number
pub record HaveOneProject (is : List Instance) (n : ℕ) : Type 0 where
  pub before : List Instance
  pub project : Instance
  pub after : List Instance
  pub all : is ≡ before ++ project ∷ after
  pub is_project : IsProject project
  pub number : project.number ≡ n
  pub none_before : HaveNoProject before
  pub none_after : HaveNoProject after

pub record IsModelOf (is : List Instance) (m : ModelContent) : Type 0 where
  pub kept : AreKept is m.kept
  pub project : HaveOneProject is m.project

-- no instance has the number 0
abbrev pub HaveNumbers : List Instance → Type 0
HaveNumbers is = AllByRecursion (λ i. 0 < i.number) is

-- the model of some instances, whose numbers differ and are not 0
abbrev pub IsModel : ModelContent → Type 0
IsModel m = ∥ ((is : List Instance) × NumbersDiffer is × HaveNumbers is × IsModelOf is m) ∥₁

-- the project that stands second in file order has this number
pub record HaveSecondProject (is : List Instance) (n : ℕ) : Type 0 where
  pub before : List Instance
  pub second : Instance
  pub after : List Instance
  pub first : ℕ
  pub all : is ≡ before ++ second ∷ after
  pub is_project : IsProject second
  pub number : second.number ≡ n
  pub one_before : HaveOneProject before first

abbrev pub IsModelFault : List Instance → ModelFault → Type 0
IsModelFault is NoProject = HaveNoProject is
IsModelFault is (TwoProjects n) = HaveSecondProject is n
IsModelFault is Memory = ⊥

-- instances have one model at most, or one fault at most, and not both, and they cannot lack both
abbrev pub OneModel : Type 0
OneModel =
    ((is : List Instance) (m n : ModelContent) → IsModelOf is m → IsModelOf is n → m ≡ n)
    × ((is : List Instance) (why other : ModelFault) → IsModelFault is why → IsModelFault is other → why ≡ other)
    × ((is : List Instance) (m : ModelContent) (why : ModelFault) → IsModelOf is m → ¬ IsModelFault is why)
    × ((is : List Instance) → ((m : ModelContent) → ¬ IsModelOf is m) → ((why : ModelFault) → ¬ IsModelFault is why) → ⊥)
