-- MEANING (this project's own): sound models, and the first fault of a model that is not sound.
use Rattle.std.specs.Prelude.{◌≡◌, ◌≢◌, ℕ, ◌≤◌, List, [], ◌∷◌, ◌++◌, Some, None}
use Rattle.std.specs.List.{Contains, AllByRecursion}
use Rattle.sn_entity.specs.declared.value.Fields.{Fields}
use Rattle.sn_model.specs.declared.model.Entry.TheVariants.{Typed, Bad}
use Rattle.sn_model.specs.Built.{IsModel}
use Rattle.sn_model.specs.ModelContent.{ModelContent, kept_of, entry_of}
use Rattle.sn_refs.specs.declared.fault.RefFault.{RefFault}
use Rattle.sn_refs.specs.declared.fault.RefFault.TheVariants as fault
use Rattle.sn_refs.specs.declared.reference.Reference.{Reference}
use Rattle.sn_refs.specs.Reference.{references, IsOfKind, Names, IsReached, IsOnCycle}

-- each instance that the project leads to shows its row, each that it names is live and of the wanted kind, and none leads
-- back to itself
pub record IsSound (m : ModelContent) : Type 0 where
  pub shown : (n : ℕ) → IsReached m n → (f : Fields) × (entry_of n m ≡ Some (Typed f))
  pub kinds : (n : ℕ) → IsReached m n → (r : Reference) → Contains (references n m) r → IsOfKind m r
  pub acyclic : (n : ℕ) → IsReached m n → ¬ IsOnCycle m n

-- the first reference of the instance that names no live instance of the wanted kind
pub record IsFirstBad (m : ModelContent) (n : ℕ) (r : Reference) : Type 0 where
  pub before : List Reference
  pub after : List Reference
  pub all : references n m ≡ before ++ r ∷ after
  pub good : AllByRecursion (IsOfKind m) before
  pub bad : ¬ IsOfKind m r

-- the fault of one instance: it does not show its row, or its first bad reference
abbrev pub IsOwnFault : ModelContent → ℕ → RefFault → Type 0
IsOwnFault m n (fault.Entity why) = entry_of n m ≡ Some (Bad why)
IsOwnFault m n (fault.Dangling a k) = (a ≡ n) × ((r : Reference) × IsFirstBad m n r × (k ≡ r.place) × (kept_of r.target m.kept ≡ None))
IsOwnFault m n (fault.WrongKind a k b) = (a ≡ n) × ((r : Reference) × IsFirstBad m n r × (k ≡ r.place) × (b ≡ r.target) × (kept_of r.target m.kept ≢ None))
IsOwnFault m n (fault.Cycle a) = ⊥
IsOwnFault m n fault.Memory = ⊥

-- the fault of the reached instance of the least number that has one
pub record IsLeastFault (m : ModelContent) (why : RefFault) : Type 0 where
  pub number : ℕ
  pub reached : IsReached m number
  pub own : IsOwnFault m number why
  pub least : (n : ℕ) (other : RefFault) → IsReached m n → IsOwnFault m n other → number ≤ n

-- no reached instance has a fault of its own, and this is the least number of one on a cycle
pub record IsLeastOnCycle (m : ModelContent) (number : ℕ) : Type 0 where
  pub no_fault : (n : ℕ) (other : RefFault) → IsReached m n → ¬ IsOwnFault m n other
  pub reached : IsReached m number
  pub on_cycle : IsOnCycle m number
  pub least : (n : ℕ) → IsReached m n → IsOnCycle m n → number ≤ n

abbrev pub IsRefFault : ModelContent → RefFault → Type 0
IsRefFault m (fault.Cycle n) = IsLeastOnCycle m n
IsRefFault m why = IsLeastFault m why

-- a model has one fault at most, and none where it is sound; it cannot be unsound and have none
abbrev pub OneVerdict : Type 0
OneVerdict =
    ((m : ModelContent) (why other : RefFault) → IsRefFault m why → IsRefFault m other → why ≡ other)
    × ((m : ModelContent) (why : RefFault) → IsSound m → ¬ IsRefFault m why)
    × ((m : ModelContent) → IsModel m → ¬ IsSound m → ((why : RefFault) → ¬ IsRefFault m why) → ⊥)

-- what the project leads to does not depend on the order of the instances
abbrev pub SameReach : Type 0
SameReach = (m other : ModelContent) → m.project ≡ other.project → ((n : ℕ) → kept_of n m.kept ≡ kept_of n other.kept) → (n : ℕ) → IsReached m n → IsReached other n

-- an order of instances in which each names earlier ones alone
abbrev pub IsOrdered : ModelContent → List ℕ → Type 0
IsOrdered m [] = Unit {0}
IsOrdered m (n ∷ earlier) = ((k : ℕ) → Names m n k → Contains earlier k) × IsOrdered m earlier

-- the reached instances stand in such an order, so what is said of them may go by recursion along references
abbrev pub IsRanked : ModelContent → Type 0
IsRanked m = (order : List ℕ) × IsOrdered m order × ((n : ℕ) → IsReached m n → Contains order n)

-- each sound model has such an order
abbrev pub SoundIsRanked : Type 0
SoundIsRanked = (m : ModelContent) → IsModel m → IsSound m → IsRanked m

-- what a checked model keeps
pub record IsChecked (m : ModelContent) : Type 0 where
  pub model : IsModel m
  pub sound : ∥ (IsSound m) ∥₁
  pub ranked : ∥ (IsRanked m) ∥₁
