-- MEANING (this project's own): the numbers of instances.
use Rattle.std.specs.Prelude.{◌≡◌, ℕ, Bool, false, ◌==◌, ◌||◌, ◌⊎◌, cond, List, [], ◌∷◌, map, Option, Some, None}
use Rattle.std.specs.List.{AllByRecursion}
use Rattle.sn_p21.specs.declared.file.Instance.{Instance}

-- one of the instances has this number
abbrev pub HasNumber : ℕ → List Instance → Type 0
HasNumber n [] = ⊥
HasNumber n (i ∷ is) = (i.number ≡ n) ⊎ HasNumber n is

abbrev pub has_number : ℕ → List Instance → Bool
has_number n [] = false
has_number n (i ∷ is) = n == i.number || has_number n is

-- no two instances have one number
abbrev pub NumbersDiffer : List Instance → Type 0
NumbersDiffer [] = Unit {0}
NumbersDiffer (i ∷ is) = (HasNumber i.number is → ⊥) × NumbersDiffer is

-- the first instance of this number
abbrev pub instance_of : ℕ → List Instance → Option Instance
instance_of n [] = None
instance_of n (i ∷ is) = cond (n == i.number) (Some i) (instance_of n is)

-- the instances of entries
abbrev pub instances_of : List (ℕ × Instance) → List Instance
instances_of entries = map (λ e. e.1) entries

-- each entry has the number of its instance as its key
abbrev pub AreByNumber : List (ℕ × Instance) → Type 0
AreByNumber entries = AllByRecursion (λ e. e.0 ≡ e.1.number) entries
