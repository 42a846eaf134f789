-- MEANING (this project's own): what conditions and values are in other words.
use Rattle.std.specs.Prelude.{◌≡◌, ◌≢◌, ◌⊎◌, ◌↔◌, ℕ, ℤ, ◌<ℤ◌, ◌≤ℤ◌, Bool, IsTrue, IsFalse, List, ◌∷◌, ◌++◌, Option, Some, None, All}
use Rattle.std.specs.List.{Contains}
use Rattle.sn_words.specs.declared.options.Assign.{Assign}
use Rattle.sn_walk.specs.declared.node.Comparison.{Comparison}
use Rattle.sn_walk.specs.declared.node.Comparison.TheVariants.{Equal, NotEqual, Less, LessOrEqual, Greater, GreaterOrEqual}
use Rattle.sn_walk.specs.declared.node.Node.TheVariants.{AllOf, AnyOf, OneOf, Opposite, Compared}
use Rattle.sn_walk.specs.Condition.{assigned, compares, holds}

-- the six comparisons are those of whole numbers
pub record ComparisonsTell : Type 0 where
  pub equal : (a b : ℤ) → IsTrue (compares Equal a b) ↔ (a ≡ b)
  pub not_equal : (a b : ℤ) → IsTrue (compares NotEqual a b) ↔ (a ≢ b)
  pub less : (a b : ℤ) → IsTrue (compares Less a b) ↔ (a <ℤ b)
  pub less_or_equal : (a b : ℤ) → IsTrue (compares LessOrEqual a b) ↔ (a ≤ℤ b)
  pub greater : (a b : ℤ) → IsTrue (compares Greater a b) ↔ (b <ℤ a)
  pub greater_or_equal : (a b : ℤ) → IsTrue (compares GreaterOrEqual a b) ↔ (b ≤ℤ a)

-- `and` holds where each operand does, `or` where one does, `xor` where one of the two does and the other does not, `not` where its
-- operand does not, a comparison where it does of the values of its operands
pub record ConditionsTell : Type 0 where
  pub all_of : (value : ℕ → Option ℤ) (truth : ℕ → Bool) (ns : List ℕ) → IsTrue (holds value truth ns AllOf) ↔ ((n : ℕ) → Contains ns n → IsTrue (truth n))
  pub any_of : (value : ℕ → Option ℤ) (truth : ℕ → Bool) (ns : List ℕ) → IsTrue (holds value truth ns AnyOf) ↔ ((n : ℕ) × Contains ns n × IsTrue (truth n))
  pub one_of : (value : ℕ → Option ℤ) (truth : ℕ → Bool) (ns : List ℕ) (a b : ℕ) → IsTrue (holds value truth ns (OneOf a b)) ↔ ((IsTrue (truth a) × IsFalse (truth b)) ⊎ (IsFalse (truth a) × IsTrue (truth b)))
  pub opposite : (value : ℕ → Option ℤ) (truth : ℕ → Bool) (ns : List ℕ) (a : ℕ) → IsTrue (holds value truth ns (Opposite a)) ↔ IsFalse (truth a)
  pub compared : (value : ℕ → Option ℤ) (truth : ℕ → Bool) (ns : List ℕ) (by : Comparison) (a b : ℕ) (x y : ℤ) → value a ≡ Some x → value b ≡ Some y → holds value truth ns (Compared by a b) ≡ compares by x y

-- a name has the value of an assignment to it, where no other has that name, and none where there is no such assignment
pub record AssignmentsTell : Type 0 where
  pub given : (before after : List Assign) (a : Assign) (name : List ℕ) → a.name ≡ name → All (λ b. b.name ≢ name) before → assigned (before ++ a ∷ after) name ≡ Some a.value
  pub none : (sets : List Assign) (name : List ℕ) → All (λ b. b.name ≢ name) sets → assigned sets name ≡ None
