-- Laws of the numbers of tools (this project's own).
use Rattle.std.specs.Prelude.{◌≡◌, ◌↔◌, ℕ, ◌≤◌, nat_eq, if◌then◌else◌, List, [], ◌∷◌, ◌++◌, length}
use Rattle.std.specs.List.{Contains, list_any}
use Rattle.sn_flow.specs.Tools.{first_uses, number_in}

-- a use of what was used before changes nothing, and the first use of another puts it last
abbrev pub FirstUsesGrow : Type 0
FirstUsesGrow =
    (ns : List ℕ) (n : ℕ) →
    first_uses (ns ++ n ∷ []) ≡ (if list_any (λ k. nat_eq k n) ns then first_uses ns else first_uses ns ++ n ∷ [])

-- what is used has a number from 1 to the count of what is used, and each of these is the number of something that is used
abbrev pub NumbersAreFilled : Type 0
NumbersAreFilled =
    (ns : List ℕ) (k : ℕ) →
    ((n : ℕ) × Contains ns n × (number_in (first_uses ns) n ≡ k)) ↔ ((1 ≤ k) × (k ≤ length (first_uses ns)))

-- two that are used have two numbers
abbrev pub NumbersDiffer : Type 0
NumbersDiffer =
    (ns : List ℕ) (n k : ℕ) → Contains ns n → Contains ns k → number_in (first_uses ns) n ≡ number_in (first_uses ns) k → n ≡ k
