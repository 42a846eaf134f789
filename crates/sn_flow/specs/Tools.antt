-- MEANING: the numbers of tools in a program (this project's own).
use Rattle.std.specs.Prelude.{ℕ, ◌+◌, nat_eq, not, List, [], ◌∷◌}
use Rattle.std.specs.List.{filter, position_or_len}

-- numbers in the order in which they come first, each once
abbrev pub first_uses : List ℕ → List ℕ
first_uses [] = []
first_uses (n ∷ ns) = n ∷ filter (λ k. not (nat_eq k n)) (first_uses ns)

-- the place of a number among others, counted from 1
abbrev pub number_in : List ℕ → ℕ → ℕ
number_in ns n = position_or_len (λ k. nat_eq k n) ns + 1
