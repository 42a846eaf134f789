-- PRIVATE: what is gathered over the steps of a job, one step after the other.
use Rattle.std.specs.Prelude.{ℕ, ℤ, min, nat_eq, List, [], ◌∷◌, ◌++◌, map, Option, Some, None, if◌then◌else◌}
use Rattle.std.specs.Int.{int_max}
use Rattle.std.specs.List.{list_any, filter, reduce}
use Rattle.sn_feature.specs.declared.parts.StepParts.{StepParts}

-- the numbers, and behind them this one where it is new
abbrev pub used_then : List ℕ → ℕ → List ℕ
used_then ns n = if list_any (λ k. nat_eq k n) ns then ns else ns ++ n ∷ []

abbrev pub lesser_of : Option ℕ → ℕ → Option ℕ
lesser_of None d = Some d
lesser_of (Some k) d = Some (min k d)

-- the lesser of a diameter and that of a step of the feature
abbrev pub lesser_with : ℕ → Option ℕ → StepParts → Option ℕ
lesser_with feature least p = if nat_eq p.feature feature then lesser_of least p.body.d else least

-- the least tool diameter among the steps of a feature, if it has one
abbrev pub least_of : ℕ → List StepParts → Option ℕ
least_of feature parts = reduce min (map (λ p. p.body.d) (filter (λ p. nat_eq p.feature feature) parts))

-- the higher of a height and the highest before
abbrev pub higher_of : Option ℤ → ℤ → ℤ
higher_of None z = z
higher_of (Some before) z = int_max before z
