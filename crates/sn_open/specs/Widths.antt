-- PRIVATE: the half widths of discs, in columns (the code's own words).
use Rattle.std.specs.Prelude.{◌≡◌, ◌↔◌, ℕ, ◌+◌, ◌*◌, ◌≤◌, ◌<◌, List, length, slice_index}

-- a node m columns and k rows away is in the disc of diameter d
abbrev pub IsWithin : ℕ → ℕ → ℕ → ℕ → Type 0
IsWithin d pitch m k = 4 * (m * pitch * (m * pitch) + k * pitch * (k * pitch)) ≤ d * d

-- the half widths of the disc, in columns, for each count of rows between: how many columns from the middle on it has there
pub record AreDiscWidths (d pitch rows : ℕ) (widths : List ℕ) : Type 0 where
  pub full : length widths ≡ rows + 1
  pub each : (k : ℕ) → k < rows → (m : ℕ) → m < slice_index widths k ↔ IsWithin d pitch m k
  pub last : slice_index widths rows ≡ 0
