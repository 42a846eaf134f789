-- PRIVATE: marks that are set with those beside them (the code's own words).
use Rattle.std.specs.Prelude.{ℕ, ◌+◌, ◌-◌, ◌≤◌, ◌<◌, Bool, false, IsTrue, List, slice_index_or}

-- of the marks from first up to end, mark k is set, and so are those that are step before and after it
pub record IsSetBeside (marks : List Bool) (step first end k : ℕ) : Type 0 where
  pub own : IsTrue (slice_index_or marks k false)
  pub before : first + step ≤ k → IsTrue (slice_index_or marks (k - step) false)
  pub after : k + step < end → IsTrue (slice_index_or marks (k + step) false)
