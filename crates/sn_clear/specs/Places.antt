-- MEANING: places in a row that pass a test: whether one does, how many do, the first, and the run that goes through one (this project's own).
use Rattle.std.specs.Prelude.{ℕ, zero, suc, ◌+◌, Bool, false, not, ◌&&◌, ◌||◌, if◌then◌else◌}

-- one of the places before n passes
unfoldable pub passes_before : (ℕ → Bool) → ℕ → Bool
passes_before p zero = false
passes_before p (suc n) = passes_before p n || p n

-- how many of the places before n pass
unfoldable pub count_before : (ℕ → Bool) → ℕ → ℕ
count_before p zero = 0
count_before p (suc n) = count_before p n + (if p n then 1 else 0)

-- a run begins at a place that passes where the place before it does not
abbrev pub begins : (ℕ → Bool) → ℕ → Bool
begins p zero = p zero
begins p (suc k) = p (suc k) && not (p k)

-- the first place of the run that goes through the place k
unfoldable pub run_start : (ℕ → Bool) → ℕ → ℕ
run_start p zero = zero
run_start p (suc k) = if p k then run_start p k else suc k

-- the last place of the run from the place k, with m places after it
unfoldable pub run_end : (ℕ → Bool) → ℕ → ℕ → ℕ
run_end p k zero = k
run_end p k (suc m) = if p (suc k) then run_end p (suc k) m else k
