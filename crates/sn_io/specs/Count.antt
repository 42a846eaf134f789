-- MEANING: counts that stand still at the last value of their type (this project's own).
use Rattle.std.specs.Prelude.{ℕ, ◌+◌, ◌≤◌, min, max}

-- the last value of a count, which is kept in 64 bits
abbrev pub last_count : ℕ
last_count = 18446744073709551615

-- a count after n more, until its last value
abbrev pub count_after : ℕ → ℕ → ℕ
count_after count n = max count (min (count + n) last_count)

-- the count rose; one that stands at its last value counts as risen
abbrev pub Rises : ℕ → ℕ → Type 0
Rises before after = min (before + 1) last_count ≤ after
