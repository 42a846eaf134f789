-- Laws of counts.
use Rattle.std.specs.Prelude.{ℕ, ◌≤◌, ◌<◌, ◌↔◌}
use Rattle.sn_io.specs.Count.{last_count, Rises}

-- a count below its last value rises exactly where it is greater after, and one that stands there where it stays there
abbrev pub RisesIsMore : Type 0
RisesIsMore = (before after : ℕ) → (before < last_count → (Rises before after ↔ (before < after))) × (last_count ≤ before → (Rises before after ↔ (last_count ≤ after)))
