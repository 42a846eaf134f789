-- MEANING: a sink that counts, as one value (this project's own).
use Rattle.std.specs.Prelude.{ℕ, Some, None}
use Rattle.sn_io.specs.Sink.{SinkState}

-- taken: the number of bytes that it took
pub record CountSinkState : Type 0 where
  pub taken : ℕ

abbrev pub count_state : CountSinkState → SinkState
count_state c = record { held = None; taken = Some c.taken; faults = 0 }
