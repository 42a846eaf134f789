-- MEANING: a sink in memory as one value (this project's own).
use Rattle.std.specs.Prelude.{ℕ, ◌+◌, List, length, Contains, Some}
use Rattle.sn_io.specs.Sink.{SinkState}

-- held: the bytes that it took; room: how many bytes it can hold; failing: the numbers of the writes that fail; writes:
-- how often it was written to; faults: how many writes failed
pub record MemSinkState : Type 0 where
  pub held : List ℕ
  pub room : ℕ
  pub failing : List ℕ
  pub writes : ℕ
  pub faults : ℕ

abbrev pub sink_state : MemSinkState → SinkState
sink_state m = record { held = Some m.held; taken = Some (length m.held); faults = m.faults }

-- the number of the next write is listed, counted from 1
abbrev pub IsNextListed : MemSinkState → Type 0
IsNextListed m = Contains m.failing (m.writes + 1)
