-- MEANING: a sink that never fails, as one value (this project's own).
use Rattle.std.specs.Prelude.{ℕ, Bool, if◌then◌else◌, List, Some, None}
use Rattle.sn_io.specs.Sink.{SinkState}

-- kept: the first bytes that it took, as many as it has room for; room: how many it has room for; is_whole: whether it kept all
-- that it took; taken: how many bytes it took
pub record SteadySinkState : Type 0 where
  pub kept : List ℕ
  pub room : ℕ
  pub is_whole : Bool
  pub taken : ℕ

-- its bytes are told while it kept all of them, and no write fails
abbrev pub steady_sink_state : SteadySinkState → SinkState
steady_sink_state s = record { held = if s.is_whole then Some s.kept else None; taken = Some s.taken; faults = 0 }
