-- MEANING: an output of the machine as one value: content is not told (this project's own).
use Rattle.std.specs.Prelude.{ℕ, List, Option, None}
use Rattle.sn_io.specs.Sink.{SinkState}

-- contents: the bytes that the writer behind it holds and then those that it has yet to get, where they are known;
-- faults: how many writes failed
pub record OutSinkState : Type 0 where
  pub contents : Option (List ℕ)
  pub faults : ℕ

abbrev pub out_state : OutSinkState → SinkState
out_state s = record { held = None; taken = None; faults = s.faults }
