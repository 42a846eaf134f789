-- Laws of a sink that counts.
use Rattle.std.specs.Prelude.{ℕ, ◌≡◌, List, length}
use Rattle.sn_io.specs.Count.{count_after}
use Rattle.sn_io.specs.Sink.{Takes, TakesFront}
use Rattle.sn_io.specs.CountSink.{CountSinkState, count_state}

-- no text that is written to it stops before its end
abbrev pub CountingNeverStops : Type 0
CountingNeverStops = (before after : CountSinkState) (text : List ℕ) → ¬ TakesFront (count_state before) (count_state after) text

-- each text that is written to it adds its length
abbrev pub CountingAddsTheLength : Type 0
CountingAddsTheLength =
    (before after : CountSinkState) (text : List ℕ)
    → Takes (count_state before) (count_state after) text → after.taken ≡ count_after before.taken (length text)
