-- MEANING: laws of files and of a sink that never fail.
use Rattle.std.specs.Prelude.{ℕ, ◌≡◌, ◌+◌, Bool, List, []}
use Rattle.sn_io.specs.Files.{IsFault}
use Rattle.sn_io.specs.Sink.{TakesFront}
use Rattle.sn_io.specs.SteadyFiles.{SteadyFilesState, steady_files_state}
use Rattle.sn_io.specs.SteadySink.{SteadySinkState, steady_sink_state}

-- no call of the files is a fault
abbrev pub SteadyFilesNeverFail : Type 0
SteadyFilesNeverFail = (before after : SteadyFilesState) (stays_open : Bool) → ¬ IsFault (steady_files_state before) (steady_files_state after) stays_open

-- files of which none was opened give the first bytes, then the second, and then none
abbrev pub SteadyFilesGiveInTurn : Type 0
SteadyFilesGiveInTurn =
    (files : SteadyFilesState) (name : List ℕ) → files.opens ≡ 0
    → ((steady_files_state files).given name 0 ≡ files.first) × ((steady_files_state files).given name 1 ≡ files.second)
    × ((later : ℕ) → (steady_files_state files).given name (2 + later) ≡ [])

-- no text that is written to the sink stops before its end
abbrev pub SteadySinkNeverStops : Type 0
SteadySinkNeverStops = (before after : SteadySinkState) (text : List ℕ) → ¬ TakesFront (steady_sink_state before) (steady_sink_state after) text
