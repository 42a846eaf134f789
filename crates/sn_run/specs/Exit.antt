-- MEANING: how the program ends (this project's own).
use Rattle.std.specs.Prelude.{ℕ, Bool, ◌&&◌, if◌then◌else◌}
use Rattle.sn_run.specs.declared.status.Status.{Status}
use Rattle.sn_run.specs.declared.status.Status.TheVariants as status

-- the exit status of the program, by the status of its command
abbrev pub exit_status : Status → ℕ
exit_status status.Done = 0
exit_status status.PartRefused = 1
exit_status status.BadWords = 2
exit_status status.ReadFault = 3
exit_status status.WriteFault = 4
exit_status status.Memory = 5
exit_status status.No = 6
exit_status status.Uncovered = 7
exit_status status.TooLong = 8

-- the status that is left after the output and the errors were handed over whole, or were not
abbrev pub final_status : Status → Bool → Bool → Status
final_status ended written told = if written && told then ended else status.WriteFault
