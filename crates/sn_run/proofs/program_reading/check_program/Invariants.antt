use Rattle.std.proofs.Common.{◌+◌, ◌-◌, ◌≤◌}
use Rattle.sn_run.specs.declared.reading.TheConstants.{LONGEST_PROGRAM}
use Rattle.sn_run.specs.Reading.{IsFeeding}
use Rattle.sn_run.proofs.program_reading.check_program.Given as goal

abbrev pub invariant-loop-taken : goal.invariant-loop-taken
invariant-loop-taken g l =
    let state = g.F.Files.state in
    IsFeeding (state l.fn.files) (state l.files) l.fn.name l.fn.checker l.checker l.taken × (l.taken ≤ LONGEST_PROGRAM + 1)

abbrev pub decreases-loop-taken : goal.decreases-loop-taken
decreases-loop-taken g l = LONGEST_PROGRAM + 1 - l.taken
