use Rattle.std.proofs.Common.{◌+◌, ◌≤◌, ◌-◌, length}
use Rattle.sn_run.specs.declared.reading.TheConstants.{LONGEST}
use Rattle.sn_run.specs.Reading.{IsReading}
use Rattle.sn_run.proofs.reading.read_part.Given as goal

abbrev pub invariant-loop-bytes : goal.invariant-loop-bytes
invariant-loop-bytes g l =
    let state = g.F.Files.state in
    IsReading (state l.fn.files) (state l.files) l.fn.name l.bytes.items × (length l.bytes.items ≤ LONGEST + 1)

abbrev pub decreases-loop-bytes : goal.decreases-loop-bytes
decreases-loop-bytes g l = LONGEST + 1 - length l.bytes.items
