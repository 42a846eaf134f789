use Rattle.sn_machine.proofs.SteppingLines.{steps_are_runs}
use Rattle.sn_machine.proofs.laws.stepping.Goals as goal

pub returns : goal.returns
returns c = steps_are_runs
