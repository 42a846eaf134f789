use Rattle.sn_geom.proofs.MachineFaults.{first_fault_is_told}
use Rattle.sn_geom.proofs.laws.machine.faults.Goals as goal

pub returns-clause-first : goal.returns-clause-first
returns-clause-first c = first_fault_is_told
