use Rattle.sn_geom.proofs.MachineRuns.{lines_have_one_meaning, faulty_lines_do_nothing, lines_go_on}
use Rattle.sn_geom.proofs.laws.machine.lines.Goals as goal

pub returns-clause-one_meaning : goal.returns-clause-one_meaning
returns-clause-one_meaning c = lines_have_one_meaning

pub returns-clause-faulty : goal.returns-clause-faulty
returns-clause-faulty c = faulty_lines_do_nothing

pub returns-clause-go_on : goal.returns-clause-go_on
returns-clause-go_on c = lines_go_on
