use Rattle.sn_lex.proofs.Named.{faults_named}
use Rattle.sn_lex.proofs.laws.faults_named.Goals as goal

pub returns : goal.returns
returns c = faults_named
