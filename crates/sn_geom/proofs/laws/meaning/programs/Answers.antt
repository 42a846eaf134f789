use Rattle.sn_geom.proofs.Meanings.{programs_mean_from_the_start, programs_have_one_meaning}
use Rattle.sn_geom.proofs.laws.meaning.programs.Goals as goal

pub returns-clause-from_the_start : goal.returns-clause-from_the_start
returns-clause-from_the_start c = programs_mean_from_the_start

pub returns-clause-one_meaning : goal.returns-clause-one_meaning
returns-clause-one_meaning c = programs_have_one_meaning
