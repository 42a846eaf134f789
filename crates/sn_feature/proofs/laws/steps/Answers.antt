use Rattle.sn_feature.proofs.StepProofs.{parts_tell, steps_agree, steps_are_fit, point_of_drill}
use Rattle.sn_feature.proofs.laws.steps.Goals as goal

pub returns-clause-tell : goal.returns-clause-tell
returns-clause-tell c = parts_tell

pub returns-clause-agree : goal.returns-clause-agree
returns-clause-agree c = steps_agree

pub returns-clause-fit : goal.returns-clause-fit
returns-clause-fit c = steps_are_fit

pub returns-clause-drills : goal.returns-clause-drills
returns-clause-drills c = point_of_drill
