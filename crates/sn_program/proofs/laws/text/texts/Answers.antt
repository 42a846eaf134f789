use Rattle.sn_program.proofs.StepLines.{program_means}
use Rattle.sn_program.proofs.TextLawLemmas.{steps_are_written}
use Rattle.sn_program.proofs.laws.text.texts.Goals as goal

pub returns-clause-steps : goal.returns-clause-steps
returns-clause-steps c = steps_are_written

pub returns-clause-acts : goal.returns-clause-acts
returns-clause-acts c = program_means
