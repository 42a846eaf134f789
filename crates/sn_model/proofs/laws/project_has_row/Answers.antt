use Rattle.sn_model.proofs.KeptByRowLemmas.{project_has_row}
use Rattle.sn_model.proofs.laws.project_has_row.Goals as goal

pub returns : goal.returns
returns c = project_has_row c.one_row.ensures
