use Rattle.sn_feature.proofs.FormLemmas.{rows_have_forms}
use Rattle.sn_feature.proofs.laws.rows_have_forms.Goals as goal

pub returns : goal.returns
returns c = rows_have_forms
