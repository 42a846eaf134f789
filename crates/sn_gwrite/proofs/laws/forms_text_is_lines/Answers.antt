use Rattle.sn_gwrite.proofs.FormReadings.{forms-lines}
use Rattle.sn_gwrite.proofs.laws.forms_text_is_lines.Goals as goal

pub returns : goal.returns
returns c = forms-lines
