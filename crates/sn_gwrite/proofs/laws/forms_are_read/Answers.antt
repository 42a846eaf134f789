use Rattle.sn_gwrite.proofs.FormReadings.{forms-read}
use Rattle.sn_gwrite.proofs.laws.forms_are_read.Goals as goal

-- src/laws.rt:20:1
pub returns : goal.returns
returns c = forms-read
