use Rattle.sn_gwrite.proofs.ShownLengths.{length_text-shown}
use Rattle.sn_gwrite.proofs.laws.length_text_shows_length.Goals as goal

-- src/laws.rt:6:1
pub returns : goal.returns
returns c = length_text-shown
