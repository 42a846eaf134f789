use Rattle.sn_gwrite.proofs.ShownLengths.{shown_lengths-one}
use Rattle.sn_gwrite.proofs.laws.text_shows_one_length.Goals as goal

-- src/laws.rt:11:1
pub returns : goal.returns
returns c = shown_lengths-one
