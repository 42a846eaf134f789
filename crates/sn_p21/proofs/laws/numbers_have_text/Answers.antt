use Rattle.sn_p21.proofs.NumberTexts.{numbers_have_text}
use Rattle.sn_p21.proofs.laws.numbers_have_text.Goals as goal

pub returns : goal.returns
returns c = numbers_have_text
