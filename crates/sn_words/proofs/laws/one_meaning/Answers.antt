use Rattle.sn_words.proofs.CommandLemmas.{says_one_thing}
use Rattle.sn_words.proofs.laws.one_meaning.Goals as goal

pub returns : goal.returns
returns c = says_one_thing c.one_reading.ensures.number c.one_rounding.ensures.product
