use Rattle.sn_words.proofs.CommandLemmas.{says_within_limits}
use Rattle.sn_words.proofs.laws.within_limits.Goals as goal

pub returns : goal.returns
returns c = says_within_limits
