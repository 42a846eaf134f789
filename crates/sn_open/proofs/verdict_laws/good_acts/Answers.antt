use Rattle.sn_open.proofs.SearchedLemmas.{good_is_without_cause}
use Rattle.sn_open.proofs.verdict_laws.good_acts.Goals as goal

pub returns : goal.returns
returns c = good_is_without_cause
