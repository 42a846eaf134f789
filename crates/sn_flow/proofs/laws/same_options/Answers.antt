use Rattle.sn_flow.proofs.OptionLemmas.{same_options_same_job}
use Rattle.sn_flow.proofs.laws.same_options.Goals as goal

pub returns : goal.returns
returns c = same_options_same_job
