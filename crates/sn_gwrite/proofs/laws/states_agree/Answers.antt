use Rattle.sn_gwrite.proofs.PartMeanings.{states_agree_by_stage}
use Rattle.sn_gwrite.proofs.laws.states_agree.Goals as goal

pub returns : goal.returns
returns c = states_agree_by_stage
