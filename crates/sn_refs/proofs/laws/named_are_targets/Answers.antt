use Rattle.sn_refs.proofs.TargetLemmas.{named_are_targets}
use Rattle.sn_refs.proofs.laws.named_are_targets.Goals as goal

pub returns : goal.returns
returns c = named_are_targets
