use Rattle.sn_gwrite.proofs.PartMeanings.{unused_is_kept, kept_stays}
use Rattle.sn_gwrite.proofs.laws.kept_values.Goals as goal

pub returns : goal.returns
returns c = record { first = unused_is_kept; later = kept_stays }
