use Rattle.std.proofs.Common.{refl}
use Rattle.sn_report.specs.Generated.{draw_features}
use Rattle.sn_report.proofs.laws.seed_none_begins_so.Goals as goal

pub returns : goal.returns
unfolding draw_features
returns c = (refl, refl, refl, refl)
