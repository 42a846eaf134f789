use Rattle.sn_frame.proofs.Placing.{perpendicular_unless_skew, not_skew, one_frame, upright}
use Rattle.sn_frame.proofs.laws.placements.Goals as goal

pub returns-clause-skew : goal.returns-clause-skew
returns-clause-skew c = λ axis reference. (perpendicular_unless_skew axis reference, not_skew axis reference)

pub returns-clause-one_frame : goal.returns-clause-one_frame
returns-clause-one_frame c = one_frame

pub returns-clause-upright : goal.returns-clause-upright
returns-clause-upright c = upright
