use Rattle.sn_geom.proofs.Touching.{touch_by_height_and_plan, touch_above, cut_is_touch}
use Rattle.sn_geom.proofs.laws.touching.Goals as goal

pub returns-clause-height_and_plan : goal.returns-clause-height_and_plan
returns-clause-height_and_plan c = touch_by_height_and_plan

pub returns-clause-above : goal.returns-clause-above
returns-clause-above c = touch_above

pub returns-clause-cut : goal.returns-clause-cut
returns-clause-cut c = cut_is_touch
