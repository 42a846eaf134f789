use Rattle.sn_outline.proofs.Shapes.{rectangle_has_its_border, trail_is_its_segments, circle_is_its_trail}
use Rattle.sn_outline.proofs.laws.shapes.Goals as goal

pub returns-clause-rectangle : goal.returns-clause-rectangle
returns-clause-rectangle c = rectangle_has_its_border

pub returns-clause-trail : goal.returns-clause-trail
returns-clause-trail c = trail_is_its_segments

pub returns-clause-circle : goal.returns-clause-circle
returns-clause-circle c = circle_is_its_trail
