use Rattle.sn_entity.proofs.ShapeLemmas.{shows_shape, shapes_tell}
use Rattle.sn_entity.proofs.laws.shows_shape.Goals as goal

pub returns-clause-shows : goal.returns-clause-shows
returns-clause-shows c = shows_shape

pub returns-clause-tell : goal.returns-clause-tell
returns-clause-tell c = shapes_tell
