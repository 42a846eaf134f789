use Rattle.sn_geom.proofs.Discs.{disc_by_half_width, disc_beyond, disc_has_centre, disc_of_nothing}
use Rattle.sn_geom.proofs.laws.discs.Goals as goal

pub returns-clause-by_rows : goal.returns-clause-by_rows
returns-clause-by_rows c = λ d w p q. (disc_by_half_width d w p q, disc_beyond d p q)

pub returns-clause-has_its_centre : goal.returns-clause-has_its_centre
returns-clause-has_its_centre c = λ d p q. (disc_has_centre d p, disc_of_nothing p q)
