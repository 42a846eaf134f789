use Rattle.sn_raster.specs.Grid.{place}
use Rattle.sn_raster.proofs.filling.rows_of_disc.Goals as goal

pub returns-clause-all : goal.returns-clause-all
returns-clause-all c = λ n window in_disc.
    c.rows_near.ensures.all n window ((c.nearness.ensures.one_place c.args.d c.args.centre.now (place c.args.g.now.pitch n)).1 in_disc)
