use Rattle.sn_clear.proofs.WindowLemmas.{fits_place}
use Rattle.sn_clear.proofs.clearing.point_of.Goals as goal

pub overflow_cast-spot : goal.overflow_cast-spot
overflow_cast-spot c =
    fits_place c.args.g.now.i0 c.args.g.now.i1 c.args.spot.column c.rule.ensures.ends.columns.0 c.rule.ensures.ends.columns.1 c.requires.column

pub overflow_cast-spot-2 : goal.overflow_cast-spot-2
overflow_cast-spot-2 c =
    fits_place c.args.g.now.j0 c.args.g.now.j1 c.args.spot.row c.rule.ensures.ends.rows.0 c.rule.ensures.ends.rows.1 c.requires.row
