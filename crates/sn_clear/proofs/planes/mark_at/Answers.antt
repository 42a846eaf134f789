use Rattle.sn_clear.proofs.WindowLemmas.{mark_is}
use Rattle.sn_clear.proofs.planes.mark_at.Goals as goal

pub returns : goal.returns
returns c =
    mark_is c.args.plane.now c.args.g.now c.args.column c.args.row c.has_at.result c.requires.grid c.requires.column c.requires.row c.has_at.ensures
