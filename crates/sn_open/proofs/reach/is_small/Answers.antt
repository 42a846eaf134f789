use Rattle.std.proofs.Common.{subst}
use Rattle.sn_raster.specs.Grid.{Node}
use Rattle.sn_raster.specs.Plane.{Plane, Has}
use Rattle.sn_open.proofs.ReachLemmas.{none_required}
use Rattle.sn_open.proofs.reach.is_small.Goals as goal

pub returns-clause-yes : goal.returns-clause-yes
returns-clause-yes c = λ yes.
    none_required c.args.j.now c.args.feature c.args.none.now c.refill.new.self c.requires.empty.1 c.refill.ensures.required
    (subst (λ (p : Plane). (n : Node) → Has p n → Has c.args.none.now n) c.nodes.ensures (c.is_within.ensures.yes yes))
