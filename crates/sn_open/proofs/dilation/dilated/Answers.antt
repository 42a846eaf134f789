use Rattle.std.proofs.Common.{◌∙◌}
use Rattle.sn_open.specs.Morphology.{IsNearOne}
use Rattle.sn_open.proofs.UpdateLemmas.{of_grid}
use Rattle.sn_open.proofs.dilation.dilated.Goals as goal

pub returns-clause-nodes : goal.returns-clause-nodes
returns-clause-nodes c = of_grid (IsNearOne c.args.plane.now c.args.d) c.dilate.new.to _ _ (c.in_ok-room.ensures ∙ c.grid-g.ensures) c.dilate.ensures.nodes
