use Rattle.sn_flow.proofs.BoxLemmas.{turned_box}
use Rattle.sn_flow.proofs.laws.turned_boxes.Goals as goal

pub returns : goal.returns
returns c = turned_box
