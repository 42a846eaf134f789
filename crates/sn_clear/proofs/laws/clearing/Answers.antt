use Rattle.sn_clear.proofs.ClearingLemmas.{strokes_lie_on_centres, targets_are_along_strokes, clearing_strokes_are_thrifty, no_strokes_without_targets}
use Rattle.sn_clear.proofs.SameStrokes.{same_nodes_same_strokes}
use Rattle.sn_clear.proofs.laws.clearing.Goals as goal

pub returns : goal.returns
returns c = record {
  lie = strokes_lie_on_centres;
  along = targets_are_along_strokes;
  thrifty = clearing_strokes_are_thrifty;
  none = no_strokes_without_targets;
  same = same_nodes_same_strokes;
}
