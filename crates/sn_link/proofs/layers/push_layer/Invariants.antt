use Rattle.std.proofs.Common.{drop}
use Rattle.sn_link.proofs.LayeringLemmas.{IsAlong}
use Rattle.sn_link.proofs.layers.push_layer.Given as goal

abbrev pub invariant-loop-next : goal.invariant-loop-next
invariant-loop-next l = IsAlong l.allowed l.step l.layer l.strokes l.stroke (drop l.next-index l.rest) l.fn.moves l.moves
