use Rattle.std.proofs.Common.{◌≡◌, map, take}
use Rattle.sn_clear.specs.Strokes.{stroke_of}
use Rattle.sn_clear.proofs.clearing.strokes_of.Given as goal

abbrev pub invariant-loop-run : goal.invariant-loop-run
invariant-loop-run l = l.strokes ≡ map (stroke_of l.g) (take l.run-index l.runs)
