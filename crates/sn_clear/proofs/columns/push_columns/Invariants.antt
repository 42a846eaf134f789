use Rattle.std.proofs.Common.{List, Bool}
use Rattle.sn_clear.specs.Columns.{IsLeft}
use Rattle.sn_clear.proofs.ColumnLemmas.{IsMade}
use Rattle.sn_clear.proofs.columns.push_columns.Given as goal

abbrev pub invariant-loop-k : goal.invariant-loop-k
invariant-loop-k l =
    (targets : List Bool) → IsLeft l.f targets l.fn.left l.fn.strokes.items → IsMade l.f targets l.left l.fn.strokes.items l.strokes.items l.k
