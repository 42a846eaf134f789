use Rattle.std.proofs.Common.{◌≡◌, ℕ, ◌<◌, get_or}
use Rattle.sn_outline.specs.declared.outline.Shape.{Shape}
use Rattle.sn_outline.proofs.same.are_same_shapes.Given as goal

abbrev pub invariant-loop-i : goal.invariant-loop-i
invariant-loop-i l = (k : ℕ) (d : Shape) → k < l.i → get_or l.a k d ≡ get_or l.b k d
