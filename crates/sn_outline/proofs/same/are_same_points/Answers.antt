use Rattle.std.proofs.Common.{refl, arith}
use Rattle.std.proofs.lemmas.List.{same_lists}
use Rattle.sn_outline.proofs.same.are_same_points.Goals as goal

pub returns : goal.returns
returns c = (λ _. same_lists _ _ c.if-a-b.false (λ k d within. c.loop-i.invariant k d (omega arith)), λ _. refl)
