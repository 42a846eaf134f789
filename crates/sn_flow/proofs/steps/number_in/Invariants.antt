use Rattle.std.proofs.Common.{◌≡◌, ◌+◌, take}
use Rattle.std.specs.Prelude.{nat_eq}
use Rattle.std.specs.List.{position_or_len}
use Rattle.sn_flow.proofs.steps.number_in.Given as goal

abbrev pub invariant-loop-other : goal.invariant-loop-other
invariant-loop-other l =
    (l.number ≡ l.other-index + 1) × (position_or_len (λ k. nat_eq k l.tool) (take l.other-index l.tools) ≡ l.other-index)
