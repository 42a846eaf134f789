use Rattle.std.proofs.Common.{◌≡◌, ℕ, ◌≤◌}
use Rattle.std.specs.List.{Any}
use Rattle.sn_outline.proofs.rule.are_numbered.Given as goal

abbrev pub invariant-loop-before : goal.invariant-loop-before
invariant-loop-before l = (k : ℕ) → 1 ≤ k → k ≤ l.before → Any (λ s. s.tool ≡ k) l.steps
