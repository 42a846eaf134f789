use Rattle.std.proofs.Common.{◌+◌, refl, arith}
use Rattle.std.proofs.lemmas.Bool.{both_ways, false≢true}
use Rattle.sn_outline.proofs.Numbering.{all_at_most, one_more_used, numbered_from}
use Rattle.sn_outline.proofs.rule.are_numbered.Goals as goal

pub returns-then-not-are_at_most : goal.returns-then-not-are_at_most
returns-then-not-are_at_most c = (
  λ e. absurd (false≢true e),
  λ numbered. absurd (both_ways _ c.if-not-are_at_most.true (c.are_at_most.ensures.1 (all_at_most _ _ numbered))),
)

pub returns-then-not-uses_tool : goal.returns-then-not-uses_tool
returns-then-not-uses_tool c = (
  λ e. absurd (false≢true e),
  λ numbered. absurd (both_ways _ c.if-not-uses_tool.true (c.uses_tool.ensures.1 ((numbered (c.loop-before.before + 1)).1 (omega arith, omega arith)))),
)

pub loop-before-preserved : goal.loop-before-preserved
loop-before-preserved c = one_more_used _ _ c.loop-before.invariant (c.uses_tool.ensures.0 c.if-not-uses_tool.false)

pub returns : goal.returns
returns c = (
  λ _. numbered_from _ _ (c.are_at_most.ensures.0 c.if-not-are_at_most.false) (λ k from to. c.loop-before.invariant k from (omega arith)),
  λ _. refl,
)
