use Rattle.std.proofs.Common.{◌<◌, ◌∙◌, length, sym, subst, arith}
use Rattle.std.proofs.lemmas.Bool.{eqb-false}
use Rattle.std.specs.List.{All}
use Rattle.sn_outline.specs.JobRule.{IsProper}
use Rattle.sn_path_tests.proofs.clear.strokes_of.Goals as goal

pub strokes-requires-clause-step : goal.strokes-requires-clause-step
strokes-requires-clause-step c =
    let proper : All IsProper c.steps-steps.result.now = subst (λ steps. All IsProper steps) (sym c.steps-steps.ensures) c.rule.ensures.proper in
    let some : 0 < length c.steps-steps.result.now = omega (arith, eqb-false _ _ (sym c.is_empty.ensures ∙ c.if-is_empty.false)) in
    subst IsProper (sym c.index-steps-0.is) (proper 0 c.index-steps-0.result some)
