use Rattle.std.proofs.Common.{length, refl, sym}
use Rattle.std.proofs.lemmas.Bool.{both_ways, false≢true}
use Rattle.std.proofs.lemmas.List.Elements.{All-from_all_within, AllWithin-upto}
use Rattle.sn_outline.proofs.FirstOfKind.{IsFeatureOfFirst, one_feature, feature_of_first}
use Rattle.sn_outline.proofs.rule.have_one_feature.Goals as goal

pub returns-then-not-is_feature_of_first : goal.returns-then-not-is_feature_of_first
returns-then-not-is_feature_of_first c =
    let steps = c.args.steps.now in (
      λ e. absurd (false≢true e),
      λ one. absurd (both_ways _ c.if-not-is_feature_of_first.true (c.is_feature_of_first.ensures.1 (feature_of_first steps one c.step-item.result (c.loop-step.step-index, c.loop-step-test.true, sym c.step-item.is)))),
    )

pub returns : goal.returns
returns c =
    let steps = c.args.steps.now in
    let all = AllWithin-upto (IsFeatureOfFirst steps) steps 0 _ (length steps) c.loop-step-test.false c.loop-step.invariant in
    (λ _. one_feature steps (All-from_all_within (IsFeatureOfFirst steps) steps all), λ _. refl)
