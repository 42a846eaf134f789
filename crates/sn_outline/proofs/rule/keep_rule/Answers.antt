use Rattle.sn_outline.proofs.rule.keep_rule.Goals as goal

pub returns : goal.returns
returns c = (
  λ proper. record {
    few = c.if-steps-gt-MOST_STEPS.false;
    numbered = c.are_numbered.ensures.0 c.if-not-are_numbered.false;
    bodies = c.have_one_body.ensures.0 c.if-not-have_one_body.false;
    features = c.have_one_feature.ensures.0 c.if-not-have_one_feature.false;
    proper = c.are_proper.ensures.0 proper;
  },
  λ keep. c.are_proper.ensures.1 keep.proper,
)
