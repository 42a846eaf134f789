use Rattle.sn_entity.proofs.ParamLemmas.{number_spelled}
use Rattle.sn_entity.proofs.param.is_numeric.Goals as goal

pub returns-in-Some : goal.returns-in-Some
returns-in-Some c = (
  λ is. (c.in-Some.text.now, c.in-Some.ensures.found, c.is_number_text.ensures.0 is),
  λ numeric. c.is_number_text.ensures.1 (number_spelled c.args.param.now c.in-Some.text.now c.in-Some.ensures.found numeric),
)

pub returns-in-None : goal.returns-in-None
returns-in-None c = (λ is. cc, λ numeric. absurd (c.in-None.ensures.none numeric.0 numeric.1))
