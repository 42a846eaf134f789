use Rattle.sn_p21.specs.declared.file.Param.TheVariants as param
use Rattle.sn_entity.proofs.ParamLemmas.{through_one}
use Rattle.sn_entity.proofs.param.reference.Goals as goal

pub returns-in_default : goal.returns-in_default
returns-in_default c = record {
  found = tt;
  none = λ number h. c.in_default.not-Ref number (through_one c.args.param.now _ (param.Ref number) c.through.ensures h);
}
