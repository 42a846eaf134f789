use Rattle.sn_p21.specs.declared.file.Param.TheVariants as param
use Rattle.sn_entity.proofs.ParamLemmas.{through_one}
use Rattle.sn_entity.proofs.param.text.Goals as goal

pub returns-in_default : goal.returns-in_default
returns-in_default c = record {
  found = tt;
  refused = λ given. c.in_default.not-Text given.1.0 (through_one c.args.param.now _ (param.Text given.1.0) c.through.ensures given.1.1);
}
