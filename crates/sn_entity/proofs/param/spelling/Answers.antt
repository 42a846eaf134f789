use Rattle.std.proofs.Common.{⊎_elim}
use Rattle.sn_p21.specs.declared.file.Param.TheVariants as param
use Rattle.sn_entity.proofs.ParamLemmas.{through_one}
use Rattle.sn_entity.proofs.param.spelling.Goals as goal

pub returns-in_default : goal.returns-in_default
returns-in_default c = record {
  found = tt;
  none = λ text s. ⊎_elim
      (λ h. c.in_default.not-Int text (through_one c.args.param.now _ (param.Int text) c.through.ensures h))
      (λ h. c.in_default.not-Real text (through_one c.args.param.now _ (param.Real text) c.through.ensures h)) s;
}
