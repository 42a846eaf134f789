use Rattle.std.proofs.lemmas.Result.{IfErr-weaker}
use Rattle.sn_entity.proofs.ParamLemmas.{refused_number}
use Rattle.sn_entity.proofs.param.number.Goals as goal

pub returns-in_default-clause-refused : goal.returns-in_default-clause-refused
returns-in_default-clause-refused c = λ n. c.in_default.ensures.none n.0 n.1

pub returns-clause-refused : goal.returns-clause-refused
returns-clause-refused c =
    IfErr-weaker c.read.result _ _ (refused_number c.args.measure.now c.args.param.now c.in-Some.text.now c.in-Some.ensures.found) c.read.ensures.refused
