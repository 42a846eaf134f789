use Rattle.std.proofs.Common.{◌≡◌, true}
use Rattle.std.proofs.lemmas.Result.{IfErr-weaker}
use Rattle.sn_entity.proofs.KindLemmas.{refused_read}
use Rattle.sn_entity.proofs.param.read_param.Goals as goal

pub returns-clause-refused : goal.returns-clause-refused
returns-clause-refused c =
    IfErr-weaker c.of_kind.result _ _
    (refused_read c.args.read.now c.args.param.now (λ lack. let l : c.is_left_out.result ≡ true = c.is_left_out.ensures.1 lack in cc (l, c.if-is_left_out.false)))
    c.of_kind.ensures.refused
