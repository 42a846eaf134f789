use Rattle.std.proofs.Common.{◌≡◌, ◌++◌, ◌∷◌, [], take, ◌+◌, ◌∙◌, sym, ap, arith}
use Rattle.std.proofs.lemmas.List.{take_more}
use Rattle.sn_entity.proofs.ParamLemmas.{refs_push, ref_at}
use Rattle.sn_entity.proofs.param.references.Goals as goal

pub returns-in_default-clause-refused : goal.returns-in_default-clause-refused
returns-in_default-clause-refused c = λ given.
    let r = ref_at c.args.params.now given.0 c.loop-param.param-index c.param-item.result given.1 (omega arith) c.param-item.is in
    c.in_default.ensures.none r.0 r.1

pub loop-param-preserved : goal.loop-param-preserved
loop-param-preserved c =
    let i = c.loop-param.param-index in
    let more : take (i + 1) c.args.params.now ≡ take i c.args.params.now ++ c.param-item.result ∷ [] =
    take_more c.args.params.now i c.param-item.result (omega arith) ∙ ap (λ p. take i c.args.params.now ++ p ∷ []) (sym c.param-item.is) in
    let pushed : c.push.new.self ≡ c.loop-param.refs ++ c.in-Some.number ∷ [] = c.in_ok-push.ensures in
    rw (more, pushed)
    (refs_push (take i c.args.params.now) c.loop-param.refs c.param-item.result c.in-Some.number c.loop-param.invariant c.in-Some.ensures.found)
