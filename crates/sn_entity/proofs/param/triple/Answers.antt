use Rattle.std.proofs.Common.{◌≡◌, [], ◌∷◌, ap, ◌∙◌}
use Rattle.std.proofs.lemmas.Result.{IfOk-weaker, IfErr-weaker}
use Rattle.sn_p21.specs.declared.file.Param.TheVariants as param
use Rattle.sn_entity.proofs.ParamLemmas.{three_items, no_three, refused_triple}
use Rattle.sn_entity.proofs.param.triple.Goals as goal

pub returns-then-params-ne3-clause-refused : goal.returns-then-params-ne3-clause-refused
returns-then-params-ne3-clause-refused c = no_three c.args.param.now c.in-Some.params.now c.in-Some.ensures.found c.if-params-ne3.true

pub returns-clause-found : goal.returns-clause-found
returns-clause-found c =
    let a = c.index-params-0.result in
    let b = c.index-params-1.result in
    let d = c.index-params-2.result in
    let items = three_items c.in-Some.params.now a b d c.if-params-ne3.false c.index-params-0.is c.index-params-1.is c.index-params-2.is in
    let e : c.args.param.now ≡ param.List (a ∷ b ∷ d ∷ []) = c.in-Some.ensures.found ∙ ap param.List items in
    IfOk-weaker c.three.result _ _ (λ v given. (a, b, d, e, given)) c.three.ensures.found

pub returns-clause-refused : goal.returns-clause-refused
returns-clause-refused c =
    let a = c.index-params-0.result in
    let b = c.index-params-1.result in
    let d = c.index-params-2.result in
    let items = three_items c.in-Some.params.now a b d c.if-params-ne3.false c.index-params-0.is c.index-params-1.is c.index-params-2.is in
    let e : c.args.param.now ≡ param.List (a ∷ b ∷ d ∷ []) = c.in-Some.ensures.found ∙ ap param.List items in
    IfErr-weaker c.three.result _ _ (refused_triple c.args.measure.now c.args.param.now a b d e) c.three.ensures.refused
