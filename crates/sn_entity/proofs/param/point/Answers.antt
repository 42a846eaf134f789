use Rattle.std.proofs.Common.{◌≡◌, [], ◌∷◌, ap, ◌∙◌, inl}
use Rattle.std.proofs.lemmas.Result.{IfOk-weaker, IfErr-weaker}
use Rattle.sn_p21.specs.declared.file.Param.TheVariants as param
use Rattle.sn_entity.proofs.ParamLemmas.{two_items, refused_two, refused_point}
use Rattle.sn_entity.proofs.param.point.Goals as goal

pub returns-then-params-eq2-clause-found : goal.returns-then-params-eq2-clause-found
returns-then-params-eq2-clause-found c =
    let a = c.index-params-0.result in
    let b = c.index-params-1.result in
    let items = two_items c.in-Some.params.now a b c.if-params-eq2.true c.index-params-0.is c.index-params-1.is in
    let e : c.args.param.now ≡ param.List (a ∷ b ∷ []) = c.in-Some.ensures.found ∙ ap param.List items in
    IfOk-weaker c.two.result _ _ (λ v given. inl (a, b, e, given)) c.two.ensures.found

pub returns-then-params-eq2-clause-refused : goal.returns-then-params-eq2-clause-refused
returns-then-params-eq2-clause-refused c =
    let a = c.index-params-0.result in
    let b = c.index-params-1.result in
    let items = two_items c.in-Some.params.now a b c.if-params-eq2.true c.index-params-0.is c.index-params-1.is in
    let e : c.args.param.now ≡ param.List (a ∷ b ∷ []) = c.in-Some.ensures.found ∙ ap param.List items in
    IfErr-weaker c.two.result _ _ (refused_two c.args.measure.now c.args.param.now a b e) c.two.ensures.refused

pub returns-clause-refused : goal.returns-clause-refused
returns-clause-refused c =
    IfErr-weaker c.triple.result _ _ (refused_point c.args.measure.now c.args.param.now c.in-Some.params.now c.in-Some.ensures.found c.if-params-eq2.false) c.triple.ensures.refused
