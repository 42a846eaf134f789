use Rattle.std.proofs.Common.{◌∙◌, sym, ap, subst, Option, List, Ok}
use Rattle.sn_p21.specs.declared.file.Param.{Param}
use Rattle.sn_p21.specs.declared.grammar.list.OpenList.{OpenList}
use Rattle.sn_p21.specs.Reader.{parted, closes_in, takes_param, list_param, Steps}
use Rattle.sn_p21.proofs.StepLemmas.{parted_push, steps_from_gives}
use Rattle.sn_p21.proofs.grammar.reader.Reader.close.Goals as goal

pub returns-in-Some : goal.returns-in-Some
returns-in-Some c =
    let s = c.args.self.now in
    let e = ap parted c.in-Some.ensures ∙ parted_push c.pop.new.self c.in-Some.around in
    let steps = steps_from_gives c.take_param.result c.args.at _ c.take_param.new.self c.take_param.ensures in
    let q = c.list_param.ensures ∙ ap list_param c.replace-list.ensures.value in
    let P : Option (List OpenList × OpenList) → Type 0 = λ p. Steps (closes_in s p) c.args.at c.take_param.result c.take_param.new.self in
    let Q : Param → Type 0 = λ p. Steps (Ok (takes_param (record s { list = c.in-Some.around; outer = c.pop.new.self }) p)) c.args.at c.take_param.result c.take_param.new.self in
    subst P (sym e) (subst Q q steps)
