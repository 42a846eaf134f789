use Rattle.std.proofs.Common.{◌∷◌, ◌++◌, [], List, sym, ap, ◌∙◌, subst, eqb}
use Rattle.sn_p21.specs.declared.file.Instance.{Instance}
use Rattle.sn_p21.specs.Numbers.{has_number, instances_of, AreByNumber}
use Rattle.sn_p21.proofs.InstanceLemmas.{not_found, by_number_push, instances_push}
use Rattle.indexmap.proofs.CallerLemmas.{insert_entry-new}
use Rattle.sn_p21.proofs.instances.Instances.push.Goals as goal

pub invariant_of-self-2 : goal.invariant_of-self-2
invariant_of-self-2 c =
    let es = c.self.inside.found.entries in
    let i = c.args.instance in
    let none = not_found i.number es c.self.invariant (ap (has_number i.number) c.self.view_is ∙ sym c.has.ensures ∙ c.if-has.false) in
    let e = c.in_ok-insert.ensures.entries ∙ insert_entry-new eqb c.self.inside.found i.number i none in
    subst AreByNumber (sym e) (by_number_push es i c.self.invariant)

pub returns-clause-added : goal.returns-clause-added
returns-clause-added c =
    let es = c.self.inside.found.entries in
    let i = c.args.instance in
    let none = not_found i.number es c.self.invariant (ap (has_number i.number) c.self.view_is ∙ sym c.has.ensures ∙ c.if-has.false) in
    let e = c.in_ok-insert.ensures.entries ∙ insert_entry-new eqb c.self.inside.found i.number i none in
    λ yes. ap instances_of e ∙ instances_push es i ∙ ap (λ (is : List Instance). is ++ i ∷ []) c.self.view_is
