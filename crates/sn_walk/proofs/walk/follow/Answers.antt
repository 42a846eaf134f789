use Rattle.std.proofs.Common.{◌≡◌, subst}
use Rattle.sn_walk.specs.declared.node.Node.{Node}
use Rattle.sn_walk.specs.declared.node.Node.TheVariants.{Compared}
use Rattle.sn_walk.specs.Node.{node_of, listed}
use Rattle.sn_walk.specs.Pending.{IsLed}
use Rattle.sn_walk.proofs.walk.follow.Goals as goal

pub compares_values-requires-clause-left : goal.compares_values-requires-clause-left
compares_values-requires-clause-left c =
    let m = c.args.c.now in
    let is : node_of m c.args.n ≡ Compared c.in-Compared.comparison c.in-Compared.a c.in-Compared.b = cc in
    let behind : IsLed m c.args.n (listed m c.args.n) (Compared c.in-Compared.comparison c.in-Compared.a c.in-Compared.b) = subst (λ (node : Node). IsLed m c.args.n (listed m c.args.n) node) is (c.instances_lead.ensures m c.rule.ensures.checked.model c.rule.ensures.sound c.args.n c.requires.reached) in
    behind.0.reached

pub compares_values-requires-clause-right : goal.compares_values-requires-clause-right
compares_values-requires-clause-right c =
    let m = c.args.c.now in
    let is : node_of m c.args.n ≡ Compared c.in-Compared.comparison c.in-Compared.a c.in-Compared.b = cc in
    let behind : IsLed m c.args.n (listed m c.args.n) (Compared c.in-Compared.comparison c.in-Compared.a c.in-Compared.b) = subst (λ (node : Node). IsLed m c.args.n (listed m c.args.n) node) is (c.instances_lead.ensures m c.rule.ensures.checked.model c.rule.ensures.sound c.args.n c.requires.reached) in
    behind.1.reached
