use Rattle.std.proofs.Common.{ap, ◌∙◌, is_some}
use Rattle.sn_p21.specs.Numbers.{has_number, instances_of}
use Rattle.sn_p21.proofs.InstanceLemmas.{lookup_by_number, is_some_copied, has_instance}
use Rattle.sn_p21.proofs.instances.Instances.has.Goals as goal

pub returns : goal.returns
returns c =
    let es = c.self.inside.found.entries in
    c.is_some.ensures ∙ is_some_copied c.get.result ∙ ap is_some (c.get.ensures.value ∙ lookup_by_number c.args.number es c.self.invariant) ∙ has_instance c.args.number (instances_of es) ∙ ap (has_number c.args.number) c.self.view_is
