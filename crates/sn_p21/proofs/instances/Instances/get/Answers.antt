use Rattle.std.proofs.Common.{ap, ◌∙◌}
use Rattle.sn_p21.specs.Numbers.{instance_of}
use Rattle.sn_p21.proofs.InstanceLemmas.{lookup_by_number}
use Rattle.sn_p21.proofs.instances.Instances.get.Goals as goal

pub returns : goal.returns
returns c =
    c.get.ensures.value ∙ lookup_by_number c.args.number c.self.inside.found.entries c.self.invariant ∙ ap (instance_of c.args.number) c.self.view_is
