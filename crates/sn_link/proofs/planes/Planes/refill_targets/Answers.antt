use Rattle.std.proofs.Common.{◌∙◌}
use Rattle.sn_link.proofs.LayeringLemmas.{targets_are}
use Rattle.sn_link.proofs.planes.Planes.refill_targets.Goals as goal

pub returns-clause-targets : goal.returns-clause-targets
returns-clause-targets c =
    targets_are c.args.g.now c.args.j.now c.args.step.now c.refill-2.new.self c.args.self.now.opening c.nodes.result.now c.nodes-2.result.now c.both.new.self
    c.requires.grid (c.both.ensures.grid ∙ c.requires.own.targets) c.nodes.ensures c.nodes-2.ensures c.refill-2.ensures.required c.requires.opening c.both.ensures.nodes
