use Rattle.std.proofs.Common.{◌∙◌}
use Rattle.sn_refs.proofs.WalkLemmas.{visits_to}
use Rattle.sn_refs.proofs.walk.Walk.visit.Goals as goal

pub returns-clause-kept : goal.returns-clause-kept
returns-clause-kept c = λ at fresh.
    visits_to c.args.model.now c.args.n c.args.self.now.members.items c.args.self.now.pending.items c.args.self.now.path.items c.args.self.now.places.entries c.insert.new.self.entries c.args.self.now.fault c.args.self.now.cycle c.in_ok-add_targets.ensures.0 c.as_slice-2.result.now c.own_fault-own.result c.len.result c.len-2.result c.len-3.result
    c.push-2.new.self.items c.add_targets.new.found.items c.push.new.self.items c.lesser_noted-self.result
    at fresh (c.as_slice-2.ensures.value ∙ c.in_ok-references.ensures) c.in_ok-add_targets.ensures.2 c.own_fault-own.ensures
    (c.len.ensures ∙ c.args.self.now.members.ok.0) c.in_ok-insert.ensures.updates.0 c.in_ok-insert.ensures.unique
    (c.len-2.ensures ∙ c.args.self.now.members.ok.0) (c.len-3.ensures ∙ c.args.self.now.pending.ok.0)
    c.in_ok-push-2.ensures.items c.in_ok-add_targets.ensures.1 c.in_ok-push.ensures.items c.lesser_noted-self.ensures
