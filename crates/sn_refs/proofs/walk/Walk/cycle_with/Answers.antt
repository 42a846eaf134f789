use Rattle.sn_refs.proofs.FinishLemmas.{counts}
use Rattle.sn_refs.proofs.walk.Walk.cycle_with.Goals as goal

pub returns-in-Some : goal.returns-in-Some
returns-in-Some c = λ _. counts c.args.self.now.cycle c.least.result c.args.self.now.members.items c.deref.result.now c.in-Some.members.now c.args.component.first_member c.args.component.is_cyclic c.if-not-component.false c.deref.ensures.value c.in-Some.ensures.lookup.0.2 c.least.ensures
