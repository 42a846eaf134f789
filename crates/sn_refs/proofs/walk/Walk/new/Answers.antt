use Rattle.sn_refs.proofs.WalkLemmas.{begins}
use Rattle.sn_refs.proofs.walk.Walk.new.Goals as goal

pub returns-clause-kept : goal.returns-clause-kept
returns-clause-kept c = λ m. begins m _ _ _ c.new.result.entries c.new-2.ensures.items c.new-3.ensures.items c.new-4.ensures.items c.new.ensures.empty c.new.ensures.unique
