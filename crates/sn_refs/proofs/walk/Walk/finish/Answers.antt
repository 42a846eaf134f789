use Rattle.std.proofs.Common.{◌-◌, ℕ, take, ap, ◌∙◌}
use Rattle.sn_refs.proofs.FinishLemmas.{finishes, starts_within}
use Rattle.sn_refs.proofs.walk.Walk.finish.Goals as goal

pub returns-clause-kept : goal.returns-clause-kept
returns-clause-kept c = λ m at last short.
    finishes m _ _ _ _ _ _ _ _ _ c.args.component at last short (c.cycle_with-self.ensures (starts_within m _ _ _ _ _ _ c.args.component at last)) c.truncate.ensures.items
    (c.pop.ensures.rest ∙ ap (λ (k : ℕ). take (k - 1) c.args.self.now.path.items) c.args.self.now.path.ok.0)
