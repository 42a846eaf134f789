use Rattle.std.proofs.Common.{◌≡◌, ℕ, Some, sym, ◌∙◌}
use Rattle.sn_entity.specs.Given.{one_at}
use Rattle.sn_refs.proofs.TargetLemmas.{one_given, must_target}
use Rattle.sn_refs.proofs.checked.Checked.one.Goals as goal

pub unreachable-requires : goal.unreachable-requires
unreachable-requires c =
    let f = c.fields.result.now in
    let given : (t : ℕ) × (one_at f.values c.args.k ≡ Some t) = one_given c.args.self.now c.args.n f c.args.k c.fields.ensures.entry c.fields.ensures.row c.fields.ensures.shape c.given_where_wanted.ensures c.requires.wanted in
    let is : one_at f.values c.args.k ≡ Some given.0 = given.1 in
    cc

pub returns-clause-target : goal.returns-clause-target
returns-clause-target c =
    let f = c.fields.result.now in
    must_target c.args.self.now c.args.n f c.args.k c.fields.ensures.entry c.fields.ensures.row c.requires.reached c.rule.ensures.sound c.named_are_targets.ensures c.requires.wanted c.in-Some.named (sym c.one.ensures ∙ c.in-Some.is)
