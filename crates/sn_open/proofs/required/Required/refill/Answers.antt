use Rattle.std.proofs.Common.{refl, sym, subst}
use Rattle.std.specs.Prelude.{Contains}
use Rattle.sn_open.proofs.OpeningLemmas.{required_plane}
use Rattle.sn_open.proofs.required.Required.refill.Goals as goal

pub returns-in-Some-clause-required : goal.returns-in-Some-clause-required
returns-in-Some-clause-required c =
    required_plane c.args.g.now c.args.j.now c.args.feature c.in-Some.s.now c.steps.result.now c.refill_by.new.self c.rule-2.ensures c.refill_by.ensures.grid c.requires.grid c.steps.ensures
    c.in-Some.ensures.some (c.refill_by.ensures.nodes c.args.j.now c.requires.grid)

pub returns-in_default-clause-required : goal.returns-in_default-clause-required
returns-in_default-clause-required c =
    let (step, of) = c.requires.executed in
    absurd (c.in_default.ensures.none refl step (subst (λ xs. Contains xs step) (sym c.steps.ensures) of.executed) of.cuts)
