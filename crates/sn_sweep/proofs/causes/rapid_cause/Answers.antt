use Rattle.std.proofs.Common.{◌≡◌, sym, subst, ◌∙◌, rules}
use Rattle.std.specs.Option.{option_map}
use Rattle.sn_geom.specs.Acts.Act.{Rapid}
use Rattle.sn_open.specs.Verdict.{IsActCause}
use Rattle.sn_open.specs.declared.verdict.Cause.TheVariants.{Crash}
use Rattle.sn_sweep.specs.Causes.{TellsFirst}
use Rattle.sn_sweep.proofs.CausesLemmas.{tool_within, tool_is_other, rapid_told}
use Rattle.sn_sweep.proofs.causes.rapid_cause.Goals as goal

pub returns-in_default : goal.returns-in_default
returns-in_default c = λ before _.
    tool_is_other c.args.j.now c.args.tool c.rule.ensures (sym c.body_with.ensures ∙ c.in_default.is) before c.args.from.now c.args.to.now

pub first_left-requires-clause-diameter : goal.first_left-requires-clause-diameter
first_left-requires-clause-diameter c =
    tool_within c.args.j.now c.args.tool c.in-Some.body c.rule.ensures (sym c.body_with.ensures ∙ c.in-Some.is)

pub returns : goal.returns
returns c = λ before stands.
    let is : c.map.result ≡ option_map Crash c.first_left.result = search rules in
    subst (TellsFirst (IsActCause c.args.j.now before (Rapid c.args.from.now c.args.to.now c.args.tool))) (sym is)
    (rapid_told c.args.j.now c.args.tool c.in-Some.body c.args.heights.now c.args.from.now c.args.to.now c.first_left.result c.rule.ensures
    (sym c.body_with.ensures ∙ c.in-Some.is) c.first_left.ensures.some c.first_left.ensures.none before stands)
