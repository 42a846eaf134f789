use Rattle.std.proofs.Common.{List, sym, subst}
use Rattle.std.proofs.lemmas.Option.{IfSome_then}
use Rattle.sn_outline.specs.declared.job.StepJob.{StepJob}
use Rattle.sn_raster.specs.Plane.{Plane}
use Rattle.sn_open.specs.Planes.{AreRequired}
use Rattle.sn_sweep.specs.Left.{IsBandOf, IsStanding, IsStandingIn}
use Rattle.sn_sweep.proofs.LeftLemmas.{IsSearchOf, stands_in_it, first_alike}
use Rattle.sn_sweep.proofs.left.left_of.Goals as goal

pub returns-clause-some : goal.returns-clause-some
returns-clause-some c =
    let job = c.args.j.now in
    let step = c.args.step.now in
    let plane = c.nodes.result.now in
    let s : IsSearchOf job step plane c.band_of.result = record {
      rule = c.rule.ensures;
      executed = c.requires.executed;
      required = subst (λ (p : Plane). AreRequired p job step.feature) (sym c.nodes.ensures) c.refill.ensures.required;
      heights = subst (λ (steps : List StepJob). IsBandOf steps step c.band_of.result) c.steps.ensures c.band_of.ensures;
    } in
    IfSome_then c.left_in_rows.result c.left_in_rows.ensures.some
    (λ cell first.
    first_alike (IsStandingIn plane c.args.heights.now c.band_of.result) (IsStanding job c.args.heights.now step.feature)
    (stands_in_it job c.args.heights.now step plane c.band_of.result s) cell first)

pub returns-clause-none : goal.returns-clause-none
returns-clause-none c = λ none cell standing.
    let job = c.args.j.now in
    let step = c.args.step.now in
    let plane = c.nodes.result.now in
    let s : IsSearchOf job step plane c.band_of.result = record {
      rule = c.rule.ensures;
      executed = c.requires.executed;
      required = subst (λ (p : Plane). AreRequired p job step.feature) (sym c.nodes.ensures) c.refill.ensures.required;
      heights = subst (λ (steps : List StepJob). IsBandOf steps step c.band_of.result) c.steps.ensures c.band_of.ensures;
    } in
    c.left_in_rows.ensures.none none cell ((stands_in_it job c.args.heights.now step plane c.band_of.result s cell).1 standing)
