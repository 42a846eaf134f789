use Rattle.std.proofs.Common.{◌≤ℤ◌, length, arith, sym, ◌∙◌}
use Rattle.std.proofs.lemmas.Bool.{eqb-true}
use Rattle.std.proofs.lemmas.Int.{ints}
use Rattle.std.proofs.lemmas.List.{nil_from_length}
use Rattle.sn_outline.specs.Job.{tip_floor}
use Rattle.sn_link.proofs.StepPlanLemmas.{counts_by, cut_by, proper_of, rests_low, rests_without}
use Rattle.sn_link.proofs.step_plan.planned_of.Goals as goal

pub returns-clause-planned : goal.returns-clause-planned
returns-clause-planned c = λ passes stands.
    let job = c.args.j.now in
    let step = c.args.step.now in
    cut_by job step passes _ c.args.s.now c.highest-above.result (c.highest-above.ensures job step passes stands c.requires.allowed) c.requires.strokes
    c.tip_at-tip.result c.in_ok-planned.planned (c.tip_at-tip.ensures job (sym c.security-sec.ensures))
    (c.in_ok-planned.ensures.cut job (sym c.security-sec.ensures) c.requires.allowed)

pub returns-clause-counts : goal.returns-clause-counts
returns-clause-counts c = λ passes stands.
    let job = c.args.j.now in
    let step = c.args.step.now in
    counts_by job step passes _ c.args.s.now c.highest-above.result (c.highest-above.ensures job step passes stands c.requires.allowed) c.requires.strokes
    c.clearing.ensures.same c.tip_at-tip.result c.in_ok-planned.planned c.rule.ensures c.requires.executed c.requires.above (c.tip_at-tip.ensures job (sym c.security-sec.ensures))
    (c.in_ok-planned.ensures.cut job (sym c.security-sec.ensures) c.requires.allowed)

pub returns-then-get-clause-planned : goal.returns-then-get-clause-planned
returns-then-get-clause-planned c = λ passes stands.
    let job = c.args.j.now in
    let step = c.args.step.now in
    let low : c.highest-above.result ≤ℤ tip_floor step = omega (arith, ints) in
    rests_low job step passes _ c.args.s.now c.highest-above.result (c.highest-above.ensures job step passes stands c.requires.allowed) c.requires.strokes
    c.none.result.moves low c.none.ensures.moves

pub returns-then-is_empty-clause-planned : goal.returns-then-is_empty-clause-planned
returns-then-is_empty-clause-planned c = λ passes stands.
    let job = c.args.j.now in
    let step = c.args.step.now in
    rests_without job step passes _ c.args.s.now c.highest-above.result (c.highest-above.ensures job step passes stands c.requires.allowed) c.requires.strokes
    c.none-then-is_empty.result.moves
    (nil_from_length c.args.s.now (eqb-true (length c.args.s.now) 0 (sym c.is_empty.ensures ∙ c.if-is_empty.true))) c.none-then-is_empty.ensures.moves

pub cut_in_layers-requires-clause-proper : goal.cut_in_layers-requires-clause-proper
cut_in_layers-requires-clause-proper c = proper_of c.args.j.now c.args.step.now c.rule.ensures c.requires.executed
