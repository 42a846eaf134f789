use Rattle.std.proofs.Common.{◌∙◌, sym, ◌≡◌, Some}
use Rattle.sn_open.specs.Good.{body_of}
use Rattle.sn_sweep.proofs.ActLemmas.{tool_body, small_diameter, small_point}
use Rattle.sn_sweep.proofs.checker.Checker.cut.Goals as goal

pub cut-requires-clause-diameter : goal.cut-requires-clause-diameter
cut-requires-clause-diameter c =
    small_diameter c.in-Some.body (tool_body c.self.inside.job.now.steps c.args.tool c.in-Some.body c.rule.ensures.proper (sym c.body_with.ensures ∙ c.in-Some.is))

pub cut-requires-clause-point : goal.cut-requires-clause-point
cut-requires-clause-point c =
    small_point c.in-Some.body (tool_body c.self.inside.job.now.steps c.args.tool c.in-Some.body c.rule.ensures.proper (sym c.body_with.ensures ∙ c.in-Some.is))

pub returns-in-Some-clause-material : goal.returns-in-Some-clause-material
returns-in-Some-clause-material c =
    let is : body_of c.self.inside.job.now.steps c.args.tool ≡ Some c.in-Some.body = sym c.body_with.ensures ∙ c.in-Some.is in
    rw (← c.self.view_is, is) (λ some stands. c.cut.ensures.material _ some stands)
