use Rattle.std.proofs.Common.{◌∙◌, ap, sym}
use Rattle.sn_sweep.proofs.TakenPieces.{rest_read, some_held}
use Rattle.sn_sweep.proofs.checker.Checker.end_line.Goals as goal

pub returns-then-not-is_empty-clause-read : goal.returns-then-not-is_empty-clause-read
returns-then-not-is_empty-clause-read c = λ job bytes.
    rest_read job bytes c.args.self.now c.judge_held.new.self
    (some_held c.self.inside.rest.items c.args.self.now.rest (ap (λ kept. kept.rest) c.self.view_is) (sym c.is_empty.ensures ∙ c.if-not-is_empty.true))
    c.judge_held.ensures.read
