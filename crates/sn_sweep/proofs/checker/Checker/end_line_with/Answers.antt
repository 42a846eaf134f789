use Rattle.std.proofs.Common.{◌∙◌, ap, sym}
use Rattle.sn_sweep.specs.Checking.{most_held}
use Rattle.sn_sweep.proofs.TakenPieces.{reads_shown, reads_with_rest, none_held, first_shown}
use Rattle.sn_sweep.proofs.checker.Checker.end_line_with.Goals as goal

pub returns-then-is_empty-clause-read : goal.returns-then-is_empty-clause-read
returns-then-is_empty-clause-read c =
    let none = none_held c.self.inside.rest.items c.args.self.now.rest (ap (λ kept. kept.rest) c.self.view_is) (sym c.is_empty.ensures ∙ c.if-is_empty.true) in
    reads_shown c.args.self.now c.judge_line.new.self _ _ (first_shown most_held c.min.result c.args.self.now.rest c.args.last.now none c.min.ensures)
    c.judge_line.ensures.read

pub returns-else-is_empty-clause-read : goal.returns-else-is_empty-clause-read
returns-else-is_empty-clause-read c =
    reads_with_rest c.args.self.now c.hold.new.self c.judge_held.new.self _ _ c.hold.new.self.rest c.hold.ensures (ap (λ kept. kept.rest) c.hold.ensures)
    c.judge_held.ensures.read
