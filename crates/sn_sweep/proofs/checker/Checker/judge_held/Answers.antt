use Rattle.std.proofs.Common.{◌∙◌, ap, refl}
use Rattle.sn_sweep.proofs.TakenPieces.{reads_with_rest, with_rest}
use Rattle.sn_sweep.proofs.checker.Checker.judge_held.Goals as goal

pub returns-clause-read : goal.returns-clause-read
returns-clause-read c =
    reads_with_rest c.args.self.now _ c.judge_line.new.self c.take-line.new.self.items c.args.self.now.rest c.as_slice.result.now
    (with_rest _ _ c.take-line.new.self.items c.take-line.new.self.items c.self.view_is refl)
    (c.as_slice.ensures.value ∙ ap (λ line. line.items) c.take-line.ensures.value ∙ ap (λ kept. kept.rest) c.self.view_is)
    c.judge_line.ensures.read
