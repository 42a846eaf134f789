use Rattle.std.proofs.Common.{◌++◌, refl, sym, ap, ◌∙◌}
use Rattle.sn_io.proofs.SinkLemmas.{writes-first, writes-later}
use Rattle.sn_geom.specs.declared.tip.Tip.{Tip}
use Rattle.sn_gwrite.specs.Kept.{Kept}
use Rattle.sn_link.specs.Moves.{tip_for}
use Rattle.sn_program.specs.Text.{moves_text, setting_text}
use Rattle.sn_program.proofs.ProgramLemmas.{step_with_moves}
use Rattle.sn_program.proofs.program.write_step.Goals as goal

pub returns-in_err-write_setting-clause-writes : goal.returns-in_err-write_setting-clause-writes
returns-in_err-write_setting-clause-writes g c =
    let result = c.from_residual-in_err-write_setting.result in
    let text = step_with_moves c.args.job.now c.args.tool c.args.emitter.now.tip c.args.step.now c.args.moves.now c.in-Some.first.now c.in-Some.ensures.value in
    writes-later result _ _ _ _ _ _ text c.in_ok-mark.ensures.writes
    (writes-first result _ _ _ _ _ c.from_residual-in_err-write_setting.ensures.0 refl c.in_err-write_setting.ensures.writes)

pub returns-clause-writes : goal.returns-clause-writes
returns-clause-writes g c =
    let result = c.write_moves.result in
    let job = c.args.job.now in
    let step = c.args.step.now in
    let moves = c.args.moves.now in
    let text = step_with_moves job c.args.tool c.args.emitter.now.tip step moves c.in-Some.first.now c.in-Some.ensures.value in
    let stays = ap (λ (kept : Kept). kept.tip) c.in_ok-mark.ensures.ok in
    let tip = c.in_ok-write_setting.ensures.tip ∙ ap (λ (t : Tip). tip_for job c.args.tool t step) stays in
    writes-later result _ _ _ _ _ _ text c.in_ok-mark.ensures.writes
    (writes-later result _ _ _ _ _ _ (ap (λ (t : Tip). setting_text job c.args.tool step ++ moves_text t moves) (sym tip)) c.in_ok-write_setting.ensures.writes c.write_moves.ensures.writes)
