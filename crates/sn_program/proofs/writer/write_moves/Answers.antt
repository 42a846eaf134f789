use Rattle.std.proofs.Common.{ap, ◌∙◌}
use Rattle.sn_gwrite.specs.Kept.{Kept}
use Rattle.sn_program.proofs.ProgramLemmas.{move_stopped, move_taken, next_move}
use Rattle.sn_program.proofs.writer.write_moves.Goals as goal

pub returns-in_err-write_move-clause-writes : goal.returns-in_err-write_move-clause-writes
returns-in_err-write_move-clause-writes g c =
    let left = next_move c.args.moves.now c.loop-to.to-index c.loop-to.invariant.left c.loop-to-test.true c.to-item.is in
    move_stopped c.from_residual.result left c.from_residual.ensures.0 c.in_err-write_move.ensures.writes

pub loop-to-preserved : goal.loop-to-preserved
loop-to-preserved g c =
    let so_far = c.loop-to.invariant in
    let left = next_move c.args.moves.now c.loop-to.to-index so_far.left c.loop-to-test.true c.to-item.is in
    let arrived = c.in_ok-write_move.ensures.ok in
    record {
      begun = ap (λ (kept : Kept). kept.stage) arrived ∙ so_far.begun;
      tool = ap (λ (kept : Kept). kept.tool) arrived ∙ so_far.tool;
      turning = ap (λ (kept : Kept). kept.spindle) arrived ∙ so_far.turning;
      left = move_taken left c.in_ok-write_move.ensures.writes (ap (λ (kept : Kept). kept.tip) arrived);
    }
