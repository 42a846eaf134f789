use Rattle.std.proofs.Common.{◌≡◌, drop}
use Rattle.sn_gwrite.specs.Kept.{IsBegun, IsTurning}
use Rattle.sn_link.specs.Moves.{tip_after_moves}
use Rattle.sn_program.specs.Text.{moves_text}
use Rattle.sn_program.proofs.ProgramLemmas.{AreMovesLeft}
use Rattle.sn_program.proofs.writer.write_moves.Given as goal

abbrev pub invariant-loop-to : goal.invariant-loop-to
invariant-loop-to g l =
    let state = g.S.Sink.state in
    let first = l.fn.emitter in
    record {
      begun : IsBegun l.emitter;
      tool : l.emitter.tool ≡ first.tool;
      turning : IsTurning l.emitter;
      left : AreMovesLeft (state l.fn.sink) (state l.sink) (moves_text first.tip l.moves) (tip_after_moves first.tip l.moves) l.emitter.tip (drop l.to-index l.moves);
    }
