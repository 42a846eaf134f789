use Rattle.std.proofs.Common.{◌≡◌, None}
use Rattle.std.specs.Iterator.Adapters.{zip_first, zip_second}
use Rattle.std.specs.Slice.Iter.{iter_rest}
use Rattle.sn_geom.specs.declared.tip.Tip.TheVariants.{Unknown}
use Rattle.sn_gwrite.specs.Kept.{IsBegun}
use Rattle.sn_link.specs.Counts.{moves_of}
use Rattle.sn_link.specs.Plan.{with_moves}
use Rattle.sn_program.specs.Text.{steps_text}
use Rattle.sn_program.proofs.ProgramLemmas.{AreStepsLeft}
use Rattle.sn_program.proofs.program.write_steps.Given as goal

abbrev pub invariant-loop-step : goal.invariant-loop-step
invariant-loop-step g l =
    let state = g.S.Sink.state in
    let text = steps_text l.job None Unknown (with_moves l.job.steps (moves_of l.plans)) in
    record {
      begun : IsBegun l.emitter;
      tool : l.tool ≡ l.emitter.tool;
      left : AreStepsLeft l.job (state l.fn.sink) (state l.sink) text l.tool l.emitter.tip (iter_rest (zip_first l.step-iterator)) (iter_rest (zip_second l.step-iterator));
    }
