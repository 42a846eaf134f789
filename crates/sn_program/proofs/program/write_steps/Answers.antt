use Rattle.std.proofs.Common.{sym, ◌∙◌}
use Rattle.std.proofs.lemmas.Slice.Zip.{Zip-more}
use Rattle.sn_program.proofs.ProgramLemmas.{next_step, step_stopped, step_taken}
use Rattle.sn_program.proofs.program.write_steps.Goals as goal

pub returns-in_err-write_step-clause-writes : goal.returns-in_err-write_step-clause-writes
returns-in_err-write_step-clause-writes g c =
    let more = Zip-more c.loop-step.step-iterator c.next.new.self c.next.result (c.in-Some.step, c.in-Some.planned) c.in-Some.is c.next.ensures.steps in
    let left = next_step c.loop-step.invariant.left more.0 more.1 in
    step_stopped c.from_residual.result left c.as_slice-moves.ensures c.from_residual.ensures.0 c.in_err-write_step.ensures.writes

pub loop-step-preserved : goal.loop-step-preserved
loop-step-preserved g c =
    let wrote = c.in_ok-write_step.ensures in
    let more = Zip-more c.loop-step.step-iterator c.next.new.self c.next.result (c.in-Some.step, c.in-Some.planned) c.in-Some.is c.next.ensures.steps in
    let left = next_step c.loop-step.invariant.left more.0 more.1 in
    record {
      begun = wrote.begun;
      tool = c.tool_left-tool.ensures ∙ sym wrote.tool;
      left = step_taken left c.as_slice-moves.ensures wrote.writes c.tool_left-tool.ensures wrote.tip;
    }
