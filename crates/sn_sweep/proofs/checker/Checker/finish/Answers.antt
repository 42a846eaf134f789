use Rattle.sn_sweep.proofs.FinishLemmas.{verdict_again}
use Rattle.sn_sweep.proofs.checker.Checker.finish.Goals as goal

pub returns : goal.returns
returns c = record {
  verdict = λ job bytes taken.
      let (text, read, same) = c.end_line.ensures.read job bytes taken in
      verdict_again job text bytes c.verdict.result same (c.verdict.ensures job text read);
}
