use Rattle.std.proofs.Common.{sym, ◌∙◌}
use Rattle.sn_sweep.proofs.ReadLemmas.{counts_on, judges_on}
use Rattle.sn_sweep.proofs.checker.Checker.judge_line.Goals as goal

pub returns-then-is_at_fault-clause-read : goal.returns-then-is_at_fault-clause-read
returns-then-is_at_fault-clause-read c = λ job text read none.
    counts_on job text c.args.line.now c.args.self.now c.count_line.new.self (sym c.is_at_fault.ensures ∙ c.if-is_at_fault.true) c.count_line.ensures read none

pub returns-clause-read : goal.returns-clause-read
returns-clause-read c = λ job text read none.
    judges_on c.texts.ensures.in_pieces job text c.args.line.now c.args.self.now c.count_line.new.self c.take_line-cause.new.self c.keep_fault.new.self c.take_line-cause.result
    c.count_line.ensures (sym c.is_at_fault.ensures ∙ c.if-is_at_fault.false) c.take_line-cause.ensures.program c.take_line-cause.ensures.judged c.keep_fault.ensures
    (record { heights = c.rule-2.ensures.heights; allowed = c.rule-2.ensures.allowed }) read none
