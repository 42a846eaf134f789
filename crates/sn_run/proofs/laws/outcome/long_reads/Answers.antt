use Rattle.std.proofs.Common.{arith}
use Rattle.sn_run.proofs.laws.outcome.long_reads.Goals as goal

pub returns-clause-take_more : goal.returns-clause-take_more
returns-clause-take_more c = λ before after none long. (omega (arith, none, long.part), (λ two. omega (arith, none, long.program (omega (arith, two)))))

pub returns-clause-enough : goal.returns-clause-enough
returns-clause-enough c = λ before after none. (
  (λ one more. record { part = omega (arith, none, more); program = λ two. absurd (omega (arith, one, two)) }),
  (λ two more. record { part = omega (arith, none, more); program = λ _. omega (arith, none, more) }),
)
