use Rattle.sn_words.proofs.number.read_point.Goals as goal

pub returns-in_err-x-clause-none : goal.returns-in_err-x-clause-none
returns-in_err-x-clause-none c = rw c.from_residual.ensures (λ p h. c.in_err-x.ensures.none p.x h.x_is)

pub returns-in_err-y-clause-none : goal.returns-in_err-y-clause-none
returns-in_err-y-clause-none c = rw c.from_residual-in_err-y.ensures (λ p h. c.in_err-y.ensures.none p.y h.y_is)

pub returns-in_err-z-clause-none : goal.returns-in_err-z-clause-none
returns-in_err-z-clause-none c = rw c.from_residual-in_err-z.ensures (λ p h. c.in_err-z.ensures.none p.z h.z_is)
