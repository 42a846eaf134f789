use Rattle.std.proofs.Common.{refl}
use Rattle.sn_io.proofs.SinkLemmas.{writes-first, writes-later}
use Rattle.sn_program.proofs.program.write_program.Goals as goal

pub returns-in_err-write_steps : goal.returns-in_err-write_steps
returns-in_err-write_steps g c =
    let result = c.from_residual-in_err-write_steps.result in
    let head = rw c.tools.ensures at c.in_ok-head.ensures.writes in
    writes-later result _ _ _ _ _ _ refl head
    (writes-first result _ _ _ _ _ c.from_residual-in_err-write_steps.ensures.0 refl c.in_err-write_steps.ensures.writes)

pub returns : goal.returns
returns g c =
    let result = c.end.result in
    let head = rw c.tools.ensures at c.in_ok-head.ensures.writes in
    writes-later result _ _ _ _ _ _ refl head
    (writes-later result _ _ _ _ _ _ refl c.in_ok-write_steps.ensures.writes c.end.ensures.writes)
