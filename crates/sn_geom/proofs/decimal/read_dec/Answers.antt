use Rattle.sn_geom.proofs.NumberLimits.{read_number, read_every, read_past}
use Rattle.sn_geom.proofs.decimal.read_dec.Goals as goal

pub returns-clause-number : goal.returns-clause-number
returns-clause-number c =
    rw c.ok_or.ensures.value (read_number _ _ _ _ _ _ c.in-Some.ensures.found c.dec_of.result c.if-text-gt-MOST_BYTES.false c.dec_of.ensures)

pub returns-clause-every : goal.returns-clause-every
returns-clause-every c = λ d h.
    rw c.ok_or.ensures.value (read_every _ _ _ _ _ _ c.in-Some.ensures.found c.dec_of.result c.dec_of.ensures d h)

pub returns-clause-out_of_range : goal.returns-clause-out_of_range
returns-clause-out_of_range c =
    rw c.ok_or.ensures.value (read_past _ _ _ _ _ _ c.in-Some.ensures.found c.dec_of.result c.if-text-gt-MOST_BYTES.false c.dec_of.ensures)
