use Rattle.std.proofs.Common.{refl}
use Rattle.sn_io.proofs.SinkLemmas.{writes-later}
use Rattle.sn_message.proofs.message.write_number.Goals as goal

pub returns : goal.returns
returns g c =
    writes-later c.write_all-2.result _ _ _ _ _ _ refl c.in_ok-write_all.ensures (rw (c.as_bytes.ensures.value, c.format.ensures.text) at c.write_all-2.ensures)
