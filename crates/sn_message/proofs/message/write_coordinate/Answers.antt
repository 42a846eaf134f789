use Rattle.std.proofs.Common.{◌≡◌, refl, w32, to_z, of_z}
use Rattle.std.proofs.lemmas.Int.{to_z-of_z}
use Rattle.sn_io.proofs.SinkLemmas.{writes-later}
use Rattle.sn_message.proofs.message.write_coordinate.Goals as goal

pub returns : goal.returns
returns g c =
    let fits = c.ranges.number in
    let same : to_z w32 (of_z w32 c.args.number) ≡ c.args.number = simp to_z-of_z in
    writes-later c.write_all-2.result _ _ _ _ _ _ refl c.in_ok-write_all.ensures (rw (c.as_bytes.ensures.value, c.format.ensures.text, same) at c.write_all-2.ensures)
