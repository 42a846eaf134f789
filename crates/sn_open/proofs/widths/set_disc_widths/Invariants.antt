use Rattle.sn_open.specs.Widths.{IsWithin}
use Rattle.sn_open.proofs.WidthLemmas.{AreSet}
use Rattle.sn_open.proofs.widths.set_disc_widths.Given as goal

abbrev pub invariant-loop-k : goal.invariant-loop-k
invariant-loop-k l = AreSet (λ m k. IsWithin l.d l.pitch m k) l.rows l.widths l.k
