use Rattle.std.proofs.Common.{arith}
use Rattle.sn_open.specs.Widths.{IsWithin}
use Rattle.sn_open.proofs.WidthLemmas.{none_set, one_set, all_set}
use Rattle.sn_open.proofs.widths.set_disc_widths.Goals as goal

pub loop-k-init : goal.loop-k-init
loop-k-init c = none_set (λ m k. IsWithin c.args.d c.args.pitch m k) c.args.rows c.args.widths.now c.requires.room

pub loop-k-preserved : goal.loop-k-preserved
loop-k-preserved c = one_set (λ m k. IsWithin c.args.d c.args.pitch m k) c.args.rows _ c.loop-k.k _ (omega (arith, c.loop-k-test.true)) c.disc_width.ensures c.loop-k.invariant

pub returns : goal.returns
returns c =
    let all = all_set (λ m k. IsWithin c.args.d c.args.pitch m k) c.args.rows _ c.loop-k.k c.loop-k-test.false c.loop-k.invariant in
    record { full = all.full; each = all.each; last = all.last }
