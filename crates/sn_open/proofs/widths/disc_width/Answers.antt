use Rattle.std.proofs.Common.{◌≡◌, ◌*◌, refl, arith}
use Rattle.sn_open.proofs.WidthLemmas.{width_is, no_width}
use Rattle.sn_open.proofs.widths.disc_width.Goals as goal

pub returns-then-dy-from : goal.returns-then-dy-from
returns-then-dy-from c = λ m.
    let dy : c.from.result * c.from-2.result ≡ c.args.k * c.args.pitch = rw (c.from.ensures, c.from-2.ensures) refl in
    no_width c.args.d c.args.pitch m c.args.k (omega (arith, dy, c.if-dy-from.true, c.from-3.ensures))

pub returns-in-Some : goal.returns-in-Some
returns-in-Some c = λ m.
    let dy : c.from.result * c.from-2.result ≡ c.args.k * c.args.pitch = rw (c.from.ensures, c.from-2.ensures) refl in
    width_is c.args.d c.args.pitch m c.args.k c.in-Some.w _ (omega (arith, c.requires.pitch.at_least)) dy c.in-Some.ensures.greatest
