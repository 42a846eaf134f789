use Rattle.std.proofs.Common.{◌≡◌, ◌-ℤ◌, pos, true, false, w32, to_z, of_z, Ok, ap, sym, ◌∙◌, arith}
use Rattle.std.proofs.lemmas.Int.{ints}
use Rattle.sn_geom.specs.Decimal.{Decimal, with_sign}
use Rattle.sn_geom.proofs.Scaling.{within_every, within_fault}
use Rattle.sn_geom.proofs.decimal.Dec.scaled.Goals as goal
use Rattle.sn_geom.proofs.decimal.Dec.scaled.Goals.{Then-self, Else-self}

-- what is returned is the size under the sign
below_zero : (c : Then-self) → to_z w32 (of_z w32 (pos 0 -ℤ to_z w32 c.in-Some.size)) ≡ with_sign c.args.self.now.negative c.in-Some.size
below_zero c =
    let sign : c.args.self.now.negative ≡ true = sym (ap (λ (d : Decimal). d.negative) c.self.view_is) ∙ c.if-self.true in
    rw sign (omega (arith, ints))

above_zero : (c : Else-self) → to_z w32 c.in-Some.size ≡ with_sign c.args.self.now.negative c.in-Some.size
above_zero c =
    let sign : c.args.self.now.negative ≡ false = sym (ap (λ (d : Decimal). d.negative) c.self.view_is) ∙ c.if-self.false in
    rw sign (omega (arith, ints))

pub returns-then-self-clause-value : goal.returns-then-self-clause-value
returns-then-self-clause-value c =
    rw (below_zero (goal.at.returns-then-self-clause-value c).Then-self) c.in-Some.ensures

pub returns-then-self-clause-every : goal.returns-then-self-clause-every
returns-then-self-clause-every c = λ z s h.
    ap Ok (below_zero (goal.at.returns-then-self-clause-every c).Then-self ∙ within_every c.args.self.now c.args.k c.args.max c.in-Some.size c.in-Some.ensures z s)

pub returns-then-self-clause-out_of_range : goal.returns-then-self-clause-out_of_range
returns-then-self-clause-out_of_range c =
    (λ e. cc, λ p. absurd (within_fault c.args.self.now c.args.k c.args.max c.in-Some.size c.in-Some.ensures (omega arith) p))

pub returns-else-self-clause-every : goal.returns-else-self-clause-every
returns-else-self-clause-every c = λ z s h.
    ap Ok (above_zero (goal.at.returns-else-self-clause-every c).Else-self ∙ within_every c.args.self.now c.args.k c.args.max c.in-Some.size c.in-Some.ensures z s)

pub returns-else-self-clause-out_of_range : goal.returns-else-self-clause-out_of_range
returns-else-self-clause-out_of_range c =
    (λ e. cc, λ p. absurd (within_fault c.args.self.now c.args.k c.args.max c.in-Some.size c.in-Some.ensures (omega arith) p))
