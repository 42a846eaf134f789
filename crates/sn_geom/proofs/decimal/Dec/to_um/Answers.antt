use Rattle.std.proofs.Common.{◌≡◌, ℤ, w32, to_z, of_z, Option, Some, None, Ok, SomeIff, FitsSigned, sym, ap, ◌∙◌, subst, arith}
use Rattle.std.proofs.lemmas.Int.{to_z-of_z, fits_signed_from_abs}
use Rattle.std.specs.Option.{ok_or}
use Rattle.sn_geom.specs.Length.{IsLength}
use Rattle.sn_geom.specs.declared.decimal.DecFault.TheVariants.{OutOfRange}
use Rattle.sn_geom.proofs.decimal.Dec.to_um.Goals as goal
use Rattle.sn_geom.proofs.decimal.Dec.to_um.Goals.{After-ok_or}

-- a length in the range is made
length_made : (v w : ℤ) (new : Option ℤ) → w ≡ v → IsLength v → SomeIff new (IsLength w) w → new ≡ Some v
length_made v w None e h n = absurd (n (subst IsLength (sym e) h))
length_made v w (Some u) e h n = ap Some (n.1 ∙ e)

made : (c : After-ok_or) → c.ok_or.result ≡ Ok c.in_ok-v.v
made c =
    let v = c.in_ok-v.v in
    let fits : FitsSigned w32 v = fits_signed_from_abs w32 v (omega (arith, c.in_ok-v.ensures.within)) in
    c.ok_or.ensures.value ∙ ap (λ (o : Option ℤ). ok_or o OutOfRange) (length_made v (to_z w32 (of_z w32 v)) c.new.result (to_z-of_z w32 v fits) c.in_ok-v.ensures.within c.new.ensures)

pub returns-clause-value : goal.returns-clause-value
returns-clause-value c = rw (made (goal.at.returns-clause-value c).After-ok_or) c.in_ok-v.ensures.value

pub returns-clause-within : goal.returns-clause-within
returns-clause-within c = rw (made (goal.at.returns-clause-within c).After-ok_or) c.in_ok-v.ensures.within

pub returns-clause-every : goal.returns-clause-every
returns-clause-every c = λ z s h. made (goal.at.returns-clause-every c).After-ok_or ∙ c.in_ok-v.ensures.every z s h

pub returns-clause-fault : goal.returns-clause-fault
returns-clause-fault c = rw (made (goal.at.returns-clause-fault c).After-ok_or) tt
