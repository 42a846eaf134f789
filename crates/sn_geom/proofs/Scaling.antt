-- What the clauses on a rounded product say, from one fact.
use Rattle.std.proofs.Common.{◌≡◌, ℕ, ◌<◌, ◌≤◌, ℤ, unsigned_abs, ap, ◌∙◌, arith}
use Rattle.sn_geom.specs.Decimal.{Decimal, with_sign, ScalesTo}
use Rattle.sn_geom.proofs.Powers.{scales_same, unsigned_abs-with_sign}

-- m is the size of the value of d times k, rounded
module _ (d : Decimal) (k max m : ℕ) (r : ScalesTo d k (with_sign d.negative m)) where
  scaled_size : (z : ℤ) → ScalesTo d k z → unsigned_abs z ≡ m
  scaled_size z s = ap unsigned_abs (scales_same d k z (with_sign d.negative m) s r) ∙ unsigned_abs-with_sign d.negative m

  pub within_every : (z : ℤ) → ScalesTo d k z → with_sign d.negative m ≡ z
  within_every z s = scales_same d k (with_sign d.negative m) z r s

  pub within_fault : m ≤ max → ((z : ℤ) × ScalesTo d k z × (max < unsigned_abs z)) → ⊥
  within_fault h p = omega (arith, scaled_size p.0 p.1, p.2)
