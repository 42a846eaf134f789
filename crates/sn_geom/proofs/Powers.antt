-- A whole number times a power of ten, rounded.
use Rattle.std.proofs.Common.{◌≡◌, ℕ, zero, suc, ◌*◌, ◌^◌, ◌<◌, ◌≤◌, ℤ, pos, negsuc, neg_ℤ, ◌*ℤ◌, Bool, true, false, ◌<ℤ◌, ◌≤ℤ◌, unsigned_abs, Option, Some, None, SomeIff, MatchOption, refl, sym, ap, ◌∙◌, subst, arith}
use Rattle.std.proofs.Math.Nat.{mul-one, one-le-pow}
use Rattle.std.proofs.lemmas.Int.{ints}
use Rattle.sn_geom.specs.Decimal.{Decimal, with_sign, power_of_ten, numerator, denominator, ScalesTo, ScalesToOne}
use Rattle.sn_geom.specs.Rounding.{RoundsTo}
use Rattle.sn_geom.proofs.RoundingLaws.{one_rounding, product-neg, RoundsTo-neg, RoundsTo-same, RoundsTo-whole}

-- where the power is negative, a quotient is rounded
pub lowered_power : (n m places : ℕ) (e : ℤ) → e <ℤ pos 0 → places ≡ unsigned_abs e → RoundsTo (pos n) (10 ^ places) (pos m) → RoundsTo (pos (n * power_of_ten e)) (power_of_ten (neg_ℤ e)) (pos m)
lowered_power n m places (pos k) h p r = absurd (omega (arith, ints))
lowered_power n m places (negsuc k) h p r = rw mul-one (subst (λ j. RoundsTo (pos n) (10 ^ j) (pos m)) p r)

whole : (n m : ℕ) → m ≡ n → RoundsTo (pos n) 1 (pos m)
whole n m e = subst (λ k. RoundsTo (pos n) 1 (pos k)) (sym e) (RoundsTo-whole n)

past : (n places k : ℕ) → places ≡ k → ¬ (n * 10 ^ places < 2 ^ 128) → 2 ^ 128 ≤ n * 10 ^ k
past n places k e h = let t : ¬ (n * 10 ^ k < 2 ^ 128) = subst (λ j. ¬ (n * 10 ^ j < 2 ^ 128)) e h in omega arith

-- elsewhere the product is whole
pub raised_power : (n places : ℕ) (e : ℤ) (r : Option ℕ) → pos 0 ≤ℤ e → places ≡ unsigned_abs e → SomeIff r (n * 10 ^ places < 2 ^ 128) (n * 10 ^ places) → MatchOption r ((m : ℕ) × RoundsTo (pos (n * power_of_ten e)) (power_of_ten (neg_ℤ e)) (pos m) × (2 ^ 128 ≤ m)) (λ m. RoundsTo (pos (n * power_of_ten e)) (power_of_ten (neg_ℤ e)) (pos m))
raised_power n places (negsuc k) r h p s = absurd (omega (arith, ints))
raised_power n places (pos zero) None h p s = (n * 10 ^ 0, RoundsTo-whole (n * 10 ^ 0), past n places 0 p s)
raised_power n places (pos (suc k)) None h p s = (n * 10 ^ suc k, RoundsTo-whole (n * 10 ^ suc k), past n places (suc k) p s)
raised_power n places (pos zero) (Some m) h p s = whole (n * 10 ^ 0) m (s.1 ∙ ap (λ j. n * 10 ^ j) p)
raised_power n places (pos (suc k)) (Some m) h p s = whole (n * 10 ^ suc k) m (s.1 ∙ ap (λ j. n * 10 ^ j) p)

-- the value of d times k, as a fraction
numerator_times : (d : Decimal) (k : ℕ) → numerator d *ℤ pos k ≡ with_sign d.negative (d.digits * k * power_of_ten d.exponent)
numerator_times d k = times d.negative d.digits k (power_of_ten d.exponent)
  where
    times : (b : Bool) (n k p : ℕ) → with_sign b (n * p) *ℤ pos k ≡ with_sign b (n * k * p)
    times false n k p = ap pos (grind arith)
    times true n k p = product-neg (pos (n * p)) k ∙ ap (λ m. neg_ℤ (pos m)) (grind arith)

with_sign-rounds : (b : Bool) (n m k : ℕ) → RoundsTo (pos n) m (pos k) → RoundsTo (with_sign b n) m (with_sign b k)
with_sign-rounds false n m k r = r
with_sign-rounds true n m k r = RoundsTo-neg (pos n) (pos k) m r

pub unsigned_abs-with_sign : (b : Bool) (n : ℕ) → unsigned_abs (with_sign b n) ≡ n
unsigned_abs-with_sign false n = refl
unsigned_abs-with_sign true n = omega (arith, ints)

pub power_of_ten-some : (e : ℤ) → 0 < power_of_ten e
power_of_ten-some (pos n) = omega (arith, one-le-pow n 10 (omega arith))
power_of_ten-some (negsuc n) = omega arith

pub scales_same : (d : Decimal) (k : ℕ) (z w : ℤ) → ScalesTo d k z → ScalesTo d k w → z ≡ w
scales_same d k z w r s = RoundsTo-same (numerator d *ℤ pos k) (denominator d) z w (power_of_ten-some (neg_ℤ d.exponent)) r s

-- m is the size of d times k, rounded
abbrev pub HasSize : Decimal → ℕ → ℕ → Type 0
HasSize d k m = RoundsTo (pos (d.digits * k * power_of_ten d.exponent)) (power_of_ten (neg_ℤ d.exponent)) (pos m)

-- then it is that product under the sign of d
pub scales : (d : Decimal) (k m : ℕ) → HasSize d k m → ScalesTo d k (with_sign d.negative m)
scales d k m r = rw numerator_times (with_sign-rounds d.negative (d.digits * k * power_of_ten d.exponent) (denominator d) m r)

pub scales_or_past : (d : Decimal) (k : ℕ) (r : Option ℕ) → MatchOption r ((m : ℕ) × HasSize d k m × (2 ^ 128 ≤ m)) (HasSize d k) → MatchOption r ((m : ℕ) × ScalesTo d k (with_sign d.negative m) × (2 ^ 128 ≤ m)) (λ m. ScalesTo d k (with_sign d.negative m))
scales_or_past d k None h = (h.0, scales d k h.0 h.1, h.2)
scales_or_past d k (Some m) h = scales d k m h

pub one_product : ScalesToOne
one_product d k = one_rounding (numerator d *ℤ pos k) (denominator d) (power_of_ten-some (neg_ℤ d.exponent))
