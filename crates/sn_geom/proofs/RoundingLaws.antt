-- Each fraction is rounded to just one whole number.
use Rattle.std.proofs.Common.{◌≡◌, ℕ, zero, suc, ◌+◌, ◌-◌, ◌*◌, ◌/◌, ◌%◌, ◌<◌, ◌≤◌, ⊎_elim, ℤ, pos, negsuc, neg_ℤ, ◌*ℤ◌, unsigned_abs, sym, ap, ◌∙◌, arith}
use Rattle.std.proofs.lemmas.Int.{ints}
use Rattle.std.proofs.lemmas.Bool.{cases_lt}
use Rattle.sn_geom.specs.Rounding.{distance, RoundsTo, RoundsToOne}

distance-pos : (p m n : ℕ) → distance (pos p) m (pos n) ≡ (p - n * m) + (n * m - p)
distance-pos p m n = omega (arith, ints)

distance-negsuc : (p m n : ℕ) → distance (pos p) m (negsuc n) ≡ p + (n * m + m)
distance-negsuc p m n = omega (arith, ints)

-- a whole number less leaves room for one divisor more
row_more : (a b m : ℕ) → a < b → a * m + m ≤ b * m
row_more a b m h = grind arith

-- at most half a divisor below z, and less than half above it
module _ (p m z : ℕ) (low : 2 * (z * m) ≤ 2 * p + m) (high : 2 * p < 2 * (z * m) + m) where
  half_up_nearest : (w : ℤ) → distance (pos p) m (pos z) ≤ distance (pos p) m w
  half_up_nearest (pos n) = ⊎_elim (λ h. omega (arith, distance-pos p m z, distance-pos p m n, row_more n z m h)) (λ h. ⊎_elim (λ k. omega (arith, distance-pos p m z, distance-pos p m n, row_more z n m k)) (λ k. let e : n ≡ z = omega arith in omega (arith, ap (λ n. distance (pos p) m (pos n)) e)) (cases_lt z n)) (cases_lt n z)
  half_up_nearest (negsuc n) = omega (arith, distance-pos p m z, distance-negsuc p m n)

  half_up_away : (w : ℤ) → distance (pos p) m w ≡ distance (pos p) m (pos z) → unsigned_abs w ≤ z
  half_up_away (pos n) e = ⊎_elim (λ k. absurd (omega (arith, e, distance-pos p m z, distance-pos p m n, row_more z n m k))) (λ k. k) (cases_lt z n)
  half_up_away (negsuc n) e = absurd (omega (arith, e, distance-pos p m z, distance-negsuc p m n))

  pub RoundsTo-half_up : RoundsTo (pos p) m (pos z)
  RoundsTo-half_up = record { nearest = half_up_nearest; away = half_up_away }

neg-neg : (z : ℤ) → neg_ℤ (neg_ℤ z) ≡ z
neg-neg z = omega (arith, ints)

unsigned_abs-neg : (z : ℤ) → unsigned_abs (neg_ℤ z) ≡ unsigned_abs z
unsigned_abs-neg z = omega (arith, ints)

pub product-neg : (z : ℤ) (m : ℕ) → neg_ℤ z *ℤ pos m ≡ neg_ℤ (z *ℤ pos m)
product-neg (pos zero) m = omega (arith, ints)
product-neg (pos (suc n)) m = omega (arith, ints)
product-neg (negsuc n) m = omega (arith, ints)

-- below zero as above it
distance-neg : (n z : ℤ) (m : ℕ) → distance (neg_ℤ n) m (neg_ℤ z) ≡ distance n m z
distance-neg n z m = omega (arith, ints, product-neg z m)

distance-neg_left : (n w : ℤ) (m : ℕ) → distance (neg_ℤ n) m w ≡ distance n m (neg_ℤ w)
distance-neg_left n w m = ap (distance (neg_ℤ n) m) (sym (neg-neg w)) ∙ distance-neg n (neg_ℤ w) m

pub RoundsTo-neg : (n z : ℤ) (m : ℕ) → RoundsTo n m z → RoundsTo (neg_ℤ n) m (neg_ℤ z)
RoundsTo-neg n z m r = record {
  nearest = λ w. omega (arith, distance-neg n z m, distance-neg_left n w m, r.nearest (neg_ℤ w));
  away = λ w e. omega (arith, unsigned_abs-neg z, unsigned_abs-neg w, r.away (neg_ℤ w) (sym (distance-neg_left n w m) ∙ e ∙ distance-neg n z m));
}

-- a number other than 0 and its opposite are not both nearest: 0 is nearer, or one of them is
opposite_apart : (n : ℤ) (m k : ℕ) → 0 < m → distance n m (pos (suc k)) ≡ distance n m (negsuc k) → distance n m (pos (suc k)) ≤ distance n m (pos 0) → ⊥
opposite_apart (pos p) m k some e h = omega (arith, distance-pos p m (suc k), distance-negsuc p m k, distance-pos p m 0)
opposite_apart (negsuc p) m k some e h = omega (arith, ints)

same_size : (n : ℤ) (m : ℕ) (z w : ℤ) → 0 < m → distance n m z ≡ distance n m w → distance n m z ≤ distance n m (pos 0) → unsigned_abs z ≡ unsigned_abs w → z ≡ w
same_size n m (pos a) (pos b) some e h s = ap pos s
same_size n m (negsuc a) (negsuc b) some e h s = ap negsuc (omega arith)
same_size n m (pos zero) (negsuc b) some e h s = absurd (omega arith)
same_size n m (pos (suc a)) (negsuc b) some e h s = let k : a ≡ b = omega arith in absurd (opposite_apart n m a some (e ∙ ap (λ i. distance n m (negsuc i)) (sym k)) h)
same_size n m (negsuc a) (pos b) some e h s = let k : b ≡ suc a = omega (arith, s) in absurd (opposite_apart n m a some (sym (e ∙ ap (λ i. distance n m (pos i)) k)) (omega (arith, e, h, ap (λ i. distance n m (pos i)) k)))

pub RoundsTo-same : (n : ℤ) (m : ℕ) (z w : ℤ) → 0 < m → RoundsTo n m z → RoundsTo n m w → z ≡ w
RoundsTo-same n m z w some r s =
    let e : distance n m z ≡ distance n m w = omega (arith, r.nearest w, s.nearest z) in
    let size : unsigned_abs z ≡ unsigned_abs w = omega (arith, s.away z e, r.away w (sym e)) in
    same_size n m z w some e (r.nearest (pos 0)) size

-- the quotient by twice the divisor
half_up-low : (p m : ℕ) → 0 < m → 2 * ((2 * p + m) / (2 * m) * m) ≤ 2 * p + m
half_up-low p m some = grind arith

half_up-high : (p m : ℕ) → 0 < m → 2 * p < 2 * ((2 * p + m) / (2 * m) * m) + m
half_up-high p m some = grind arith

rounding_of : (n : ℤ) (m : ℕ) → 0 < m → (z : ℤ) × RoundsTo n m z
rounding_of (pos p) m some = (pos ((2 * p + m) / (2 * m)), RoundsTo-half_up p m ((2 * p + m) / (2 * m)) (half_up-low p m some) (half_up-high p m some))
rounding_of (negsuc p) m some =
    let r = RoundsTo-half_up (suc p) m ((2 * suc p + m) / (2 * m)) (half_up-low (suc p) m some) (half_up-high (suc p) m some) in
    (neg_ℤ (pos ((2 * suc p + m) / (2 * m))), RoundsTo-neg (pos (suc p)) (pos ((2 * suc p + m) / (2 * m))) m r)

pub one_rounding : RoundsToOne
one_rounding n m some = ((rounding_of n m some).0, (rounding_of n m some).1, λ w r. RoundsTo-same n m w (rounding_of n m some).0 some r (rounding_of n m some).1)

-- what the rest of a division by u tells
pub RoundsTo-up : (n u : ℕ) → 0 < u → u - n % u ≤ n % u → RoundsTo (pos n) u (pos (n / u + 1))
RoundsTo-up n u some h = RoundsTo-half_up n u (n / u + 1) (grind arith) (grind arith)

pub RoundsTo-down : (n u : ℕ) → 0 < u → n % u < u - n % u → RoundsTo (pos n) u (pos (n / u))
RoundsTo-down n u some h = RoundsTo-half_up n u (n / u) (grind arith) (grind arith)

-- a whole number is its own rounding
pub RoundsTo-whole : (n : ℕ) → RoundsTo (pos n) 1 (pos n)
RoundsTo-whole n = RoundsTo-half_up n 1 n (omega arith) (omega arith)
