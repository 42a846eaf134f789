-- The laws of sums and products of whole numbers, for `simp` and `omega`.
-- `simp expand (omega (arith, sums))` proves an equation or an order between polynomials of ℤ: `simp expand` multiplies products out and sorts their factors, and `omega (arith, sums)` takes what is left, with products as unknowns.
-- A fact that the proof rests on is multiplied out likewise, as `let h = simp expand at fact in`.
use Rattle.std.proofs.Common.{◌≡◌, ℕ, ◌*◌, ◌≤◌, ℤ, pos, negsuc, ◌+ℤ◌, ◌-ℤ◌, ◌*ℤ◌, neg_ℤ, ◌≤ℤ◌, ◌<ℤ◌, sym, ap, ◌∙◌, arith}
use Rattle.std.proofs.Math.IntN.{*ℤ_comm, *ℤ-zero, zero-*ℤ}
use Rattle.std.proofs.lemmas.Int.{by_lt_z}
use borrow.Author.Differences.{up, down, same_out, same_in, le_out, lt_out, at_most_in, below_in, sum_is_lem, neg_is, product_is}

-- sums, differences and orders, for `omega`; products are unknowns
pub ruleset sums = (same_out, same_in, le_out, lt_out, at_most_in, below_in, sum_is_lem, neg_is)

pub neg_ℤ-*ℤ : (a b : ℤ) → neg_ℤ a *ℤ b ≡ neg_ℤ (a *ℤ b)
neg_ℤ-*ℤ a b =
    let u = ap (λ (n : ℕ). n * up b) (neg_is a).0 in
    let v = ap (λ (n : ℕ). n * down b) (neg_is a).1 in
    let w = ap (λ (n : ℕ). n * down b) (neg_is a).0 in
    let x = ap (λ (n : ℕ). n * up b) (neg_is a).1 in
    omega (arith, sums, product_is)

pub *ℤ-neg_ℤ : (a b : ℤ) → a *ℤ neg_ℤ b ≡ neg_ℤ (a *ℤ b)
*ℤ-neg_ℤ a b = *ℤ_comm a (neg_ℤ b) ∙ neg_ℤ-*ℤ b a ∙ ap neg_ℤ (*ℤ_comm b a)

pub +ℤ-*ℤ : (a b c : ℤ) → (a +ℤ b) *ℤ c ≡ a *ℤ c +ℤ b *ℤ c
+ℤ-*ℤ a b c =
    let u = ap (λ (n : ℕ). n * up c) (sum_is_lem a b) in
    let v = ap (λ (n : ℕ). n * down c) (sum_is_lem a b) in
    omega (arith, sums, product_is)

pub *ℤ-+ℤ : (a b c : ℤ) → a *ℤ (b +ℤ c) ≡ a *ℤ b +ℤ a *ℤ c
*ℤ-+ℤ a b c = *ℤ_comm a (b +ℤ c) ∙ +ℤ-*ℤ b c a ∙ ap (λ z. z +ℤ c *ℤ a) (*ℤ_comm b a) ∙ ap (λ z. a *ℤ b +ℤ z) (*ℤ_comm c a)

pub *ℤ_assoc : (a b c : ℤ) → (a *ℤ b) *ℤ c ≡ a *ℤ (b *ℤ c)
*ℤ_assoc a b c =
    let u = ap (λ (n : ℕ). n * up c) (product_is a b).0 in
    let v = ap (λ (n : ℕ). n * down c) (product_is a b).1 in
    let w = ap (λ (n : ℕ). n * down c) (product_is a b).0 in
    let x = ap (λ (n : ℕ). n * up c) (product_is a b).1 in
    let p = ap (λ (n : ℕ). up a * n) (product_is b c).0 in
    let q = ap (λ (n : ℕ). down a * n) (product_is b c).1 in
    let r = ap (λ (n : ℕ). up a * n) (product_is b c).1 in
    let s = ap (λ (n : ℕ). down a * n) (product_is b c).0 in
    omega (arith, sums, product_is)

pub *ℤ_left_comm : (a b c : ℤ) → a *ℤ (b *ℤ c) ≡ b *ℤ (a *ℤ c)
*ℤ_left_comm a b c = sym (*ℤ_assoc a b c) ∙ ap (λ z. z *ℤ c) (*ℤ_comm a b) ∙ *ℤ_assoc b a c

pub *ℤ-unit : (a : ℤ) → a *ℤ pos 1 ≡ a
*ℤ-unit a = omega (arith, sums, product_is)

pub unit-*ℤ : (a : ℤ) → pos 1 *ℤ a ≡ a
unit-*ℤ a = omega (arith, sums, product_is)

-- products multiplied out, signs in front, factors sorted, for `simp`
pub ruleset expand = (zero-*ℤ, *ℤ-zero, unit-*ℤ, *ℤ-unit, +ℤ-*ℤ, *ℤ-+ℤ, neg_ℤ-*ℤ, *ℤ-neg_ℤ, *ℤ_assoc, *ℤ_comm, *ℤ_left_comm)

-- ---- the order
pub pos-le : (m n : ℕ) → m ≤ n → pos m ≤ℤ pos n
pos-le m n h = omega (arith, sums)

pub le-pos : (m n : ℕ) → pos m ≤ℤ pos n → m ≤ n
le-pos m n h = omega (arith, sums)

pub square_not_negative : (a : ℤ) → pos 0 ≤ℤ (a *ℤ a)
square_not_negative (pos n) = omega (arith, sums)
square_not_negative (negsuc n) = omega (arith, sums)

pub product_not_negative : (a b : ℤ) → pos 0 ≤ℤ a → pos 0 ≤ℤ b → pos 0 ≤ℤ (a *ℤ b)
product_not_negative (pos m) (pos n) h k = omega (arith, sums)
product_not_negative (pos m) (negsuc n) h k = absurd (omega (arith, sums))
product_not_negative (negsuc m) b h k = absurd (omega (arith, sums))

pub product_positive : (a b : ℤ) → pos 0 <ℤ a → pos 0 <ℤ b → pos 0 <ℤ (a *ℤ b)
product_positive a b h k =
    let more = simp expand at (product_not_negative (a -ℤ pos 1) (b -ℤ pos 1) (omega (arith, sums)) (omega (arith, sums))) in
    omega (arith, sums)

pub product_le : (k a b : ℤ) → pos 0 ≤ℤ k → a ≤ℤ b → (k *ℤ a) ≤ℤ (k *ℤ b)
product_le k a b p h = let more = simp expand at (product_not_negative k (b -ℤ a) p (omega (arith, sums))) in omega (arith, sums)

-- a positive factor cancels
pub le_of_product_le : (k a b : ℤ) → pos 0 <ℤ k → (k *ℤ a) ≤ℤ (k *ℤ b) → a ≤ℤ b
le_of_product_le k a b p h =
    by_lt_z b a
    (λ lt. let more = simp expand at (product_positive k (a -ℤ b) p (omega (arith, sums))) in absurd (omega (arith, sums)))
    (λ le. le)
