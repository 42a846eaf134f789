-- Products of whole numbers, and the set that writes a product of sums as a sum of products.
use Rattle.std.proofs.Common.{◌≡◌, ℤ, pos, ◌+ℤ◌, ◌*ℤ◌, neg_ℤ, refl, sym, ◌∙◌, arith}
use Rattle.std.proofs.Math.IntN.{ℤ_ind, +ℤ_idl, +ℤ_one, -ℤ_one, +ℤ_invl, suc_ℤ-+ℤ, pred_ℤ-+ℤ, zero-*ℤ, *ℤ-zero, *ℤ-one, *ℤ_comm, suc_ℤ-*ℤ, pred_ℤ-*ℤ, neg_ℤ-+ℤ}
use Rattle.std.proofs.lemmas.Int.{ints}

sum_one_more : (m b c : ℤ) → (m +ℤ b) *ℤ c ≡ m *ℤ c +ℤ b *ℤ c → ((m +ℤ pos 1) +ℤ b) *ℤ c ≡ (m +ℤ pos 1) *ℤ c +ℤ b *ℤ c
sum_one_more m b c h = rw (+ℤ_one m, suc_ℤ-+ℤ m b, suc_ℤ-*ℤ (m +ℤ b) c, suc_ℤ-*ℤ m c, h) (omega (arith, ints))

sum_one_less : (m b c : ℤ) → (m +ℤ b) *ℤ c ≡ m *ℤ c +ℤ b *ℤ c → ((m +ℤ neg_ℤ (pos 1)) +ℤ b) *ℤ c ≡ (m +ℤ neg_ℤ (pos 1)) *ℤ c +ℤ b *ℤ c
sum_one_less m b c h = rw (-ℤ_one m, pred_ℤ-+ℤ m b, pred_ℤ-*ℤ (m +ℤ b) c, pred_ℤ-*ℤ m c, h) (omega (arith, ints))

pub sum-*ℤ : (a b c : ℤ) → (a +ℤ b) *ℤ c ≡ a *ℤ c +ℤ b *ℤ c
sum-*ℤ a b c =
    ℤ_ind (λ m. (m +ℤ b) *ℤ c ≡ m *ℤ c +ℤ b *ℤ c) (rw (+ℤ_idl b, zero-*ℤ c) (sym (+ℤ_idl (b *ℤ c))))
    (λ n. sum_one_more (pos n) b c) (λ n. sum_one_less (neg_ℤ (pos n)) b c) a

pub *ℤ-sum : (a b c : ℤ) → a *ℤ (b +ℤ c) ≡ a *ℤ b +ℤ a *ℤ c
*ℤ-sum a b c = rw (*ℤ_comm a (b +ℤ c), *ℤ_comm a b, *ℤ_comm a c) (sum-*ℤ b c a)

pub one-*ℤ : (k : ℤ) → pos 1 *ℤ k ≡ k
one-*ℤ k = suc_ℤ-*ℤ (pos 0) k ∙ rw (zero-*ℤ k, +ℤ_idl k) refl

pub neg_ℤ-*ℤ : (a b : ℤ) → neg_ℤ a *ℤ b ≡ neg_ℤ (a *ℤ b)
neg_ℤ-*ℤ a b =
    let h : neg_ℤ a *ℤ b +ℤ a *ℤ b ≡ pos 0 = sym (sum-*ℤ (neg_ℤ a) a b) ∙ rw (+ℤ_invl a) (zero-*ℤ b) in
    omega (arith, ints)

pub *ℤ-neg_ℤ : (a b : ℤ) → a *ℤ neg_ℤ b ≡ neg_ℤ (a *ℤ b)
*ℤ-neg_ℤ a b = rw (*ℤ_comm a (neg_ℤ b), *ℤ_comm a b) (neg_ℤ-*ℤ b a)

product_one_more : (m b c : ℤ) → (m *ℤ b) *ℤ c ≡ m *ℤ (b *ℤ c) → ((m +ℤ pos 1) *ℤ b) *ℤ c ≡ (m +ℤ pos 1) *ℤ (b *ℤ c)
product_one_more m b c h = rw (sum-*ℤ m (pos 1) b, sum-*ℤ (m *ℤ b) (pos 1 *ℤ b) c, sum-*ℤ m (pos 1) (b *ℤ c), h, one-*ℤ b, one-*ℤ (b *ℤ c)) refl

product_one_less : (m b c : ℤ) → (m *ℤ b) *ℤ c ≡ m *ℤ (b *ℤ c) → ((m +ℤ neg_ℤ (pos 1)) *ℤ b) *ℤ c ≡ (m +ℤ neg_ℤ (pos 1)) *ℤ (b *ℤ c)
product_one_less m b c h =
    rw (sum-*ℤ m (neg_ℤ (pos 1)) b, sum-*ℤ (m *ℤ b) (neg_ℤ (pos 1) *ℤ b) c, sum-*ℤ m (neg_ℤ (pos 1)) (b *ℤ c), h)
    (rw (neg_ℤ-*ℤ (pos 1) b, neg_ℤ-*ℤ (pos 1) (b *ℤ c), neg_ℤ-*ℤ (pos 1 *ℤ b) c, one-*ℤ b, one-*ℤ (b *ℤ c)) refl)

pub *ℤ_assoc : (a b c : ℤ) → (a *ℤ b) *ℤ c ≡ a *ℤ (b *ℤ c)
*ℤ_assoc a b c =
    ℤ_ind (λ m. (m *ℤ b) *ℤ c ≡ m *ℤ (b *ℤ c)) (rw (zero-*ℤ b, zero-*ℤ c, zero-*ℤ (b *ℤ c)) refl)
    (λ n. product_one_more (pos n) b c) (λ n. product_one_less (neg_ℤ (pos n)) b c) a

pub *ℤ_left_comm : (a b c : ℤ) → a *ℤ (b *ℤ c) ≡ b *ℤ (a *ℤ c)
*ℤ_left_comm a b c = rw (← *ℤ_assoc a b c, *ℤ_comm a b, *ℤ_assoc b a c) refl

-- a product with a 0
pub ruleset zero_times = (zero-*ℤ, *ℤ-zero)

-- a product of sums as a sum of products
pub ruleset expand = (zero_times, one-*ℤ, *ℤ-one, sum-*ℤ, *ℤ-sum, neg_ℤ-*ℤ, *ℤ-neg_ℤ, neg_ℤ-+ℤ, *ℤ_assoc, *ℤ_left_comm, *ℤ_comm)
