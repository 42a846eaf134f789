-- Instances whose numbers rise.
use Rattle.std.proofs.Common.{◌≡◌, ℕ, ◌+◌, ◌<◌, ◌≤◌, Bool, true, false, ◌||◌, eqb, inl, inr, List, [], ◌∷◌, ◌++◌, refl, arith}
use Rattle.std.proofs.lemmas.Bool.{ne_eqb}
use Rattle.sn_p21.specs.declared.file.Instance.{Instance}
use Rattle.sn_p21.specs.Numbers.{HasNumber, has_number, NumbersDiffer}

-- each number is above those before it; all are from `low` on and below `high`
abbrev pub Climbs : ℕ → ℕ → List Instance → Type 0
Climbs low high [] = low ≤ high
Climbs low high (i ∷ is) = (low ≤ i.number) × Climbs (i.number + 1) high is

higher : (low mid high : ℕ) (is : List Instance) → low ≤ mid → Climbs mid high is → Climbs low high is
higher low mid high [] le h = omega arith
higher low mid high (i ∷ is) le h = (let k = h.0 in omega arith, h.1)

pub climbs_join : (low mid high : ℕ) (xs ys : List Instance) → Climbs low mid xs → Climbs mid high ys → Climbs low high (xs ++ ys)
climbs_join low mid high [] ys h k = higher low mid high ys h k
climbs_join low mid high (x ∷ xs) ys h k = (h.0, climbs_join (x.number + 1) mid high xs ys h.1 k)

absent : (n low high : ℕ) (is : List Instance) → n < low → Climbs low high is → HasNumber n is → ⊥
absent n low high [] below h there = there
absent n low high (i ∷ is) below h (inl e) = absurd (let k = h.0 in omega arith)
absent n low high (i ∷ is) below h (inr there) = absent n (i.number + 1) high is (let k = h.0 in omega arith) h.1 there

pub numbers_differ : (low high : ℕ) (is : List Instance) → Climbs low high is → NumbersDiffer is
numbers_differ low high [] h = tt
numbers_differ low high (i ∷ is) h = (absent i.number (i.number + 1) high is (omega arith) h.1, numbers_differ (i.number + 1) high is h.1)

-- An instance of a number that differs from all before it.

in_middle : (n : ℕ) (xs rest : List Instance) (i : Instance) → i.number ≡ n → HasNumber n (xs ++ i ∷ rest)
in_middle n [] rest i e = inl e
in_middle n (x ∷ xs) rest i e = inr (in_middle n xs rest i e)

both_false : (a b : Bool) → a ≡ false → b ≡ false → (a || b) ≡ false
both_false true b e f = absurd (let z : true ≡ false = e in cc)
both_false false b e f = f

pub is_new : (xs rest : List Instance) (i : Instance) → NumbersDiffer (xs ++ i ∷ rest) → has_number i.number xs ≡ false
is_new [] rest i h = refl
is_new (x ∷ xs) rest i h =
    both_false (eqb i.number x.number) (has_number i.number xs)
    (ne_eqb i.number x.number (λ e. h.0 (in_middle x.number xs rest i e)))
    (is_new xs rest i h.1)
