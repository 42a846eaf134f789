-- The values of strings.
use Rattle.std.proofs.Common.{◌≡◌, ℕ, zero, suc, ◌+◌, ◌<◌, Bool, true, false, cond, eqb, List, [], ◌∷◌, length, get_or, drop, refl, ap, ◌∙◌, arith}
use Rattle.sn_p21.specs.Reader.{halved, width}

first_step : (b e : Bool) (c d : ℕ) (cs : List ℕ) → cond b (cond e (c ∷ halved cs) (c ∷ halved (d ∷ cs))) (c ∷ halved (d ∷ cs)) ≡ c ∷ halved (drop (cond b (cond e 2 1) 1) (c ∷ d ∷ cs))
first_step true true c d cs = refl
first_step true false c d cs = refl
first_step false e c d cs = refl

pub halved_at : (bs : List ℕ) (at : ℕ) → at < length bs → halved (drop at bs) ≡ get_or bs at 0 ∷ halved (drop (at + width (drop at bs)) bs)
halved_at [] at h = absurd (omega arith)
halved_at (c ∷ []) zero h = refl
halved_at (c ∷ d ∷ cs) zero h =
    first_step (eqb c 39) (eqb d 39) c d cs ∙ ap (λ n. c ∷ halved (drop n (c ∷ d ∷ cs))) (let e : width (c ∷ d ∷ cs) ≡ 0 + width (c ∷ d ∷ cs) = omega arith in e)
halved_at (c ∷ bs) (suc at) h =
    let lt : at < length bs = omega arith in
    let e : suc (at + width (drop at bs)) ≡ suc at + width (drop at bs) = omega arith in
    halved_at bs at lt ∙ ap (λ n. get_or bs at 0 ∷ halved (drop n (c ∷ bs))) e

pub width_alone : (bs : List ℕ) (at : ℕ) → at < length bs → length bs < at + 2 → width (drop at bs) ≡ 1
width_alone [] at h k = absurd (omega arith)
width_alone (c ∷ []) zero h k = refl
width_alone (c ∷ d ∷ cs) zero h k = absurd (omega arith)
width_alone (c ∷ bs) (suc at) h k = width_alone bs at (omega arith) (omega arith)

pub width_of : (bs : List ℕ) (at : ℕ) → at + 1 < length bs → width (drop at bs) ≡ cond (eqb (get_or bs at 0) 39) (cond (eqb (get_or bs (at + 1) 0) 39) 2 1) 1
width_of [] at h = absurd (omega arith)
width_of (c ∷ []) zero h = absurd (omega arith)
width_of (c ∷ d ∷ cs) zero h = refl
width_of (c ∷ bs) (suc at) h =
    let e : suc (at + 1) ≡ suc at + 1 = omega arith in
    width_of bs at (omega arith) ∙ ap (λ n. cond (eqb (get_or bs at 0) 39) (cond (eqb (get_or (c ∷ bs) n 0) 39) 2 1) 1) e
