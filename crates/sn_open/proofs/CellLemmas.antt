-- Cells go one before the other, and of the cells that something holds of one is the first.
use Rattle.std.proofs.Common.{◌≡◌, inl, inr, ℤ, ◌<ℤ◌, sym, arith}
use Rattle.std.proofs.lemmas.Int.{by_lt_z, ints}
use Rattle.sn_geom.specs.declared.units.Cell.{Cell}
use Rattle.sn_raster.specs.Heights.{IsFirst, IsBefore}

one_int : (a b : ℤ) → ¬ (a <ℤ b) → ¬ (b <ℤ a) → a ≡ b
one_int a b p q = by_lt_z a b (λ below. absurd (p below)) (λ not_below. by_lt_z b a (λ above. absurd (q above)) (λ not_above. omega (arith, ints)))

one_cell : (c c' : Cell) → ¬ IsBefore c c' → ¬ IsBefore c' c → c ≡ c'
one_cell c c' p q =
    let j = one_int c.j c'.j (λ b. p (inl b)) (λ b. q (inl b)) in
    let i = one_int c.i c'.i (λ b. p (inr (j, inl b))) (λ b. q (inr (sym j, inl b))) in
    let z = one_int c.z c'.z (λ b. p (inr (j, inr (i, b)))) (λ b. q (inr (sym j, inr (sym i, b)))) in
    λ k. record { i = i k; j = j k; z = z k }

pub one_first_cell : (P : Cell → Type 0) (c c' : Cell) → IsFirst P c → IsFirst P c' → c ≡ c'
one_first_cell P c c' f g = one_cell c c' (g.first c f.holds) (f.first c' g.holds)
