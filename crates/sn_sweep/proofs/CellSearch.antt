-- Cells that have no first one are none, where they are bounded below.
use Rattle.std.proofs.Common.{ℕ, zero, suc, ◌≡◌, ◌⊎◌, ⊎_elim, ℤ, pos, ◌+ℤ◌, ◌-ℤ◌, ◌≤ℤ◌, ◌<ℤ◌, unsigned_abs, ◌∙◌, arith}
use Rattle.std.proofs.lemmas.Int.{ints, by_lt_z}
use Rattle.sn_geom.proofs.Ring.{sums}
use Rattle.sn_geom.specs.declared.units.Cell.{Cell}
use Rattle.sn_raster.specs.Heights.{IsFirst}

-- no cell lies before this column and row, or below this height
pub record IsFrom (i j z : ℤ) (c : Cell) : Type 0 where
  pub column : i ≤ℤ c.i
  pub row : j ≤ℤ c.j
  pub height : z ≤ℤ c.z

at_last : (first a : ℤ) (k : ℕ) → a <ℤ (first +ℤ pos (suc k)) → (first +ℤ pos k) ≤ℤ a → a ≡ first +ℤ pos k
at_last first a k below above = omega (arith, ints)

before_all : (first a : ℤ) → first ≤ℤ a → ¬ (a <ℤ (first +ℤ pos zero))
before_all first a above below = omega (arith, ints)

inside : (first a : ℤ) → first ≤ℤ a → a <ℤ (first +ℤ pos (suc (unsigned_abs (a -ℤ first))))
inside first a above = omega (arith, ints)

less_than : (a b c : ℤ) → a <ℤ b → b ≡ c → a <ℤ c
less_than a b c less same = omega (arith, sums)

module _ (P : Cell → Type 0) (i0 j0 z0 : ℤ) (low : (c : Cell) → P c → IsFrom i0 j0 z0 c) (none : (c : Cell) → ¬ IsFirst P c) where
  abbrev NoRows : ℕ → Type 0
  NoRows r = (c : Cell) → P c → ¬ (c.j <ℤ (j0 +ℤ pos r))

  abbrev NoColumns : ℕ → ℕ → Type 0
  NoColumns r k = (c : Cell) → P c → c.j ≡ j0 +ℤ pos r → ¬ (c.i <ℤ (i0 +ℤ pos k))

  abbrev NoHeights : ℕ → ℕ → ℕ → Type 0
  NoHeights r k m = (c : Cell) → P c → c.j ≡ j0 +ℤ pos r → c.i ≡ i0 +ℤ pos k → ¬ (c.z <ℤ (z0 +ℤ pos m))

  -- a cell before which there is none is a first one
  none_here : (r k m : ℕ) → NoRows r → NoColumns r k → NoHeights r k m → (c : Cell) → P c → c.j ≡ j0 +ℤ pos r → c.i ≡ i0 +ℤ pos k → ¬ (c.z ≡ z0 +ℤ pos m)
  none_here r k m rows columns heights c holds row column height =
      none c
      (record {
        holds = holds;
        first = λ other p before.
            ⊎_elim {C = ⊥} (λ (less : other.j <ℤ c.j). rows other p (less_than _ _ _ less row))
            (λ (rest : (other.j ≡ c.j) × ((other.i <ℤ c.i) ⊎ ((other.i ≡ c.i) × (other.z <ℤ c.z)))).
            ⊎_elim {C = ⊥} (λ (less : other.i <ℤ c.i). columns other p (rest.0 ∙ row) (less_than _ _ _ less column))
            (λ (under : (other.i ≡ c.i) × (other.z <ℤ c.z)). heights other p (rest.0 ∙ row) (under.0 ∙ column) (less_than _ _ _ under.1 height)) rest.1) before;
      })

  no_heights : (r k : ℕ) → NoRows r → NoColumns r k → (m : ℕ) → NoHeights r k m
  no_heights r k rows columns zero c holds row column less = before_all z0 c.z ((low c holds).height) less
  no_heights r k rows columns (suc m) c holds row column less =
      by_lt_z c.z (z0 +ℤ pos m) (λ under. no_heights r k rows columns m c holds row column under)
      (λ from. none_here r k m rows columns (no_heights r k rows columns m) c holds row column (at_last z0 c.z m less from))

  no_columns : (r : ℕ) → NoRows r → (k : ℕ) → NoColumns r k
  no_columns r rows zero c holds row less = before_all i0 c.i ((low c holds).column) less
  no_columns r rows (suc k) c holds row less =
      by_lt_z c.i (i0 +ℤ pos k) (λ under. no_columns r rows k c holds row under)
      (λ from. no_heights r k rows (no_columns r rows k) (suc (unsigned_abs (c.z -ℤ z0))) c holds row (at_last i0 c.i k less from) (inside z0 c.z ((low c holds).height)))

  no_rows : (r : ℕ) → NoRows r
  no_rows zero c holds less = before_all j0 c.j ((low c holds).row) less
  no_rows (suc r) c holds less =
      by_lt_z c.j (j0 +ℤ pos r) (λ under. no_rows r c holds under)
      (λ from. no_columns r (no_rows r) (suc (unsigned_abs (c.i -ℤ i0))) c holds (at_last j0 c.j r less from) (inside i0 c.i ((low c holds).column)))

  pub no_cell : (c : Cell) → ¬ P c
  no_cell c holds = no_rows (suc (unsigned_abs (c.j -ℤ j0))) c holds (inside j0 c.j ((low c holds).row))
