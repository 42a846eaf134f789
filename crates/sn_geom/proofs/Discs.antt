-- Discs and their half widths.
use Rattle.std.proofs.Common.{◌≡◌, ◌↔◌, ◌∙◌, ap, ℕ, ◌+◌, ◌-◌, ◌*◌, ◌/◌, ◌<◌, ◌≤◌, ℤ, pos, ◌-ℤ◌, ⊎_elim, unsigned_abs, arith}
use Rattle.std.proofs.lemmas.Bool.{cases_lt}
use Rattle.std.proofs.lemmas.Int.{ints}
use Rattle.std.proofs.lemmas.Nat.{mul-le}
use Rattle.sn_geom.specs.declared.units.Pt.{Pt}
use Rattle.sn_geom.specs.Sweep.{Disc, IsHalfWidth, square}
use Rattle.sn_geom.proofs.Ring.{sums}

-- whole roots keep the order
root-le : (v w : ℕ) → v * v < (w + 1) * (w + 1) → v ≤ w
root-le v w h =
    ⊎_elim (λ above. absurd (omega (arith, mul-le (w + 1) (w + 1) v v (omega arith) (omega arith)))) (λ below. below) (cases_lt w v)

-- the whole root of a quarter of what the row's distance leaves of the squared diameter
pub is_half_width : (d dy rest w : ℕ) → 2 * dy ≤ d → rest ≡ d * d - 2 * dy * (2 * dy) → w * w ≤ rest / 4 → rest / 4 < (w + 1) * (w + 1) → IsHalfWidth d dy w
is_half_width d dy rest w in_disc e low high =
    let h = mul-le (2 * dy) (2 * dy) d d in_disc in_disc in
    record { inside = omega arith; greatest = λ v g. root-le v w (omega arith) }

-- a disc holds in a row the points within its half width there
pub disc_by_half_width : (d w : ℕ) (p q : Pt) → IsHalfWidth d (unsigned_abs (q.y -ℤ p.y)) w → Disc d p q ↔ (unsigned_abs (q.x -ℤ p.x) ≤ w)
disc_by_half_width d w p q h = (
  λ disc. h.greatest (unsigned_abs (q.x -ℤ p.x)) disc.close,
  λ within. record { close = omega (arith, h.inside, mul-le (unsigned_abs (q.x -ℤ p.x)) (unsigned_abs (q.x -ℤ p.x)) w w within within) },
)

-- and nothing in a row beyond its height
pub disc_beyond : (d : ℕ) (p q : Pt) → d < 2 * unsigned_abs (q.y -ℤ p.y) → ¬ Disc d p q
disc_beyond d p q far disc =
    let dy = unsigned_abs (q.y -ℤ p.y) in
    omega (arith, disc.close, mul-le (d + 1) (d + 1) (2 * dy) (2 * dy) (omega arith) (omega arith))

-- A disc has its centre, and a disc of no diameter has nothing else.

no_root : (n : ℕ) → n * n ≤ 0 → n ≡ 0
no_root n h = ⊎_elim (λ some. absurd (let k : 1 * 1 ≤ n * n = mul-le 1 1 n n some some in omega arith)) (λ none. omega arith) (cases_lt 0 n)

same_coordinate : (a b : ℤ) → square (b -ℤ a) ≤ 0 → b ≡ a
same_coordinate a b h = let none = no_root (unsigned_abs (b -ℤ a)) h in omega (arith, ints)

point : ℤ → ℤ → Pt
point x y = record { x = x; y = y }

same_point : (p q : Pt) → p.x ≡ q.x → p.y ≡ q.y → p ≡ q
unfolding point
same_point p q x y = ap (λ v. point v p.y) x ∙ ap (λ v. point q.x v) y

pub disc_of_nothing : (p q : Pt) → Disc 0 p q → q ≡ p
disc_of_nothing p q disc =
    let close = disc.close in
    same_point q p (same_coordinate p.x q.x (omega arith)) (same_coordinate p.y q.y (omega arith))

nothing_between : (a : ℤ) → a -ℤ a ≡ pos 0
nothing_between a = omega (arith, sums)

pub disc_has_centre : (d : ℕ) (p : Pt) → Disc d p p
disc_has_centre d p = record { close = rw (nothing_between p.x, nothing_between p.y) (omega arith) }
