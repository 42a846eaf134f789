-- The strokes of a step that follows a trail: along them the whole tool is over allowed nodes, since the trail is as wide as the
-- tool with its side allowances, and each node that the step opens is along one of them.
use Rattle.std.proofs.Common.{ℕ, ◌≡◌, ◌+◌, ◌*◌, ◌≤◌, inl, inr, List, [], ◌∷◌, ◌++◌, ℤ, pos, negsuc, ◌+ℤ◌, ◌-ℤ◌, ◌*ℤ◌, ◌≤ℤ◌, refl, sym, ap, subst, ◌∙◌, arith}
use Rattle.std.proofs.lemmas.Int.{by_lt_z, unsigned_abs-mul}
use Rattle.sn_geom.proofs.Ring.{sums, expand, pos-le, le-pos, square_not_negative, product_not_negative, product_positive, product_le}
use Rattle.sn_geom.specs.declared.units.Pt.{Pt}
use Rattle.sn_geom.specs.Sweep.{Disc, square, offset_at, Near}
use Rattle.sn_outline.specs.Job.{Job}
use Rattle.sn_outline.specs.Outline.{InShape, NearTrail}
use Rattle.sn_outline.specs.declared.job.StepJob.{StepJob}
use Rattle.sn_outline.specs.declared.outline.Shape.{Shape}
use Rattle.sn_outline.specs.declared.outline.Shape.TheVariants.{Trail}
use Rattle.sn_raster.specs.Grid.{Node, place}
use Rattle.sn_fit.specs.Fit.{strokes_along}
use Rattle.sn_link.specs.Layers.{IsFreeWay}
use Rattle.sn_link.proofs.LayerLemmas.{AreFree, NearAny}

-- Lengths of offsets in the plane.

-- the product of two offsets is at most that of their lengths
product_of_offsets : (ux uy vx vy : ℤ)
    → ((ux *ℤ vx +ℤ uy *ℤ vy) *ℤ (ux *ℤ vx +ℤ uy *ℤ vy)) ≤ℤ ((ux *ℤ ux +ℤ uy *ℤ uy) *ℤ (vx *ℤ vx +ℤ vy *ℤ vy))
product_of_offsets ux uy vx vy =
    let across = simp expand at (square_not_negative (ux *ℤ vy -ℤ uy *ℤ vx)) in
    simp expand (omega (arith, sums))

lower_root : (x y : ℤ) → pos 0 ≤ℤ y → (x *ℤ x) ≤ℤ (y *ℤ y) → x ≤ℤ y
lower_root x y some h =
    by_lt_z y x
    (λ more. let apart = simp expand at (product_positive (x -ℤ y) (x +ℤ y) (omega (arith, sums)) (omega (arith, sums))) in absurd (omega (arith, sums)))
    (λ not_more. not_more)

products_le : (a b c d : ℤ) → pos 0 ≤ℤ a → pos 0 ≤ℤ d → a ≤ℤ b → c ≤ℤ d → (a *ℤ c) ≤ℤ (b *ℤ d)
products_le a b c d some some' h k =
    let first = product_le a c d some k in
    let second = simp expand at (product_le d a b some' h) in
    omega (arith, sums)

-- four times the product of offsets that are at most half of r and of s long
product_within : (r s u v t : ℤ) → pos 0 ≤ℤ (r *ℤ s) → pos 0 ≤ℤ u → pos 0 ≤ℤ (s *ℤ s) → (t *ℤ t) ≤ℤ (u *ℤ v) → (pos 4 *ℤ u) ≤ℤ (r *ℤ r) → (pos 4 *ℤ v) ≤ℤ (s *ℤ s)
    → (pos 4 *ℤ t) ≤ℤ (r *ℤ s)
product_within r s u v t some some' some'' h k l =
    lower_root (pos 4 *ℤ t) (r *ℤ s) some
    (let scaled = simp expand at (product_le (pos 16) (t *ℤ t) (u *ℤ v) (omega (arith, sums)) h) in
    let both = simp expand at (products_le (pos 4 *ℤ u) (r *ℤ r) (pos 4 *ℤ v) (s *ℤ s) (product_not_negative (pos 4) u (omega (arith, sums)) some') some'' k l) in
    simp expand (omega (arith, sums)))

-- the sum of offsets that are at most half of r and of s long is at most half of r and s long
sum_within : (r s ux uy vx vy : ℤ) → pos 0 ≤ℤ (r *ℤ s) → (pos 4 *ℤ (ux *ℤ ux +ℤ uy *ℤ uy)) ≤ℤ (r *ℤ r) → (pos 4 *ℤ (vx *ℤ vx +ℤ vy *ℤ vy)) ≤ℤ (s *ℤ s)
    → (pos 4 *ℤ ((ux +ℤ vx) *ℤ (ux +ℤ vx) +ℤ (uy +ℤ vy) *ℤ (uy +ℤ vy))) ≤ℤ ((r +ℤ s) *ℤ (r +ℤ s))
sum_within r s ux uy vx vy some h k =
    let x = square_not_negative ux in
    let y = square_not_negative uy in
    let t = product_within r s (ux *ℤ ux +ℤ uy *ℤ uy) (vx *ℤ vx +ℤ vy *ℤ vy) (ux *ℤ vx +ℤ uy *ℤ vy) some (omega (arith, sums))
    (square_not_negative s) (product_of_offsets ux uy vx vy) h k in
    let t' = simp expand at t in
    let h' = simp expand at h in
    let k' = simp expand at k in
    simp expand (omega (arith, sums))

-- Squares, as natural numbers and as integers.

square_is : (z : ℤ) → pos (square z) ≡ z *ℤ z
square_is (pos n) = refl
square_is (negsuc n) = refl

squares_are : (x y : ℤ) → pos (4 * (square x + square y)) ≡ pos 4 *ℤ (x *ℤ x +ℤ y *ℤ y)
squares_are x y = ap (λ z. pos 4 *ℤ (z +ℤ pos (square y))) (square_is x) ∙ ap (λ z. pos 4 *ℤ (x *ℤ x +ℤ z)) (square_is y)

to_ℤ : (a b : ℕ) (x y : ℤ) → pos a ≡ x → pos b ≡ y → a ≤ b → x ≤ℤ y
to_ℤ a b x y e f h = omega (arith, sums)

to_ℕ : (a b : ℕ) (x y : ℤ) → pos a ≡ x → pos b ≡ y → x ≤ℤ y → a ≤ b
to_ℕ a b x y e f h = omega (arith, sums)

-- what is at most half of s from a place that is within half of d of a segment is within half of both of it
moved : (n m : ℕ) (a b p q : ℤ) → offset_at n m a b q ≡ offset_at n m a b p +ℤ pos m *ℤ (q -ℤ p)
moved n m a b p q = simp expand (omega (arith, sums))

scaled : (m s : ℕ) (x y : ℤ) → 4 * (square x + square y) ≤ s * s → 4 * (square (pos m *ℤ x) + square (pos m *ℤ y)) ≤ s * m * (s * m)
scaled m s x y h =
    let across = ap (λ (k : ℕ). k * k) (unsigned_abs-mul (pos m) x) in
    let up = ap (λ (k : ℕ). k * k) (unsigned_abs-mul (pos m) y) in
    let more : m * m * (4 * (square x + square y)) ≤ m * m * (s * s) =
    le-pos _ _ (product_le (pos (m * m)) (pos (4 * (square x + square y))) (pos (s * s)) (pos-le 0 (m * m) (omega arith)) (pos-le (4 * (square x + square y)) (s * s) h)) in
    omega (arith, across, up, more)

sum_within_ℕ : (r s : ℕ) (ux uy vx vy : ℤ) → 4 * (square ux + square uy) ≤ r * r → 4 * (square vx + square vy) ≤ s * s
    → 4 * (square (ux +ℤ vx) + square (uy +ℤ vy)) ≤ (r + s) * (r + s)
sum_within_ℕ r s ux uy vx vy h k =
    to_ℕ _ _ _ _ (squares_are (ux +ℤ vx) (uy +ℤ vy)) refl
    (sum_within (pos r) (pos s) ux uy vx vy (pos-le 0 (r * s) (omega arith)) (to_ℤ _ _ _ _ (squares_are ux uy) refl h) (to_ℤ _ _ _ _ (squares_are vx vy) refl k))

pub near_of_disc : (d s : ℕ) (a b p q : Pt) → Near d a b p → Disc s p q → Near (d + s) a b q
near_of_disc d s a b p q (n, m, h) disc =
    let x = moved n m a.x b.x p.x q.x in
    let y = moved n m a.y b.y p.y q.y in
    let first : 4 * (square (offset_at n m a.x b.x p.x) + square (offset_at n m a.y b.y p.y)) ≤ d * m * (d * m) = omega (arith, h.close) in
    let sum = sum_within_ℕ (d * m) (s * m) (offset_at n m a.x b.x p.x) (offset_at n m a.y b.y p.y) (pos m *ℤ (q.x -ℤ p.x)) (pos m *ℤ (q.y -ℤ p.y))
    first (scaled m s (q.x -ℤ p.x) (q.y -ℤ p.y) disc.close) in
    (n, m, record { fraction = h.fraction; close = rw (x, y) (omega (arith, sum)) })

-- Segments.

-- what is so of each segment of a trail is so of each stroke along it
segments_free : (job : Job) (step : StepJob) (points : List Pt)
    → ((before : List Pt) (a b : Pt) (after : List Pt) → points ≡ before ++ a ∷ b ∷ after → IsFreeWay job step a b) → AreFree job step (strokes_along points)
segments_free job step [] each = tt
segments_free job step (a ∷ []) each = tt
segments_free job step (a ∷ b ∷ points) each =
    (each [] a b points refl, segments_free job step (b ∷ points) (λ before c d after is. each (a ∷ before) c d after (ap (λ (ps : List Pt). a ∷ ps) is)))

-- along a segment the disc of the side allowance about each node is in the trail
pub trail_is_free : (job : Job) (step : StepJob) (points : List Pt) (width : ℕ) → step.outline.shape ≡ Trail points width
    → width ≡ step.body.d + 2 * step.side → AreFree job step (strokes_along points)
trail_is_free job step points width has wide =
    segments_free job step points
    (λ before a b after is n near m disc raw.
    subst (λ (s : Shape). InShape s (place job.pitch m)) (sym has)
    (before, a, b, after, is, subst (λ (w : ℕ). Near w a b (place job.pitch m)) (sym wide) (near_of_disc step.body.d (2 * step.side) a b (place job.pitch n) (place job.pitch m) near disc)))

-- what is near a segment is along a stroke
near_segment : (job : Job) (step : StepJob) (before : List Pt) (a b : Pt) (after : List Pt) (n : Node) → Near step.body.d a b (place job.pitch n)
    → NearAny job step (strokes_along (before ++ a ∷ b ∷ after)) n
near_segment job step [] a b [] n near = near
near_segment job step [] a b (c ∷ after) n near = inl near
near_segment job step (e ∷ []) a b after n near = inr (inr (near_segment job step [] a b after n near))
near_segment job step (e ∷ f ∷ before) a b after n near = next (before ++ a ∷ b ∷ after) (near_segment job step (f ∷ before) a b after n near)
  where
    next : (points : List Pt) → NearAny job step (strokes_along (f ∷ points)) n → NearAny job step (strokes_along (e ∷ f ∷ points)) n
    next [] none = absurd none
    next (p ∷ points) later = inr (inr later)

pub trail_is_followed : (job : Job) (step : StepJob) (points : List Pt) (n : Node) → NearTrail points step.body.d (place job.pitch n)
    → NearAny job step (strokes_along points) n
trail_is_followed job step points n (before, a, b, after, is, near) =
    subst (λ (ps : List Pt). NearAny job step (strokes_along ps) n) (sym is) (near_segment job step before a b after n near)
