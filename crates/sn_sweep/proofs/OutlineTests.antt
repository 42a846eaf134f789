-- Whether a point is in an outline is decided, and so where a step may cut is known once it is not refuted.
use Rattle.std.proofs.Common.{ℕ, ◌≡◌, ◌↔◌, ◌⊎◌, inl, inr, ⊎_elim, ◌+◌, ◌*◌, ◌%◌, ◌<◌, ◌≤◌, ℤ, pos, ◌+ℤ◌, ◌-ℤ◌, ◌*ℤ◌, ◌≤ℤ◌, unsigned_abs, List, [], ◌∷◌, refl, arith}
use Rattle.std.specs.List.{Any}
use Rattle.std.proofs.lemmas.Bool.{cases_lt}
use Rattle.std.proofs.lemmas.Int.{by_lt_z}
use Rattle.sn_geom.proofs.Ring.{sums}
use Rattle.sn_geom.proofs.Nearness.{near_behind, near_past, near_beside}
use Rattle.sn_geom.specs.declared.units.Pt.{Pt}
use Rattle.sn_geom.specs.declared.units.Seg.{Seg}
use Rattle.sn_geom.specs.Sweep.{Disc, Near, square}
use Rattle.sn_geom.specs.declared.units.Cell.{Cell}
use Rattle.sn_outline.specs.Job.{Job, tip_floor}
use Rattle.sn_outline.specs.declared.job.StepJob.{StepJob}
use Rattle.sn_outline.specs.declared.job.Bottom.{Bottom}
use Rattle.sn_outline.specs.declared.job.Bottom.TheVariants.{Flat, Conical, Through}
use Rattle.sn_outline.specs.declared.outline.Outline.{Outline}
use Rattle.sn_outline.specs.declared.outline.Shape.{Shape}
use Rattle.sn_outline.specs.declared.outline.Shape.TheVariants.{Rect, Circle, Polygon, Trail}
use Rattle.sn_outline.specs.Outline.{InRectangle, InShape, InOutline}
use Rattle.sn_outline.specs.Polygon.{edges, crossings, IsOnBorder}
use Rattle.sn_outline.proofs.Paths.{IsNear, segments, any_here, any_there, any_cases, any_none, near_segments, near_of_segments}
use Rattle.sn_raster.specs.Grid.{place}
use Rattle.sn_open.specs.Region.{IsAllowed}

by_order : (P : Type 0) (x y : ℕ) → (x ≤ y) ↔ P → P ⊎ (¬ P)
by_order P x y same = ⊎_elim (λ (more : y < x). inr (λ p. let within = same.1 p in omega arith)) (λ (within : x ≤ y). inl (same.0 within)) (cases_lt y x)

near_is_decided : (d : ℕ) (a b p : Pt) → Near d a b p ⊎ (¬ Near d a b p)
near_is_decided d a b p =
    let wx = b.x -ℤ a.x in
    let wy = b.y -ℤ a.y in
    let vx = p.x -ℤ a.x in
    let vy = p.y -ℤ a.y in
    let t = vx *ℤ wx +ℤ vy *ℤ wy in
    by_lt_z (pos 0) t
    (λ ahead.
    ⊎_elim
    (λ (before : unsigned_abs t < square wx + square wy).
    by_order (Near d a b p) _ _ (near_beside d a b p wx wy vx vy t refl refl refl refl refl ahead before))
    (λ (past : square wx + square wy ≤ unsigned_abs t).
    by_order (Near d a b p) _ _ (near_past d a b p wx wy vx vy (p.x -ℤ b.x) (p.y -ℤ b.y) t refl refl refl refl refl refl refl ahead past))
    (cases_lt (unsigned_abs t) (square wx + square wy)))
    (λ behind. by_order (Near d a b p) _ _ (near_behind d a b p wx wy vx vy refl refl refl refl behind))

any_is_decided : (P : Seg → Type 0) → ((e : Seg) → P e ⊎ (¬ P e)) → (es : List Seg) → Any P es ⊎ (¬ Any P es)
any_is_decided P decided [] = inr (any_none P)
any_is_decided P decided (e ∷ es) =
    ⊎_elim (λ (here : P e). inl (any_here P e es here))
    (λ (not_here : ¬ P e).
    ⊎_elim (λ (later : Any P es). inl (any_there P e es later))
    (λ (not_later : ¬ Any P es). inr (λ some. ⊎_elim {C = ⊥} not_here not_later (any_cases P e es some))) (any_is_decided P decided es)) (decided e)

rectangle_is_decided : (low high p : Pt) → InRectangle low high p ⊎ (¬ InRectangle low high p)
rectangle_is_decided low high p =
    by_lt_z p.x low.x (λ out. inr (λ h. let within = h.left in omega (arith, sums)))
    (λ left. by_lt_z high.x p.x (λ out. inr (λ h. let within = h.right in omega (arith, sums)))
    (λ right. by_lt_z p.y low.y (λ out. inr (λ h. let within = h.front in omega (arith, sums)))
    (λ front. by_lt_z high.y p.y (λ out. inr (λ h. let within = h.back in omega (arith, sums)))
    (λ back. inl (record { left = left; right = right; front = front; back = back })))))

circle_is_decided : (d : ℕ) (centre p : Pt) → Disc d centre p ⊎ (¬ Disc d centre p)
circle_is_decided d centre p =
    by_order (Disc d centre p) (4 * (square (p.x -ℤ centre.x) + square (p.y -ℤ centre.y))) (d * d) (λ close. record { close = close }, λ disc. disc.close)

odd_or_not : (n : ℕ) → (n ≡ 1) ⊎ (¬ (n ≡ 1))
odd_or_not n =
    ⊎_elim (λ (less : n < 1). inr (λ same. omega arith)) (λ (some : 1 ≤ n). ⊎_elim (λ (more : 1 < n). inr (λ same. omega arith)) (λ (one : n ≤ 1). inl (omega arith)) (cases_lt 1 n))
    (cases_lt n 1)

either_is_decided : (P Q : Type 0) → P ⊎ (¬ P) → Q ⊎ (¬ Q) → (P ⊎ Q) ⊎ (¬ (P ⊎ Q))
either_is_decided P Q first second =
    ⊎_elim (λ (p : P). inl (inl p))
    (λ (not_p : ¬ P). ⊎_elim (λ (q : Q). inl (inr q)) (λ (not_q : ¬ Q). inr (λ either. ⊎_elim {C = ⊥} not_p not_q either)) second) first

shape_is_decided : (shape : Shape) (p : Pt) → InShape shape p ⊎ (¬ InShape shape p)
shape_is_decided (Rect low high) p = rectangle_is_decided low high p
shape_is_decided (Circle centre d) p = circle_is_decided d centre p
shape_is_decided (Polygon points) p =
    either_is_decided (IsOnBorder p (edges points)) (crossings p (edges points) % 2 ≡ 1)
    (any_is_decided (λ e. Near 0 e.a e.b p) (λ e. near_is_decided 0 e.a e.b p) (edges points)) (odd_or_not (crossings p (edges points) % 2))
shape_is_decided (Trail points width) p =
    ⊎_elim (λ (some : Any (IsNear width p) (segments points)). inl (near_of_segments points width p some))
    (λ (none : ¬ Any (IsNear width p) (segments points)). inr (λ near. none (near_segments points width p near)))
    (any_is_decided (IsNear width p) (λ e. near_is_decided width e.a e.b p) (segments points))

outline_is_sure : (outline : Outline) (p : Pt) → ¬ (¬ InOutline outline p) → InOutline outline p
outline_is_sure outline p sure = ⊎_elim (λ (yes_in : InShape outline.shape p). yes_in) (λ (out : ¬ InShape outline.shape p). absurd (sure out)) (shape_is_decided outline.shape p)

-- the heights by the bottom of the step
abbrev HeightBy : ℤ → ℤ → Bottom → Type 0
HeightBy floor z bottom = elim bottom [
  | Flat ↦ floor ≤ℤ z
  | Conical ↦ floor ≤ℤ z
  | Through ↦ Unit {0}
]

height_is_sure : (floor z : ℤ) (bottom : Bottom) → ¬ (¬ HeightBy floor z bottom) → HeightBy floor z bottom
height_is_sure floor z Flat sure = by_lt_z z floor (λ low. absurd (sure (λ high. omega (arith, sums)))) (λ high. high)
height_is_sure floor z Conical sure = by_lt_z z floor (λ low. absurd (sure (λ high. omega (arith, sums)))) (λ high. high)
height_is_sure floor z Through sure = tt

-- a cell is allowed where it is not refuted that it is
pub allowed_is_sure : (job : Job) (step : StepJob) (c : Cell) → ¬ (¬ IsAllowed job step c) → IsAllowed job step c
allowed_is_sure job step c sure = record {
  node = λ n near raw. outline_is_sure step.outline (place job.pitch n) (λ out. sure (λ allowed. out (allowed.node n near raw)));
  height = height_is_sure (tip_floor step) c.z step.bottom (λ low. sure (λ allowed. low allowed.height));
}
