-- Laws of discs, nearness, touching and cutting (this project's own).
use Rattle.std.specs.Prelude.{◌≡◌, ◌↔◌, ℕ, ◌*◌, ◌<◌, ◌≤◌, ℤ, ◌-ℤ◌, ◌≤ℤ◌, unsigned_abs}
use Rattle.std.specs.Int.{int_min}
use Rattle.sn_geom.specs.declared.units.Pt.{Pt}
use Rattle.sn_geom.specs.declared.units.Pt3.{Pt3}
use Rattle.sn_geom.specs.Sweep.{Disc, Near, Touch, Cut, IsHorizontalOrVertical, IsHalfWidth, plan}

-- a disc holds in each row the points within its half width there, and none in the rows where it has none
abbrev pub DiscByRows : Type 0
DiscByRows =
    (d w : ℕ) (p q : Pt) →
    let dy = unsigned_abs (q.y -ℤ p.y) in
    (IsHalfWidth d dy w → (Disc d p q ↔ (unsigned_abs (q.x -ℤ p.x) ≤ w))) × (d < 2 * dy → ¬ Disc d p q)

-- a point is in each disc about it, and a disc of no diameter is its point alone
abbrev pub DiscHasItsCentre : Type 0
DiscHasItsCentre = (d : ℕ) (p q : Pt) → Disc d p p × (Disc 0 p q → q ≡ p)

-- what is near a segment of no length is in the disc about its place
abbrev pub NearOnePlace : Type 0
NearOnePlace = (d : ℕ) (a p : Pt) → Near d a a p ↔ Disc d a p

-- nearness does not depend on the direction of the segment
abbrev pub NearEitherWay : Type 0
NearEitherWay = (d : ℕ) (a b p : Pt) → Near d a b p ↔ Near d b a p

-- what is near a segment is near a longer one, on which its ends e and f lie
abbrev pub NearOfLonger : Type 0
NearOfLonger = (d : ℕ) (a b e f p : Pt) → Near 0 a b e → Near 0 a b f → Near d e f p → Near d a b p

-- what is near for a disc is near for a larger one
abbrev pub NearOfLarger : Type 0
NearOfLarger = (d d' : ℕ) (a b p : Pt) → d ≤ d' → Near d a b p → Near d' a b p

-- a horizontal or vertical move touches the cells near its plan that are not below its lower end
abbrev pub TouchByHeightAndPlan : Type 0
TouchByHeightAndPlan =
    (d : ℕ) (a b c : Pt3) → IsHorizontalOrVertical a b →
    Touch d a b c ↔ ((int_min a.z b.z ≤ℤ c.z) × Near d (plan a) (plan b) (plan c))

-- a cell above a touched one is touched
abbrev pub TouchAbove : Type 0
TouchAbove = (d : ℕ) (a b c : Pt3) (z : ℤ) → c.z ≤ℤ z → Touch d a b c → Touch d a b (record c { z = z })

-- a cut cell is touched
abbrev pub CutIsTouch : Type 0
CutIsTouch = (d e : ℕ) (a b c : Pt3) → Cut d e a b c → Touch d a b c
