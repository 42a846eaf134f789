-- MEANING: discs about points, and where a moving tool is near a point, touches a cell and surely cuts it (this project's own).
-- A move is straight. Near, Touch and Cut each say that something holds at some fraction of the move: after n of m equal parts of it.
use Rattle.std.specs.Prelude.{ℕ, ◌+◌, ◌*◌, ◌≤◌, ◌<◌, ◌≡◌, ◌⊎◌, ℤ, pos, ◌+ℤ◌, ◌-ℤ◌, ◌*ℤ◌, ◌≤ℤ◌, unsigned_abs}
use Rattle.sn_geom.specs.declared.units.Pt.{Pt}
use Rattle.sn_geom.specs.declared.units.Pt3.{Pt3}

-- the square of a whole number
abbrev pub square : ℤ → ℕ
square z = unsigned_abs z * unsigned_abs z

-- q is in the disc of diameter d about p: the distance, doubled, is at most d
pub record Disc (d : ℕ) (p q : Pt) : Type 0 where
  pub close : 4 * (square (q.x -ℤ p.x) + square (q.y -ℤ p.y)) ≤ d * d

-- n of m equal parts of a move are a fraction of it
pub record IsFraction (n m : ℕ) : Type 0 where
  pub some_parts : 0 < m
  pub within : n ≤ m

-- on one axis, m times the offset of p from the place after n of m equal parts of the move from a to b
abbrev pub offset_at : ℕ → ℕ → ℤ → ℤ → ℤ → ℤ
offset_at n m a b p = pos m *ℤ (p -ℤ a) -ℤ pos n *ℤ (b -ℤ a)

-- the distance to p, doubled, is at most d after n of m equal parts of the move from a to b
pub record IsNearAt (n m d : ℕ) (a b p : Pt) : Type 0 where
  pub fraction : IsFraction n m
  pub close : 4 * (square (offset_at n m a.x b.x p.x) + square (offset_at n m a.y b.y p.y)) ≤ d * d * (m * m)

-- the distance from p to the segment from a to b, doubled, is at most d
abbrev pub Near : ℕ → Pt → Pt → Pt → Type 0
Near d a b p = (n : ℕ) × (m : ℕ) × IsNearAt n m d a b p

-- a point in space, seen from above
abbrev pub plan : Pt3 → Pt
plan p = record { x = p.x; y = p.y }

-- after n of m equal parts of the move from the height a to the height b the height is at most z
abbrev pub IsHeightAtMost : ℕ → ℕ → ℤ → ℤ → ℤ → Type 0
IsHeightAtMost n m a b z = (pos m *ℤ a +ℤ pos n *ℤ (b -ℤ a)) ≤ℤ (pos m *ℤ z)

-- after n of m equal parts of the move of its tip from a to b a tool of diameter d touches the cell at the place and the height of c
pub record IsTouchedAt (n m d : ℕ) (a b c : Pt3) : Type 0 where
  pub close : IsNearAt n m d (plan a) (plan b) (plan c)
  pub low : IsHeightAtMost n m a.z b.z c.z

-- a tool of diameter d, its tip moving from a to b, touches the cell at the place and the height of c
abbrev pub Touch : ℕ → Pt3 → Pt3 → Pt3 → Type 0
Touch d a b c = (n : ℕ) × (m : ℕ) × IsTouchedAt n m d a b c

-- such a tool surely cuts that cell, where from the height e above its tip up it cuts with its whole diameter
abbrev pub Cut : ℕ → ℕ → Pt3 → Pt3 → Pt3 → Type 0
Cut d e a b c = Touch d a b (record c { z = c.z -ℤ pos e })

-- a move that keeps its height
abbrev pub IsHorizontal : Pt3 → Pt3 → Type 0
IsHorizontal a b = a.z ≡ b.z

-- a move that changes its height alone
abbrev pub IsVertical : Pt3 → Pt3 → Type 0
IsVertical a b = (a.x ≡ b.x) × (a.y ≡ b.y)

-- a move that is not slanted
abbrev pub IsHorizontalOrVertical : Pt3 → Pt3 → Type 0
IsHorizontalOrVertical a b = IsHorizontal a b ⊎ IsVertical a b

-- w is the greatest half width, in whole units of length, of the disc of diameter d in the row at the distance dy from its centre
pub record IsHalfWidth (d dy w : ℕ) : Type 0 where
  pub inside : 4 * (w * w + dy * dy) ≤ d * d
  pub greatest : (v : ℕ) → 4 * (v * v + dy * dy) ≤ d * d → v ≤ w
