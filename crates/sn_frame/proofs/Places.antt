-- How a point is reached, place by place.
use Rattle.std.proofs.Common.{◌≡◌, ℕ, ◌≤◌, Option, Some, None, Ok, Err, ℤ, ◌+ℤ◌, ◌*ℤ◌, IsTrue, SomeIff, if◌then◌else◌, ap, subst, arith}
use Rattle.std.proofs.lemmas.Int.{ints}
use Rattle.std.specs.Option.{ok_or}
use Rattle.sn_geom.specs.declared.units.Pt3.{Pt3}
use Rattle.sn_frame.specs.Matrix.{Vector, dot_product, row_x, row_y, row_z}
use Rattle.sn_frame.specs.Frame.{Transform, vector_of, applied, is_in_range}
use Rattle.sn_frame.specs.Place.{IsWithin, IsMoved, point_of}
use Rattle.sn_frame.specs.declared.place.Place.{Place}

pub IsWithin-widened : {m : ℕ} {p : Place} → IsWithin m p → (n : ℕ) → m ≤ n → IsWithin n p
IsWithin-widened within n h =
    record { x = omega arith; y = omega arith; z = omega arith }

-- a shift and three moves, in one coordinate
three_moves : (row v : Vector) {a b c d shift : ℤ} → a ≡ shift → b ≡ a +ℤ row.x *ℤ v.x → c ≡ b +ℤ row.y *ℤ v.y →
    d ≡ c +ℤ row.z *ℤ v.z → d ≡ dot_product row v +ℤ shift
three_moves row v at first second third = omega (arith, ints)

-- the shift, and a move along each column
pub point_of-three_moves : (f : Transform) (p : Pt3) {a b c d : Place} → point_of a ≡ f.shift →
    IsMoved a b f.matrix.first p.x → IsMoved b c f.matrix.second p.y → IsMoved c d f.matrix.third p.z →
    point_of d ≡ applied f p
unfolding applied
point_of-three_moves f p at first second third =
    let v = vector_of p in
    let x = three_moves (row_x f.matrix) v (ap (λ (q : Pt3). q.x) at) first.x second.x third.x in
    let y = three_moves (row_y f.matrix) v (ap (λ (q : Pt3). q.y) at) first.y second.y third.y in
    let z = three_moves (row_z f.matrix) v (ap (λ (q : Pt3). q.z) at) first.z second.z third.z in
    λ i. record { x = x i; y = y i; z = z i }

-- the point where it is in the range, or else the fault
point_or_fault : {E : Type 0} (o : Option Pt3) (q : Pt3) (fault : E) → SomeIff o (IsTrue (is_in_range q)) q →
    ok_or o fault ≡ (if is_in_range q then Ok q else Err fault)
point_or_fault None q fault h = grind arith
point_or_fault (Some r) q fault h = grind arith

pub point_or : {E : Type 0} {r : Pt3} (o : Option Pt3) (q : Pt3) (fault : E) → r ≡ q →
    SomeIff o (IsTrue (is_in_range r)) r → ok_or o fault ≡ (if is_in_range q then Ok q else Err fault)
point_or o q fault e h = point_or_fault o q fault (subst (λ (s : Pt3). SomeIff o (IsTrue (is_in_range s)) s) e h)
