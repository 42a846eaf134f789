-- The laws of outlines.
use Rattle.std.proofs.Common.{◌≡◌, ◌≢◌, ℕ, zero, suc, ◌-◌, ◌/◌, ◌≤◌, ltb, Bool, true, false, ◌&&◌, cond, ℤ, pos, neg_ℤ, ◌-ℤ◌, unsigned_abs, List, [], ◌∷◌, ◌++◌, length, take, get_or, refl, sym, ap, ◌∙◌, ⊎_elim, arith}
use Rattle.std.specs.Ordering.{int_eq}
use Rattle.std.proofs.lemmas.Bool.{cases_Bool}
use Rattle.std.proofs.lemmas.Bool.Decides.{nat_tests}
use Rattle.std.proofs.lemmas.Int.{ints}
use Rattle.sn_geom.specs.declared.units.Pt.{Pt}
use Rattle.sn_frame.specs.declared.direction.Axis.{Axis}
use Rattle.sn_frame.specs.declared.direction.Axis.TheVariants.{X, Y}
use Rattle.sn_frame.specs.declared.direction.Sign.TheVariants.{Plus, Minus}
use Rattle.sn_frame.specs.Frame.{applied}
use Rattle.sn_feature.specs.declared.sketch.Sketch.TheVariants.{Rectangle}
use Rattle.sn_feature.specs.Outline.{at, origin, is_same, is_closed, corners, centred, reach, face_sketch, straight, put, between}
use Rattle.sn_feature.specs.OutlineLaws.{to, SidesAreHalved, WidthOfFive, FaceLiesBesidePath, PathGoesInDirection, RepeatedLastIsDropped}

-- Rectangles.

size_of_opposite : (h : ℕ) → unsigned_abs (neg_ℤ (pos h)) ≡ h
size_of_opposite zero = refl
size_of_opposite (suc h) = refl

side : (w h : ℕ) → h ≤ w → (pos (w - h) -ℤ neg_ℤ (pos h)) ≡ pos w
side w h le = grind (arith, ints)

pub sides_are_halved : SidesAreHalved
unfolding centred
sides_are_halved width length = (
  at (neg_ℤ (pos (width / 2))) (neg_ℤ (pos (length / 2))),
  at (pos (width - width / 2)) (pos (length - length / 2)),
  refl,
  side width (width / 2) (omega arith),
  side length (length / 2) (omega arith),
  rw size_of_opposite (omega arith),
  rw size_of_opposite (omega arith),
  rw size_of_opposite (omega arith),
  rw size_of_opposite (omega arith),
)

pub width_of_five : WidthOfFive
unfolding centred put between applied
width_of_five = (refl, refl)

-- Paths.

reach_plus : (a : Axis) (d : ℕ) → reach (to a Plus) d ≡ pos d
unfolding reach
reach_plus a d = grind (arith, ints)

reach_minus : (a : Axis) (d : ℕ) → reach (to a Minus) d ≡ neg_ℤ (pos d)
unfolding reach
reach_minus a d = grind (arith, ints)

pub face_lies_beside_path : FaceLiesBesidePath
unfolding face_sketch
face_lies_beside_path = record {
  right = λ d p. ap (λ (z : ℤ). Rectangle origin (at z (pos p))) (reach_plus X d);
  left = λ d p. ap (λ (z : ℤ). Rectangle origin (at z (pos p))) (reach_minus X d);
  back = λ d p. ap (λ (z : ℤ). Rectangle origin (at (pos p) z)) (reach_plus Y d);
  front = λ d p. ap (λ (z : ℤ). Rectangle origin (at (pos p) z)) (reach_minus Y d);
  upright = λ s d p. refl;
}

pub path_goes_in_direction : PathGoesInDirection
unfolding straight
path_goes_in_direction = record {
  right = λ d. ap (λ (z : ℤ). origin ∷ at z (pos 0) ∷ []) (reach_plus X d);
  left = λ d. ap (λ (z : ℤ). origin ∷ at z (pos 0) ∷ []) (reach_minus X d);
  back = λ d. ap (λ (z : ℤ). origin ∷ at (pos 0) z ∷ []) (reach_plus Y d);
  front = λ d. ap (λ (z : ℤ). origin ∷ at (pos 0) z ∷ []) (reach_minus Y d);
  upright = λ s d. refl;
}

-- Polygons.

length_snoc : (ps : List Pt) (q : Pt) → length (ps ++ q ∷ []) ≡ suc (length ps)
length_snoc [] q = refl
length_snoc (p ∷ ps) q = ap suc (length_snoc ps q)

last_of : (ps : List Pt) (q d : Pt) → get_or (ps ++ q ∷ []) (length ps) d ≡ q
last_of [] q d = refl
last_of (p ∷ ps) q d = last_of ps q d

front_of : (ps : List Pt) (q : Pt) → take (length ps) (ps ++ q ∷ []) ≡ ps
front_of [] q = refl
front_of (p ∷ ps) q = ap (λ (xs : List Pt). p ∷ xs) (front_of ps q)

is_int_eq : (x : ℤ) → int_eq x x ≡ true
is_int_eq x = grind (arith, ints)

same_int : (x y : ℤ) → int_eq x y ≡ true → x ≡ y
same_int x y h = grind (arith, ints)

same_itself : (p : Pt) → is_same p p ≡ true
same_itself p = ap (λ (b : Bool). b && int_eq p.y p.y) (is_int_eq p.x) ∙ is_int_eq p.y

and_both : (a b : Bool) → (a && b) ≡ true → (a ≡ true) × (b ≡ true)
and_both true b h = (refl, h)
and_both false b h = absurd cc

same_point : (p q : Pt) → is_same p q ≡ true → p ≡ q
same_point p q h =
    let both = and_both (int_eq p.x q.x) (int_eq p.y q.y) h in
    ap (λ (x : ℤ). at x p.y) (same_int p.x q.x both.0) ∙ ap (λ (y : ℤ). at q.x y) (same_int p.y q.y both.1)

test_of : (p q : Pt) (ps : List Pt) (n : ℕ) → n ≡ suc (length ps) → (ltb 1 (suc n) && is_same p (get_or (p ∷ (ps ++ q ∷ [])) (suc n - 1) origin)) ≡ is_same p q
test_of p q ps n e =
    let long : ltb 1 (suc n) ≡ true = grind (arith, nat_tests) in
    let place : suc n - 1 ≡ suc (length ps) = omega arith in
    ap (λ (b : Bool). b && is_same p (get_or (p ∷ (ps ++ q ∷ [])) (suc n - 1) origin)) long
    ∙ (ap (λ (k : ℕ). is_same p (get_or (p ∷ (ps ++ q ∷ [])) k origin)) place ∙ ap (is_same p) (last_of ps q origin))

closed_test : (p q : Pt) (ps : List Pt) → is_closed (p ∷ (ps ++ q ∷ [])) ≡ is_same p q
unfolding is_closed
closed_test p q ps = test_of p q ps (length (ps ++ q ∷ [])) (length_snoc ps q)

by_test : (b : Bool) (xs ys : List Pt) → b ≡ true → cond b xs ys ≡ xs
by_test true xs ys h = refl
by_test false xs ys h = absurd cc

by_no_test : (b : Bool) (xs ys : List Pt) → b ≡ false → cond b xs ys ≡ ys
by_no_test true xs ys h = absurd cc
by_no_test false xs ys h = refl

dropped : (p : Pt) (ps : List Pt) → corners (p ∷ (ps ++ p ∷ [])) ≡ p ∷ ps
unfolding corners
dropped p ps =
    let xs = p ∷ (ps ++ p ∷ []) in
    let place : length (p ∷ (ps ++ p ∷ [])) - 1 ≡ suc (length ps) = let e = length_snoc ps p in omega arith in
    by_test (is_closed xs) (take (length xs - 1) xs) xs (closed_test p p ps ∙ same_itself p)
    ∙ (ap (λ (k : ℕ). take k (p ∷ (ps ++ p ∷ []))) place ∙ ap (λ (ys : List Pt). p ∷ ys) (front_of ps p))

not_same : (p q : Pt) → q ≢ p → is_same p q ≡ false
not_same p q ne = ⊎_elim (λ no. absurd (ne (sym (same_point p q no)))) (λ no. no) (cases_Bool (is_same p q))

stays : (p q : Pt) (ps : List Pt) → q ≢ p → corners (p ∷ (ps ++ q ∷ [])) ≡ p ∷ (ps ++ q ∷ [])
unfolding corners
stays p q ps ne =
    let xs = p ∷ (ps ++ q ∷ []) in
    by_no_test (is_closed xs) (take (length xs - 1) xs) xs (closed_test p q ps ∙ not_same p q ne)

alone : (p : Pt) → corners (p ∷ []) ≡ p ∷ []
unfolding corners is_closed
alone p = refl

pub repeated_last_is_dropped : RepeatedLastIsDropped
repeated_last_is_dropped = (dropped, stays, alone)
