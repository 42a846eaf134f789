-- Moves: those that are made are straight.
use Rattle.std.proofs.Common.{◌≡◌, ◌≢◌, Bool, true, false, ◌&&◌, List, [], ◌∷◌, ℤ, pos, ◌+ℤ◌, refl, sym, ap, subst, ◌∙◌, arith}
use Rattle.std.specs.Int.{int_min}
use Rattle.std.specs.Ordering.{int_eq}
use Rattle.std.proofs.lemmas.Bool.{and_parts, false_from_ne_true}
use Rattle.std.proofs.lemmas.Bool.Decides.{Decides-int_eq}
use Rattle.std.proofs.lemmas.Int.{ints, int_min_is}
use Rattle.sn_geom.proofs.Ring.{sums}
use Rattle.sn_geom.specs.Length.{IsLength}
use Rattle.sn_geom.specs.Tip.{tip_after}
use Rattle.sn_geom.specs.Sweep.{IsHorizontalOrVertical}
use Rattle.sn_geom.specs.declared.limits.TheConstants.{GAP}
use Rattle.sn_geom.specs.declared.units.Pt3.{Pt3}
use Rattle.sn_geom.specs.declared.tip.Tip.{Tip}
use Rattle.sn_geom.specs.declared.tip.Tip.TheVariants.{Unknown, Height, At}
use Rattle.sn_link.specs.declared.moves.Move.{Move}
use Rattle.sn_link.specs.Moves.{end_of, same_place, stands_at, made, MayMove, AreStraight}
use Rattle.sn_link.specs.Safe.{AreWithin}

-- Tests of numbers.

pub equal_test : (x : ℤ) → int_eq x x ≡ true
equal_test x = (Decides-int_eq x x).1 refl

pub other_test : (x y : ℤ) → x ≢ y → int_eq x y ≡ false
other_test x y differ = false_from_ne_true (int_eq x y) (λ e. differ ((Decides-int_eq x y).0 e))

-- what is so where a test is met and where it is not
pub by_test : (b : Bool) (R : Type 0) → (b ≡ true → R) → (b ≡ false → R) → R
by_test true R met other = met refl
by_test false R met other = other refl

pub start_within : (sec above : ℤ) → IsLength sec → IsLength above → IsLength (int_min sec (above +ℤ pos GAP))
start_within sec above h k = let m = int_min_is sec (above +ℤ pos GAP) in omega (arith, ints, sums)

-- Places.

pub same_point : (a b : Pt3) → a.x ≡ b.x → a.y ≡ b.y → a.z ≡ b.z → a ≡ b
same_point a b x y z = λ i. record { x = x i; y = y i; z = z i }

pub same_is : (a b : Pt3) → same_place a b ≡ true → a ≡ b
same_is a b same =
    let all = and_parts (int_eq a.x b.x && int_eq a.y b.y) (int_eq a.z b.z) same in
    let plan = and_parts (int_eq a.x b.x) (int_eq a.y b.y) all.0 in
    same_point a b ((Decides-int_eq a.x b.x).0 plan.0) ((Decides-int_eq a.y b.y).0 plan.1) ((Decides-int_eq a.z b.z).0 all.1)

pub same_test : (a : Pt3) → same_place a a ≡ true
same_test a = rw (equal_test a.x, equal_test a.y, equal_test a.z) refl

-- Moves that are made.

-- a move that is made, or left out
pub made_cases : (P : List Move → Type 0) (tip : Tip) (move : Move) (moves : List Move)
    → (stands_at tip (end_of move) ≡ true → P (made tip moves))
    → (stands_at tip (end_of move) ≡ false → P (move ∷ made (tip_after tip (end_of move)) moves))
    → P (made tip (move ∷ moves))
made_cases P tip move moves out kept =
    by_test (stands_at tip (end_of move)) (P (made tip (move ∷ moves)))
    (λ e. rw e (out e))
    (λ e. rw e (kept e))

-- the move goes where it may go, or ends where it starts
abbrev pub IsLevel : Tip → Move → Type 0
IsLevel (At p) move = IsHorizontalOrVertical p (end_of move)
IsLevel tip move = MayMove tip move

abbrev pub AreLevel : Tip → List Move → Type 0
AreLevel tip [] = Unit {0}
AreLevel tip (move ∷ moves) = IsLevel tip move × AreLevel (tip_after tip (end_of move)) moves

stays : (tip : Tip) (p : Pt3) → stands_at tip p ≡ true → tip_after tip p ≡ tip
stays Unknown p same = absurd (cc)
stays (Height z) p same = absurd (cc)
stays (At q) p same = ap At (sym (same_is q p same))

pub leaves : (p q : Pt3) → same_place p q ≡ false → p ≢ q
leaves p q other e = let same = subst (λ r. same_place p r ≡ true) e (same_test p) in let both : false ≡ true = sym other ∙ same in cc

may : (tip : Tip) (move : Move) → IsLevel tip move → stands_at tip (end_of move) ≡ false → MayMove tip move
may Unknown move level other = level
may (Height z) move level other = level
may (At p) move level other = record { moves = leaves p (end_of move) other; straight = level }

-- what is made of moves that are not slanted is straight
pub made_straight : (tip : Tip) (moves : List Move) → AreLevel tip moves → AreStraight tip (made tip moves)
made_straight tip [] level = tt
made_straight tip (move ∷ moves) level =
    made_cases (AreStraight tip) tip move moves
    (λ same. made_straight tip moves (subst (λ t. AreLevel t moves) (stays tip (end_of move) same) level.1))
    (λ other. (may tip move level.0 other, made_straight (tip_after tip (end_of move)) moves level.1))

pub made_within : (tip : Tip) (moves : List Move) → AreWithin moves → AreWithin (made tip moves)
made_within tip [] within = tt
made_within tip (move ∷ moves) within =
    made_cases AreWithin tip move moves
    (λ same. made_within tip moves within.1)
    (λ other. (within.0, made_within (tip_after tip (end_of move)) moves within.1))
