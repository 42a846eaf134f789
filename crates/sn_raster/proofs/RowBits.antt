-- Bits of the nodes of a row, and how they turn over.
use Rattle.std.proofs.Common.{◌≡◌, ◌↔◌, ℕ, ◌+◌, ◌<◌, ◌≤◌, ℤ, pos, ◌+ℤ◌, ◌≤ℤ◌, ◌<ℤ◌, int_le, int_lt, Bool, true, false, not, ◌&&◌, IsTrue, List, length, get_or, drop, refl, sym, ap, ◌∙◌, subst, arith}
use mathlib.Core.Bool.{beq}
use Rattle.std.proofs.lemmas.Int.{ints, by_lt_z}
use Rattle.sn_geom.proofs.Ring.{sums}
use Rattle.sn_geom.specs.declared.units.Pt.{Pt}
use Rattle.sn_geom.specs.declared.units.Seg.{Seg}
use Rattle.sn_outline.specs.Polygon.{path}
use Rattle.sn_raster.specs.Grid.{Node, IsInWindow}
use Rattle.sn_raster.specs.Plane.{Plane, Has}
use Rattle.sn_raster.specs.RowTurns.{bit, differs, is_odd}
use Rattle.sn_raster.proofs.Marks.{in_own_window}
use Rattle.sn_raster.proofs.Planes.{same_test}
use Rattle.sn_raster.proofs.SegmentRows.{path_step, path_end}

-- ---- bits
pub bit_of_has : (plane : Plane) (n m : Node) (on : Bool) → m ≡ n → IsInWindow plane.grid n → (Has plane m ↔ IsTrue on) → bit plane n ≡ on
bit_of_has plane n m on same window iff =
    let W : Node → Type 0 = λ k. IsInWindow plane.grid k in
    ap (bit plane) (sym same) ∙ same_test (bit plane m) on (λ t. iff.0 (record { in_window = subst W (sym same) window; marked = t })) (λ t. (iff.1 t).marked)

pub bit_same : (p q : Plane) (n : Node) → p.grid ≡ q.grid → IsInWindow q.grid n → (Has p n ↔ Has q n) → bit p n ≡ bit q n
bit_same p q n same window iff =
    same_test (bit p n) (bit q n) (λ t. (iff.0 (record { in_window = in_own_window p.grid q.grid n same window; marked = t })).marked) (λ t. (iff.1 (record { in_window = window; marked = t })).marked)

pub turned_about : {A B : Type 0} → (A ↔ B) → (B ↔ A)
turned_about f = (f.1, f.0)

-- ---- differing
pub not_beq : (x y : Bool) → not (beq x y) ≡ differs x y
not_beq true true = refl
not_beq true false = refl
not_beq false true = refl
not_beq false false = refl

pub differs_same : (a : Bool) → differs a a ≡ false
differs_same true = refl
differs_same false = refl

pub differs_false : (a : Bool) → differs a false ≡ a
differs_false true = refl
differs_false false = refl

pub differs_true : (a : Bool) → differs a true ≡ not a
differs_true true = refl
differs_true false = refl

pub differs_back : (a b : Bool) → differs (differs a b) b ≡ a
differs_back true true = refl
differs_back true false = refl
differs_back false true = refl
differs_back false false = refl

differs_over : (a b c : Bool) → differs (differs a b) c ≡ differs a (differs b c)
differs_over true true true = refl
differs_over true true false = refl
differs_over true false true = refl
differs_over true false false = refl
differs_over false true true = refl
differs_over false true false = refl
differs_over false false true = refl
differs_over false false false = refl

differs_parts : (a b c d : Bool) → differs (differs a b) (differs c d) ≡ differs (differs a c) (differs b d)
differs_parts true true true true = refl
differs_parts true true true false = refl
differs_parts true true false true = refl
differs_parts true true false false = refl
differs_parts true false true true = refl
differs_parts true false true false = refl
differs_parts true false false true = refl
differs_parts true false false false = refl
differs_parts false true true true = refl
differs_parts false true true false = refl
differs_parts false true false true = refl
differs_parts false true false false = refl
differs_parts false false true true = refl
differs_parts false false true false = refl
differs_parts false false false true = refl
differs_parts false false false false = refl

-- one edge more: what is turned over and what is left to turn make the whole
pub turned_one : (f f' : Seg → Bool) (old new whole : Bool) (start to : Pt) (points : List Pt) (i : ℕ) → i < length points → to ≡ get_or points i to
    → new ≡ differs old (differs (f (record { a = start; b = to })) (f' (record { a = start; b = to })))
    → differs old (differs (is_odd f (path start (drop i points))) (is_odd f' (path start (drop i points)))) ≡ whole
    → differs new (differs (is_odd f (path to (drop (i + 1) points))) (is_odd f' (path to (drop (i + 1) points)))) ≡ whole
turned_one f f' old new whole start to points i h e step so_far =
    let there = path_step start to points i h e in
    let x = f (record { a = start; b = to }) in
    let x' = f' (record { a = start; b = to }) in
    let r = is_odd f (path to (drop (i + 1) points)) in
    let r' = is_odd f' (path to (drop (i + 1) points)) in
    ap (λ b. differs b (differs r r')) step
    ∙ differs_over old (differs x x') (differs r r')
    ∙ ap (differs old) (differs_parts x x' r r')
    ∙ ap (λ es. differs old (differs (is_odd f es) (is_odd f' es))) (sym there)
    ∙ so_far

pub turned_all : (f f' : Seg → Bool) (old whole : Bool) (start : Pt) (points : List Pt) (i : ℕ) → length points ≤ i
    → differs old (differs (is_odd f (path start (drop i points))) (is_odd f' (path start (drop i points)))) ≡ whole → old ≡ whole
turned_all f f' old whole start points i h so_far =
    sym (differs_false old) ∙ ap (λ es. differs old (differs (is_odd f es) (is_odd f' es))) (sym (path_end start points i h)) ∙ so_far

-- ---- tests of numbers
pub le_true : (a b : ℤ) → a ≤ℤ b → int_le a b ≡ true
le_true a b h = grind (arith, ints)

pub le_false : (a b : ℤ) → b <ℤ a → int_le a b ≡ false
le_false a b h = grind (arith, ints)

pub lt_true : (a b : ℤ) → a <ℤ b → int_lt a b ≡ true
lt_true a b h = grind (arith, ints)

pub lt_false : (a b : ℤ) → b ≤ℤ a → int_lt a b ≡ false
lt_false a b h = grind (arith, ints)

both_true : (a b c : Bool) → a ≡ true → b ≡ true → c ≡ true → (a && b) ≡ c
both_true a b c e f h = ap (λ x. x && b) e ∙ f ∙ sym h

first_false : (a b c : Bool) → a ≡ false → c ≡ false → (a && b) ≡ c
first_false a b c e h = ap (λ x. x && b) e ∙ sym h

second_false : (a b c : Bool) → a ≡ true → b ≡ false → c ≡ false → (a && b) ≡ c
second_false a b c e f h = ap (λ x. x && b) e ∙ f ∙ sym h

-- two tests of a column are one: whether it is not past the lesser of two columns
pub two_tests : (i i1 last m side : ℤ) → i ≤ℤ last ↔ (pos 0 <ℤ side) → m ≤ℤ last → m ≤ℤ i1 → (i ≤ℤ last → i ≤ℤ i1 → i ≤ℤ m) → (int_le i i1 && int_lt (pos 0) side) ≡ int_le i m
two_tests i i1 last m side iff at_most within greatest =
    by_lt_z m i
    (λ beyond.
    by_lt_z i1 i (λ past. first_false (int_le i i1) (int_lt (pos 0) side) (int_le i m) (le_false i i1 past) (le_false i m beyond))
    (λ inside.
    by_lt_z (pos 0) side (λ left. let h = greatest (iff.1 left) inside in absurd (omega (arith, sums)))
    (λ right. second_false (int_le i i1) (int_lt (pos 0) side) (int_le i m) (le_true i i1 inside) (lt_false (pos 0) side right) (le_false i m beyond))))
    (λ before. both_true (int_le i i1) (int_lt (pos 0) side) (int_le i m) (le_true i i1 (omega (arith, sums))) (lt_true (pos 0) side (iff.0 (omega (arith, sums)))) (le_true i m before))

-- a test of a column that is not the last turns nothing
pub tests_differ : (i m : ℤ) → (m ≡ i → ⊥) → differs (int_le i m) (int_le (i +ℤ pos 1) m) ≡ false
tests_differ i m off =
    by_lt_z m i
    (λ beyond. ap (λ b. differs b (int_le (i +ℤ pos 1) m)) (le_false i m beyond) ∙ le_false (i +ℤ pos 1) m (omega (arith, sums)))
    (λ upto.
    by_lt_z i m (λ below. ap (λ b. differs b (int_le (i +ℤ pos 1) m)) (le_true i m upto) ∙ ap not (le_true (i +ℤ pos 1) m (omega (arith, sums))))
    (λ from. absurd (off (omega (arith, sums)))))

pub tests_turn : (i m : ℤ) → m ≡ i → differs (int_le i m) (int_le (i +ℤ pos 1) m) ≡ true
tests_turn i m on = ap (λ b. differs b (int_le (i +ℤ pos 1) m)) (le_true i m (omega (arith, sums))) ∙ ap not (le_false (i +ℤ pos 1) m (omega (arith, sums)))

pub turned_here : (old new t t' u u' : Bool) → t ≡ u → t' ≡ u' → differs u u' ≡ true → new ≡ not old → new ≡ differs old (differs t t')
turned_here old new t t' u u' e f turn is = is ∙ sym (differs_true old) ∙ ap (differs old) (sym turn ∙ ap (λ b. differs b u') (sym e) ∙ ap (differs t) (sym f))

pub turned_not : (old new t t' u u' : Bool) → t ≡ u → t' ≡ u' → differs u u' ≡ false → new ≡ old → new ≡ differs old (differs t t')
turned_not old new t t' u u' e f turn is = is ∙ sym (differs_false old) ∙ ap (differs old) (sym turn ∙ ap (λ b. differs b u') (sym e) ∙ ap (differs t) (sym f))
