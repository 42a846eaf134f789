-- Rows of planes, filled node by node.
use Rattle.std.proofs.Common.{ℕ, ◌≡◌, ◌+◌, ◌≤◌, ◌↔◌, ℤ, pos, negsuc, unsigned_abs, ◌+ℤ◌, ◌*ℤ◌, ◌≤ℤ◌, ◌<ℤ◌, Bool, true, false, IsTrue, refl, sym, ap, ◌∙◌, subst, w32, to_z, of_z, arith}
use Rattle.std.proofs.lemmas.Int.{ints, by_lt_z, to_z-of_z}
use Rattle.sn_geom.proofs.Ring.{sums}
use Rattle.sn_geom.specs.declared.units.Pt.{Pt}
use Rattle.sn_geom.specs.Length.{IsLength}
use Rattle.sn_geom.specs.declared.limits.TheConstants.{REACH}
use Rattle.sn_raster.proofs.Axis.{kept_as}
use Rattle.sn_outline.specs.declared.outline.Outline.{Outline}
use Rattle.sn_outline.specs.Outline.{InOutline}
use Rattle.sn_raster.specs.Grid.{Grid, Node, IsInWindow, place}
use Rattle.sn_raster.specs.Plane.{Plane, Has}
use lib.Signed.{lt_z}
use mir.Val.{SFits}

abbrev pub at : ℤ → ℤ → Node
at i j = record { i = i; j = j }

-- the nodes of the row before column i are filled, and the other rows are as before
pub record IsFilled (o : Outline) (g : Grid) (j : ℤ) (old new : Plane) (i : ℤ) : Type 0 where
  pub grid : new.grid ≡ g
  pub row : (k : ℤ) → g.i0 ≤ℤ k → k <ℤ i → Has new (at k j) ↔ InOutline o (place g.pitch (at k j))
  pub others : (n : Node) → ¬ (n.j ≡ j) → Has new n ↔ Has old n

along : {A B C : Type 0} → (A ↔ B) → (B ↔ C) → (A ↔ C)
along f g = ((λ a. g.0 (f.0 a)), (λ c. f.1 (g.1 c)))

same_at : (i j i' j' : ℤ) → i ≡ i' → j ≡ j' → at i j ≡ at i' j'
same_at i j i' j' column row = λ k. record { i = column k; j = row k }

-- one node more
pub filled_one : (o : Outline) (g : Grid) (j : ℤ) (old mid new : Plane) (i : ℤ) (n : Node) (p : Pt) (on : Bool)
    → n ≡ at i j → p ≡ place g.pitch n → (IsTrue on ↔ InOutline o p) → new.grid ≡ mid.grid → (Has new n ↔ IsTrue on)
    → ((m : Node) → ¬ (m ≡ n) → Has new m ↔ Has mid m)
    → IsFilled o g j old mid i → IsFilled o g j old new (i +ℤ pos 1)
filled_one o g j old mid new i n p on is placed inside same_grid here others filled = record {
  grid = same_grid ∙ filled.grid;
  row = λ k low below.
      by_lt_z k i
      (λ before. along (others (at k j) (λ same. let column : k ≡ i = ap (λ m. m.i) (same ∙ is) in absurd (omega (arith, sums)))) (filled.row k low before))
      (λ reached.
      let column : k ≡ i = omega (arith, sums) in
      let P : Node → Type 0 = λ m. Has new m ↔ InOutline o (place g.pitch m) in
      let Q : Pt → Type 0 = λ q. Has new n ↔ InOutline o q in
      subst P (is ∙ sym (same_at k j i j column refl)) (subst Q placed (along here inside)));
  others = λ m off. along (others m (λ same. off (ap (λ m. m.j) (same ∙ is)))) (filled.others m off);
}

pub passed_length : (k k' : ℤ) (pitch pitch' : ℕ) → k' ≡ k → pitch' ≡ pitch → IsLength (k *ℤ pos pitch) → IsLength (k' *ℤ pos pitch')
passed_length k k' pitch pitch' e f h = rw (e, f) h

-- no node of the row is before the first
pub none_filled : (o : Outline) (g : Grid) (j : ℤ) (plane : Plane) (i : ℤ) → plane.grid ≡ g → i ≡ g.i0 → IsFilled o g j plane plane i
none_filled o g j plane i same first = record {
  grid = same;
  row = λ k low below. absurd (omega (arith, sums));
  others = λ n off. ((λ has. has), (λ has. has));
}

pub in_window : (g : Grid) (i j j' end : ℤ) → j' ≡ j → end ≡ g.i1 +ℤ pos 1 → g.i0 ≤ℤ i → i <ℤ end → g.j0 ≤ℤ j → j ≤ℤ g.j1 → IsInWindow g (at i j')
in_window g i j j' end e f left right front back = record {
  left = left;
  right = omega (arith, sums);
  front = omega (arith, sums);
  back = omega (arith, sums);
}

pub small : (z : ℤ) → unsigned_abs z ≤ REACH + 1 → SFits w32 z
small (pos n) h = record { sfits = omega arith }
small (negsuc n) h = record { sfits = omega arith }

-- the end of the columns
pub end_is : (last' last : ℤ) → last' ≡ last → IsLength last → to_z w32 (of_z w32 (to_z w32 (of_z w32 last') +ℤ pos 1)) ≡ last +ℤ pos 1
end_is last' last same length = ap (λ z. to_z w32 (of_z w32 (z +ℤ pos 1))) (kept_as last' last same length) ∙ to_z-of_z w32 (last +ℤ pos 1) (small (last +ℤ pos 1) (omega (arith, ints)))

-- the next column
pub next_is : (i first last : ℤ) → IsLength first → IsLength last → first ≤ℤ i → i <ℤ (last +ℤ pos 1) → to_z w32 (of_z w32 (i +ℤ pos 1)) ≡ i +ℤ pos 1
next_is i first last from to low high = to_z-of_z w32 (i +ℤ pos 1) (small (i +ℤ pos 1) (omega (arith, ints)))

pub one_later : (first i next : ℤ) → next ≡ i +ℤ pos 1 → first ≤ℤ i → first ≤ℤ next
one_later first i next is low = omega (arith, sums)

pub lt_from : (a b : ℤ) → lt_z a b ≡ true → a <ℤ b
lt_from a b test = grind (arith, ints)

-- a column that is not past the last is before the end
pub passed_end : (counter end i last : ℤ) → end ≡ last +ℤ pos 1 → lt_z counter end ≡ false → i ≤ℤ last → i <ℤ counter
passed_end counter end i last is test high = by_lt_z counter end (λ below. absurd (grind (arith, ints))) (λ above. omega (arith, sums))

-- the order of numbers that were passed on
pub passed_between : (first last k first' last' k' : ℤ) → first' ≡ first → last' ≡ last → k' ≡ k
    → (first' ≤ℤ k') × (k' ≤ℤ last') → (first ≤ℤ k) × (k ≤ℤ last)
passed_between first last k first' last' k' a b c h = (omega (arith, sums, h.0), omega (arith, sums, h.1))

pub inside_window : (g : Grid) (i j j' : ℤ) → j' ≡ j → g.i0 ≤ℤ i → i ≤ℤ g.i1 → g.j0 ≤ℤ j → j ≤ℤ g.j1 → IsInWindow g (at i j')
inside_window g i j j' e left right front back = record { left = left; right = right; front = omega (arith, sums); back = omega (arith, sums) }

-- what is not below the first place as it is kept is not below it
pub counted_from : (first k : ℤ) → IsLength first → to_z w32 (of_z w32 first) ≤ℤ k → first ≤ℤ k
counted_from first k length low = rw (← kept_as first first refl length) low
