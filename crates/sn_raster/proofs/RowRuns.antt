-- The run along a row, from its last node to its first.
use Rattle.std.proofs.Common.{ℕ, ◌+◌, ◌*◌, ◌≡◌, ◌↔◌, ◌<◌, ◌≤◌, ℤ, pos, negsuc, unsigned_abs, ◌+ℤ◌, ◌-ℤ◌, ◌≤ℤ◌, ◌<ℤ◌, Bool, false, w32, to_z, of_z, refl, sym, ap, ◌∙◌, subst, arith}
use Rattle.std.proofs.lemmas.Int.{ints, clamps, by_lt_z, to_z-of_z}
use Rattle.sn_geom.proofs.Ring.{sums}
use Rattle.sn_geom.specs.Length.{IsLength}
use Rattle.sn_geom.specs.declared.limits.TheConstants.{REACH}
use Rattle.sn_raster.specs.Grid.{Grid, Node, places}
use Rattle.sn_raster.specs.Plane.{Plane, Has}
use Rattle.sn_raster.specs.RowTurns.{at, bit, differs}
use Rattle.sn_raster.proofs.Axis.{kept}
use Rattle.sn_raster.proofs.Marks.{in_own_window}
use Rattle.sn_raster.proofs.HeightMaps.{same_place}
use Rattle.sn_raster.proofs.HeightRows.{along}
use Rattle.sn_raster.proofs.RowBits.{bit_same, differs_back}

-- the tests of the columns: at first the row has the columns where they turn
pub record AreTests (g : Grid) (j : ℤ) (old : Plane) (f : ℤ → Bool) : Type 0 where
  pub beyond : f (g.i1 +ℤ pos 1) ≡ false
  pub turns : (k : ℤ) → g.i0 ≤ℤ k → k ≤ℤ g.i1 → bit old (at k j) ≡ differs (f k) (f (k +ℤ pos 1))

-- after column i the row has the columns for which the test holds, and up to it the row is as before
pub record IsRunTo (g : Grid) (j : ℤ) (old new : Plane) (odd : Bool) (i : ℤ) : Type 0 where
  pub grid : new.grid ≡ g
  pub now : (f : ℤ → Bool) → AreTests g j old f → odd ≡ f (i +ℤ pos 1)
  pub after : (f : ℤ → Bool) → AreTests g j old f → (k : ℤ) → g.i0 ≤ℤ k → k ≤ℤ g.i1 → i <ℤ k → bit new (at k j) ≡ f k
  pub ahead : (k : ℤ) → g.i0 ≤ℤ k → k ≤ℤ g.i1 → k ≤ℤ i → bit new (at k j) ≡ bit old (at k j)
  pub others : (n : Node) → ¬ (n.j ≡ j) → Has new n ↔ Has old n

pub none_run : (g : Grid) (j : ℤ) (plane : Plane) (i : ℤ) → plane.grid ≡ g → i ≡ g.i1 → IsRunTo g j plane plane false i
none_run g j plane i same is = record {
  grid = same;
  now = λ f tests. sym tests.beyond ∙ ap (λ k. f (k +ℤ pos 1)) (sym is);
  after = λ f tests k low high past. absurd (omega (arith, sums));
  ahead = λ k low high upto. refl;
  others = λ n off. ((λ has. has), (λ has. has));
}

pub run_one : (g : Grid) (j : ℤ) (old mid new : Plane) (odd next : Bool) (i i' : ℤ) (n : Node) → i' ≡ i -ℤ pos 1 → n ≡ at i j → g.i0 ≤ℤ i → i ≤ℤ g.i1 → g.j0 ≤ℤ j → j ≤ℤ g.j1 → new.grid ≡ g
    → next ≡ differs (bit mid n) odd → bit new n ≡ next → ((m : Node) → ¬ (m ≡ n) → Has new m ↔ Has mid m) → IsRunTo g j old mid odd i → IsRunTo g j old new next i'
run_one g j old mid new odd next i i' n is here left right front back same value node others run =
    let before : bit mid n ≡ bit old (at i j) = ap (bit mid) here ∙ run.ahead i left right (omega (arith, sums)) in
    let now : (f : ℤ → Bool) → AreTests g j old f → next ≡ f i = λ f tests.
    value ∙ ap (λ b. differs b odd) (before ∙ tests.turns i left right) ∙ ap (differs (differs (f i) (f (i +ℤ pos 1)))) (run.now f tests) ∙ differs_back (f i) (f (i +ℤ pos 1)) in
    let kept : (k : ℤ) → g.i0 ≤ℤ k → k ≤ℤ g.i1 → (k ≡ i → ⊥) → bit new (at k j) ≡ bit mid (at k j) = λ k low high off.
    bit_same new mid (at k j) (same ∙ sym run.grid) (in_own_window mid.grid g (at k j) run.grid (record { left = low; right = high; front = front; back = back })) (others (at k j) (λ e. off (ap (λ m. m.i) (e ∙ here)))) in
    record {
      grid = same;
      now = λ f tests. let e : i' +ℤ pos 1 ≡ i = omega (arith, sums) in now f tests ∙ ap f (sym e);
      after = λ f tests k low high past.
          by_lt_z i k (λ later. kept k low high (λ e. omega (arith, sums)) ∙ run.after f tests k low high later)
          (λ upto. let e : k ≡ i = omega (arith, sums) in ap (bit new) (same_place k i j j e refl ∙ sym here) ∙ node ∙ now f tests ∙ ap f (sym e));
      ahead = λ k low high upto. kept k low high (λ e. omega (arith, sums)) ∙ run.ahead k low high (omega (arith, sums));
      others = λ m off. along (others m (λ e. off (ap (λ k. k.j) (e ∙ here)))) (run.others m off);
    }

pub run_all : (g : Grid) (j : ℤ) (old new : Plane) (odd : Bool) (i : ℤ) → i <ℤ g.i0 → IsRunTo g j old new odd i → (f : ℤ → Bool) → AreTests g j old f → (k : ℤ) → g.i0 ≤ℤ k → k ≤ℤ g.i1 → bit new (at k j) ≡ f k
run_all g j old new odd i past run f tests k low high = run.after f tests k low high (omega (arith, sums))

-- the column that is reached after k of them
column_size : (first last : ℤ) (k : ℕ) → IsLength first → IsLength last → k < places first last → unsigned_abs (last -ℤ pos k) ≤ REACH + 1
column_size first last k first_length last_length below = omega (arith, ints, clamps)

kept_small : (z : ℤ) → unsigned_abs z ≤ REACH + 1 → to_z w32 (of_z w32 z) ≡ z
kept_small (pos n) h = to_z-of_z w32 (pos n) (record { sfits = omega arith })
kept_small (negsuc n) h = to_z-of_z w32 (negsuc n) (record { sfits = omega arith })

pub column_after : (first last last' x : ℤ) (k : ℕ) → last' ≡ last → x ≡ pos k → IsLength first → IsLength last → k < places first last → to_z w32 (of_z w32 (last' -ℤ x)) ≡ last -ℤ pos k
column_after first last last' x k e f first_length last_length below =
    ap (λ z. to_z w32 (of_z w32 (z -ℤ x))) e ∙ ap (λ z. to_z w32 (of_z w32 (last -ℤ z))) f ∙ kept_small (last -ℤ pos k) (column_size first last k first_length last_length below)

pub column_from : (first last : ℤ) (k : ℕ) → k < places first last → first ≤ℤ (last -ℤ pos k)
column_from first last k below = omega (arith, ints, clamps)

pub column_to : (last : ℤ) (k : ℕ) → (last -ℤ pos k) ≤ℤ last
column_to last k = omega (arith, ints)

pub column_past : (first last : ℤ) (k : ℕ) → places first last ≤ k → (last -ℤ pos k) <ℤ first
column_past first last k above = omega (arith, ints, clamps)

pub count_as : (first first' last last' : ℤ) (n : ℕ) → first' ≡ first → last' ≡ last → n ≡ places first' last' → n ≡ places first last
count_as first first' last last' n e f is = rw (is, e, f) refl

places_few : (first last : ℤ) → IsLength first → IsLength last → places first last ≤ 2 * REACH + 1
places_few first last h k = omega (arith, ints, clamps)

natural : (k : ℕ) → k < 2 * REACH + 2 → to_z w32 k ≡ pos k
natural k h = omega (arith, ints)

pub natural_column : (first last : ℤ) (k : ℕ) → IsLength first → IsLength last → k < places first last → to_z w32 k ≡ pos k
natural_column first last k h l below = natural k (let few = places_few first last h l in omega (arith, few, below))

-- what is known of the column of a step
pub record IsColumn (g : Grid) (k : ℕ) (column : ℤ) : Type 0 where
  pub is : column ≡ g.i1 -ℤ pos k
  pub left : g.i0 ≤ℤ (g.i1 -ℤ pos k)
  pub right : (g.i1 -ℤ pos k) ≤ℤ g.i1

pub column_is : (g : Grid) (i0 i1 : ℤ) (k count : ℕ) → i0 ≡ g.i0 → i1 ≡ g.i1 → IsLength i0 → IsLength i1 → count ≡ places (to_z w32 (of_z w32 i0)) (to_z w32 (of_z w32 i1)) → k < count
    → IsColumn g k (to_z w32 (of_z w32 (to_z w32 (of_z w32 i1) -ℤ to_z w32 k)))
column_is g i0 i1 k count first last first_in last_in count_is test =
    let first_length = subst IsLength first first_in in
    let last_length = subst IsLength last last_in in
    let count' = count_as g.i0 _ g.i1 _ count (kept _ first_in ∙ first) (kept _ last_in ∙ last) count_is in
    let below : k < places g.i0 g.i1 = omega (arith, test, count') in
    record {
      is = column_after g.i0 g.i1 _ _ k (kept _ last_in ∙ last) (natural_column g.i0 g.i1 k first_length last_length below) first_length last_length below;
      left = column_from g.i0 g.i1 k below;
      right = column_to g.i1 k;
    }
