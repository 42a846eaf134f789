-- A set of cells has one count.
use Rattle.std.proofs.Common.{ℕ, zero, suc, ◌≡◌, ◌<◌, ◌≤◌, eqb, Bool, true, false, List, [], ◌∷◌, length, refl, sym, ap, arith}
use Rattle.std.specs.List.{AllByRecursion, IsDistinct, list_any}
use Rattle.std.proofs.lemmas.Bool.{eqb-true}
use Rattle.std.proofs.lemmas.Map.Steps.{length-le_from_distinct_below}
use Rattle.sn_geom.specs.declared.units.Cell.{Cell}
use Rattle.sn_raster.specs.Heights.{AreNumbered, IsCount}

-- what is so where a test is met and where it is not
by_test : (b : Bool) (R : Type 0) → (b ≡ true → R) → (b ≡ false → R) → R
by_test true R met other = met refl
by_test false R met other = other refl

-- a number that is not in a list is apart from each of it
apart_from_all : (x : ℕ) (xs : List ℕ) → (list_any (eqb x) xs ≡ true → ⊥) → AllByRecursion (λ y. eqb x y ≡ false) xs
apart_from_all x [] out = tt
apart_from_all x (y ∷ ys) out =
    by_test (eqb x y) (AllByRecursion (λ z. eqb x z ≡ false) (y ∷ ys))
    (λ same. absurd (out (rw same refl)))
    (λ differs. (differs, apart_from_all x ys (λ inside. out (rw differs inside))))

module _ (P : Cell → Type 0) (number other : Cell → ℕ) where
  -- numbers of k cells: those whose other numbers are below k
  record AreListed (k : ℕ) (xs : List ℕ) : Type 0 where
    long : length xs ≡ k
    differ : IsDistinct eqb xs
    from : (x : ℕ) → list_any (eqb x) xs ≡ true → (c : Cell) × P c × (number c ≡ x) × (other c < k)

  module _ (n m : ℕ) (some : AreNumbered P n number) (others : AreNumbered P m other) where
    listed : (k : ℕ) → k ≤ m → (xs : List ℕ) × AreListed k xs
    unfolding IsDistinct
    listed zero within = ([], record { long = refl; differ = tt; from = λ x inside. absurd (cc) })
    listed (suc k) within =
        let (xs, are) = listed k (omega (arith, within)) in
        let (c, holds, is) = others.each k (omega (arith, within)) in (
          number c ∷ xs,
          record {
            long = ap suc are.long;
            differ = (
              apart_from_all (number c) xs (λ inside.
                  let (d, holds', same, below) = are.from (number c) inside in
                  let places = ap other (some.apart d c holds' holds same) in
                  omega (arith, places, is, below)),
              are.differ,
            );
            from = λ x inside.
                by_test (eqb x (number c)) ((d : Cell) × P d × (number d ≡ x) × (other d < suc k))
                (λ same. (c, holds, sym (eqb-true x (number c) same), omega (arith, is)))
                (λ differs.
                let (d, holds', same, below) = are.from x (rw differs at inside) in
                (d, holds', same, omega (arith, below)));
          },
        )

    not_more : m ≤ n
    not_more =
        let (xs, are) = listed m (omega arith) in
        let few = length-le_from_distinct_below xs n are.differ (λ x inside.
        let (c, holds, is, below) = are.from x inside in
        let under = some.below c holds in
        omega (arith, is, under)) in
        omega (arith, few, are.long)

pub one_count_of_cells : (P : Cell → Type 0) (n m : ℕ) → IsCount P n → IsCount P m → n ≡ m
one_count_of_cells P n m (number, some) (other, others) =
    let most = not_more P number other n m some others in
    let least = not_more P other number m n others some in
    omega (arith, most, least)
