-- Column strokes, and the targets that are left.
use Rattle.std.proofs.Common.{◌≡◌, ℕ, zero, suc, ◌+◌, ◌-◌, ◌*◌, ◌<◌, ◌≤◌, ◌⊎◌, inl, inr, Bool, true, false, not, ◌&&◌, ◌||◌, Option, Some, None, List, [], ◌++◌, get_or, refl, sym, ap, ◌∙◌, subst, add-one, arith}
use Rattle.std.specs.Option.{is_some}
use Rattle.std.proofs.lemmas.Bool.{cases_lt, cond-true, cond-false, and_from, and_left, and_right}
use Rattle.std.proofs.lemmas.List.{append-nil}
use Rattle.std.proofs.lemmas.List.Folds.{list_any-append}
use Rattle.sn_clear.specs.declared.spot.Spot.{Spot}
use Rattle.sn_clear.specs.declared.spot.Run.{Run}
use Rattle.sn_clear.specs.Field.{Field, is_useful, holds, apart, spot_of}
use Rattle.sn_clear.specs.Columns.{first_found, or_else, centre_at, centre_in, column_for, covers, is_covered, is_open, with_column, with_columns_before, IsLeft}
use Rattle.sn_clear.proofs.DiscLemmas.{IsRoot, within_root, beyond_root, holds_near, holds_far, holds_beside}

-- The first that is found.

found-none : (found : ℕ → Option Spot) → first_found found zero ≡ None
unfolding first_found
found-none found = refl

found-next : (found : ℕ → Option Spot) (n : ℕ) → first_found found (suc n) ≡ or_else (first_found found n) (found n)
unfolding first_found
found-next found n = refl

pub none_found : (found : ℕ → Option Spot) (n : ℕ) → ((m : ℕ) → m < n → found m ≡ None) → first_found found n ≡ None
none_found found zero none = found-none found
none_found found (suc n) none =
    found-next found n ∙ rw (none_found found n (λ m below. none m (omega arith))) (none n (omega arith))

kept_found : (o second : Option Spot) → is_some o ≡ true → or_else o second ≡ o
kept_found (Some s) second some = refl
kept_found None second some = absurd (cc)

pub found_here : (found : ℕ → Option Spot) (n k : ℕ) → k < n → ((m : ℕ) → m < k → found m ≡ None) → is_some (found k) ≡ true
    → first_found found n ≡ found k
found_here found zero k below none some = absurd (omega arith)
found_here found (suc n) k below none some =
    elim (cases_lt k n) [
      | inl before ↦
          let so_far = found_here found n k before none some in
          found-next found n ∙ ap (λ o. or_else o (found n)) so_far ∙ kept_found (found k) (found n) some
      | inr reached ↦
          let same : k ≡ n = omega arith in
          let P : ℕ → Type 0 = λ i. ((m : ℕ) → m < i → found m ≡ None) in
          found-next found n ∙ rw (none_found found n (subst P same none)) (ap found (sym same))
    ]

some_or_else : (o second : Option Spot) (s : Spot) → or_else o second ≡ Some s → (o ≡ Some s) ⊎ ((o ≡ None) × (second ≡ Some s))
some_or_else (Some t) second s is = inl is
some_or_else None second s is = inr (refl, is)

-- where the first is found
pub where_found : (found : ℕ → Option Spot) (n : ℕ) (s : Spot) → first_found found n ≡ Some s → (k : ℕ) × (k < n) × (found k ≡ Some s)
where_found found zero s is = absurd (cc (found-none found))
where_found found (suc n) s is =
    elim (some_or_else (first_found found n) (found n) s (sym (found-next found n) ∙ is)) [
      | inl before ↦ let (k, below, here) = where_found found n s before in (k, omega (arith, below), here)
      | inr here ↦ (n, omega arith, here.1)
    ]

-- Centres whose disc holds a node.

pub centre_not_useful : (f : Field) (s : Spot) (column row : ℕ) → is_useful f (record { column = column; row = row }) ≡ false
    → centre_at f s column row ≡ None
centre_not_useful f s column row off = cond-false _ _ _ (and_left _ (holds f (record { column = column; row = row }) s) off)

pub centre_too_far : (f : Field) (s : Spot) (column row : ℕ) → holds f (record { column = column; row = row }) s ≡ false
    → centre_at f s column row ≡ None
centre_too_far f s column row off = cond-false _ _ _ (and_right (is_useful f (record { column = column; row = row })) _ off)

pub centre_is : (f : Field) (s : Spot) (column row : ℕ) → is_useful f (record { column = column; row = row }) ≡ true
    → holds f (record { column = column; row = row }) s ≡ true → centre_at f s column row ≡ Some (record { column = column; row = row })
centre_is f s column row useful near = cond-true _ _ _ (and_from _ _ useful near)

-- in a column the discs within the half height hold the node, and no others do
pub column_holds : (f : Field) (s : Spot) (column row across height : ℕ) → across ≡ apart column s.column → across * across ≤ f.reach
    → IsRoot (f.reach - across * across) height
    → (apart row s.row ≤ height → holds f (record { column = column; row = row }) s ≡ true)
    × (height < apart row s.row → holds f (record { column = column; row = row }) s ≡ false)
column_holds f s column row across height is near root =
    let square : across * across ≡ apart column s.column * apart column s.column = ap (λ n. n * n) is in (
      (λ within. let along = within_root _ _ _ root within in holds_near f (record { column = column; row = row }) s (omega (arith, along, near, square))),
      (λ beyond. let along = beyond_root _ _ _ root beyond in holds_far f (record { column = column; row = row }) s (omega (arith, along, near, square))),
    )

-- in a column too far away no disc holds the node
pub none_beside : (f : Field) (s : Spot) (column : ℕ) → f.reach < apart column s.column * apart column s.column → centre_in f s column ≡ None
none_beside f s column far =
    none_found (centre_at f s column) f.rows (λ row below. centre_too_far f s column row (holds_beside f (record { column = column; row = row }) s far))

pub none_far : (f : Field) (s : Spot) (column radius : ℕ) → IsRoot f.reach radius
    → (column + radius < s.column) ⊎ (s.column + radius < column) → centre_in f s column ≡ None
none_far f s column radius root far =
    let beyond : radius < apart column s.column = elim far [ inl before ↦ omega (arith, before) | inr after ↦ omega (arith, after) ] in
    none_beside f s column (beyond_root f.reach radius (apart column s.column) root beyond)

pub none_above : (f : Field) (s : Spot) (column row across height : ℕ) → across ≡ apart column s.column → across * across ≤ f.reach
    → IsRoot (f.reach - across * across) height → (row + height < s.row) ⊎ (s.row + height < row) → centre_at f s column row ≡ None
none_above f s column row across height is near root far =
    let beyond : height < apart row s.row = elim far [ inl before ↦ omega (arith, before) | inr after ↦ omega (arith, after) ] in
    centre_too_far f s column row ((column_holds f s column row across height is near root).1 beyond)

-- What is left.

left_of_both : (t a b : Bool) → ((t && not a) && not b) ≡ (t && not (a || b))
left_of_both true true b = refl
left_of_both true false b = refl
left_of_both false a b = refl

pub left_after : (f : Field) (targets old new : List Bool) (strokes part all : List Run) → IsLeft f targets old strokes → all ≡ strokes ++ part
    → ((k : ℕ) → k < f.columns * f.rows → get_or new k false ≡ (get_or old k false && not (is_covered f part (spot_of f k))))
    → IsLeft f targets new all
left_after f targets old new strokes part all left is taken_away = record {
  open_targets = λ k below.
      taken_away k below
      ∙ ap (λ b. b && not (is_covered f part (spot_of f k))) (left.open_targets k below)
      ∙ left_of_both (get_or targets k false) (is_covered f strokes (spot_of f k)) (is_covered f part (spot_of f k))
      ∙ ap (λ b. get_or targets k false && not b)
      (sym (list_any-append (λ run. covers f run (spot_of f k)) strokes part) ∙ ap (λ xs. is_covered f xs (spot_of f k)) (sym is));
}

pub columns-none : (f : Field) (targets : List Bool) (strokes : List Run) → with_columns_before f targets strokes 0 ≡ strokes
unfolding with_columns_before
columns-none f targets strokes = refl

pub columns-next : (f : Field) (targets : List Bool) (strokes : List Run) (n : ℕ)
    → with_columns_before f targets strokes (n + 1) ≡ with_column f targets (with_columns_before f targets strokes n) n
unfolding with_columns_before
columns-next f targets strokes n = ap (with_columns_before f targets strokes) (add-one n)

-- the list so far, and what is left beside it
pub record IsMade (f : Field) (targets left : List Bool) (first strokes : List Run) (n : ℕ) : Type 0 where
  pub made : strokes ≡ with_columns_before f targets first n
  pub is_left : IsLeft f targets left strokes

pub column_added : (f : Field) (targets old new : List Bool) (first strokes all : List Run) (n : ℕ) → n < f.columns * f.rows
    → IsMade f targets old first strokes n → get_or old n false ≡ true → all ≡ strokes ++ column_for f (spot_of f n)
    → ((k : ℕ) → k < f.columns * f.rows → get_or new k false ≡ (get_or old k false && not (is_covered f (column_for f (spot_of f n)) (spot_of f k))))
    → IsMade f targets new first all (n + 1)
column_added f targets old new first strokes all n below so_far on more taken_away =
    let is_open_here : is_open f targets strokes n ≡ true = sym (so_far.is_left.open_targets n below) ∙ on in
    record {
      made = more
          ∙ ap (λ xs. strokes ++ xs) (sym (cond-true (is_open f targets strokes n) (column_for f (spot_of f n)) [] is_open_here))
          ∙ ap (λ xs. with_column f targets xs n) so_far.made
          ∙ sym (columns-next f targets first n);
      is_left = left_after f targets old new strokes (column_for f (spot_of f n)) all so_far.is_left more taken_away;
    }

pub column_passed : (f : Field) (targets left : List Bool) (first strokes : List Run) (n : ℕ) → n < f.columns * f.rows
    → IsMade f targets left first strokes n → get_or left n false ≡ false → IsMade f targets left first strokes (n + 1)
column_passed f targets left first strokes n below so_far off =
    let is_closed : is_open f targets strokes n ≡ false = sym (so_far.is_left.open_targets n below) ∙ off in
    record {
      made = sym (append-nil strokes)
          ∙ ap (λ xs. strokes ++ xs) (sym (cond-false (is_open f targets strokes n) (column_for f (spot_of f n)) [] is_closed))
          ∙ ap (λ xs. with_column f targets xs n) so_far.made
          ∙ sym (columns-next f targets first n);
      is_left = so_far.is_left;
    }
