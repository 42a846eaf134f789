-- The columns are the description's, and one list of strokes is thrifty.
use Rattle.std.proofs.Common.{◌≡◌, ◌↔◌, ℕ, zero, suc, ◌+◌, ◌-◌, ◌*◌, ◌<◌, ◌≤◌, ◌⊎◌, inl, inr, Bool, true, false, cond, not, ◌||◌, Option, Some, None, List, [], ◌∷◌, ◌++◌, IsTrue, refl, sym, ap, ◌∙◌, subst, add-one, arith}
use Rattle.std.specs.Option.{is_some}
use Rattle.std.proofs.lemmas.Bool.{cases_lt, cases_order, and_parts, and_from, or_left, or_right, both_ways}
use Rattle.std.proofs.lemmas.List.{append_assoc, append-nil}
use Rattle.std.proofs.lemmas.List.Folds.{list_any-append}
use Rattle.sn_clear.specs.declared.spot.Spot.{Spot}
use Rattle.sn_clear.specs.declared.spot.Run.{Run}
use Rattle.sn_clear.specs.declared.spot.Line.TheVariants.{Up}
use Rattle.sn_clear.specs.Places.{run_start}
use Rattle.sn_clear.specs.Field.{Field, IsSpot, is_useful, spot_of}
use Rattle.sn_clear.specs.Runs.{is_useful_on, end_on, run_between}
use Rattle.sn_clear.specs.Rows.{sweep}
use Rattle.sn_clear.specs.Columns.{covers, is_covered, first_found, centre_at, centre_in, centre_for, column_through, columns_through, column_for, is_open, with_columns_before}
use Rattle.sn_clear.specs.Thrift.{IsMaximalRun, IsOpen, IsFirstOpen, IsHolder, IsFirstHolder, IsNextColumn, AreNextColumns}
use Rattle.sn_clear.specs.StrokeLaws.{EachTargetIsHeld, StrokesAreThrifty, OneListIsThrifty, ColumnsCoverOpenTargets}
use Rattle.sn_clear.proofs.ColumnLemmas.{found_here, where_found, columns-none, columns-next, centre_is}
use Rattle.sn_clear.proofs.CoverLemmas.{covers_is}
use Rattle.sn_clear.proofs.LieLemmas.{start_gives, end_gives, centre_found}
use Rattle.sn_clear.proofs.ThriftRows.{sweep_is_described, one_sweep}

off : (b : Bool) → b ≡ false → ¬ IsTrue b
off b is on = both_ways b is on

-- Open targets.

pub open_is : (f : Field) (targets : List Bool) (strokes : List Run) (k : ℕ) → k < f.columns * f.rows
    → (is_open f targets strokes k ≡ true) ↔ IsOpen f targets strokes k
open_is f targets strokes k below = (
  (λ on.
      let parts = and_parts _ _ on in
      record { inside = below; target = parts.0; uncovered = λ covered. off (not (is_covered f strokes (spot_of f k))) (turned _ covered) parts.1 }),
  (λ is. and_from _ _ is.target (flipped _ is.uncovered)),
)
  where
    turned : (b : Bool) → b ≡ true → not b ≡ false
    turned true on = refl
    turned false on = absurd (both_ways false refl on)

    flipped : (b : Bool) → ¬ IsTrue b → not b ≡ true
    flipped true never = absurd (never refl)
    flipped false never = refl

covered-append : (f : Field) (xs ys : List Run) (s : Spot) → is_covered f (xs ++ ys) s ≡ (is_covered f xs s || is_covered f ys s)
covered-append f xs ys s = list_any-append (λ run. covers f run s) xs ys

-- what is open after more strokes was open before
pub still_open : (f : Field) (targets : List Bool) (xs ys : List Run) (k : ℕ) → IsOpen f targets (xs ++ ys) k → IsOpen f targets xs k
still_open f targets xs ys k is = record {
  inside = is.inside;
  target = is.target;
  uncovered = λ covered. is.uncovered (covered-append f xs ys (spot_of f k) ∙ or_left _ _ covered);
}

-- The first holder.

none_or_some : (o : Option Spot) → (o ≡ None) ⊎ (is_some o ≡ true)
none_or_some None = inl refl
none_or_some (Some t) = inr refl

-- the first place before n where something is found, if there is one
pub first_place : (found : ℕ → Option Spot) (n : ℕ)
    → ((j : ℕ) × (j < n) × (is_some (found j) ≡ true) × ((m : ℕ) → m < j → found m ≡ None)) ⊎ ((m : ℕ) → m < n → found m ≡ None)
first_place found zero = inr (λ m below. absurd (omega (arith, below)))
first_place found (suc n) =
    elim (first_place found n) [
      | inl (j, below, some, none) ↦ inl (j, omega (arith, below), some, none)
      | inr none ↦
          elim (none_or_some (found n)) [
            | inl here ↦
                inr (λ m below. elim (cases_lt m n) [
                  | inl before ↦ none m before
                  | inr last ↦ let same : m ≡ n = omega (arith, last, below) in ap found same ∙ here
                ])
            | inr some ↦ inl (n, omega arith, some, none)
          ]
    ]

-- where something is found at a place, the first is found at it or before it
pub found_first : (found : ℕ → Option Spot) (n k : ℕ) → k < n → is_some (found k) ≡ true
    → (j : ℕ) × (j ≤ k) × (is_some (found j) ≡ true) × (first_found found n ≡ found j)
found_first found n k below some =
    elim (first_place found n) [
      | inl (j, inside, here, none) ↦
          elim (cases_lt k j) [
            | inl before ↦ absurd (some_and_none (found k) some (none k before))
            | inr reached ↦ (j, reached, here, found_here found n j inside none here)
          ]
      | inr none ↦ absurd (some_and_none (found k) some (none k below))
    ]
  where
    some_and_none : (o : Option Spot) → is_some o ≡ true → o ≡ None → ⊥
    some_and_none None some is = both_ways false refl some
    some_and_none (Some t) some is = cc

centre_spot : (f : Field) (s c : Spot) (column row : ℕ) → centre_at f s column row ≡ Some c → (c.column ≡ column) × (c.row ≡ row)
centre_spot f s c column row is = spot_of_cond _ (record { column = column; row = row }) c is
  where
    spot_of_cond : (b : Bool) (t c : Spot) → cond b (Some t) None ≡ Some c → (c.column ≡ t.column) × (c.row ≡ t.row)
    spot_of_cond true t c is = let same : t ≡ c = cc in (ap (λ x. x.column) (sym same), ap (λ x. x.row) (sym same))
    spot_of_cond false t c is = absurd (cc)

centre_row : (f : Field) (s c : Spot) (column : ℕ) → centre_in f s column ≡ Some c → c.column ≡ column
centre_row f s c column is = let (row, below, at) = where_found (centre_at f s column) f.rows c is in (centre_spot f s c column row at).0

pub holder_is_first : (f : Field) (s c : Spot) → centre_for f s ≡ Some c → IsFirstHolder f s c
holder_is_first f s c is =
    let found = centre_found f s c is in
    record {
      holder = record { inside = found.inside; useful = found.useful; near = found.near };
      first = λ other holder.
          let at = centre_is f s other.column other.row holder.useful holder.near in
          let (row, low_row, some_row, in_column) = found_first (centre_at f s other.column) f.rows other.row holder.inside.row (ap is_some at) in
          let some_column : is_some (centre_in f s other.column) ≡ true = ap is_some in_column ∙ some_row in
          let (column, low_column, some, first) = found_first (centre_in f s) f.columns other.column holder.inside.column some_column in
          let here : centre_in f s column ≡ Some c = sym first ∙ is in
          let is_column = centre_row f s c column here in
          elim (cases_lt c.column other.column) [
            | inl less ↦ inl less
            | inr reached ↦
                let same : column ≡ other.column = omega (arith, is_column, reached, low_column) in
                let there : centre_at f s other.column row ≡ Some c = sym in_column ∙ ap (centre_in f s) (sym same) ∙ here in
                inr (omega (arith, is_column, same), omega (arith, (centre_spot f s c other.column row there).1, low_row))
          ];
    }

pub some_centre : (f : Field) (s c : Spot) → IsHolder f s c → (t : Spot) × (centre_for f s ≡ Some t)
some_centre f s c holder =
    let at = centre_is f s c.column c.row holder.useful holder.near in
    let (row, low_row, some_row, in_column) = found_first (centre_at f s c.column) f.rows c.row holder.inside.row (ap is_some at) in
    let (column, low, some, first) = found_first (centre_in f s) f.columns c.column holder.inside.column (ap is_some in_column ∙ some_row) in
    which (centre_for f s) (ap is_some first ∙ some)
  where
    which : (o : Option Spot) → is_some o ≡ true → (t : Spot) × (o ≡ Some t)
    which None some = absurd (both_ways false refl some)
    which (Some t) some = (t, refl)

-- The next column.

pub through_maximal : (f : Field) (c : Spot) → IsSpot f c → is_useful f c ≡ true
    → let p = is_useful_on f (Up c.column) in IsMaximalRun f (Up c.column) (run_start p c.row) (end_on f (Up c.column) c.row)
through_maximal f c inside on =
    let p = is_useful_on f (Up c.column) in
    let starts = start_gives p c.row in
    let ends = end_gives p f.rows c.row inside.row in
    record {
      order = omega (arith, starts.before, ends.after);
      within = ends.within;
      useful = λ m low high. elim (cases_lt m c.row) [
        | inl before ↦ starts.pass.pass m low before
        | inr from ↦ elim (cases_lt c.row m) [
          | inl after ↦ ends.pass.pass m (omega (arith, after)) (omega (arith, high))
          | inr same ↦ let here : m ≡ c.row = omega (arith, from, same) in ap p here ∙ on
        ]
      ];
      before = λ m next. off (p m) (starts.stops m next);
      after = λ more. off (p (end_on f (Up c.column) c.row + 1)) (ends.stops more);
    }

pub next_column : (f : Field) (targets : List Bool) (strokes : List Run) (k : ℕ) (c : Spot) → IsFirstOpen f targets strokes k
    → centre_for f (spot_of f k) ≡ Some c → IsNextColumn f targets strokes (column_through f c)
next_column f targets strokes k c first is =
    let found = centre_found f (spot_of f k) c is in
    let p = is_useful_on f (Up c.column) in
    record {
      target = k;
      open_first = first;
      centre = c;
      holder = holder_is_first f (spot_of f k) c is;
      from = run_start p c.row;
      to = end_on f (Up c.column) c.row;
      maximal = through_maximal f c found.inside found.useful;
      through = ((start_gives p c.row).before, (end_gives p f.rows c.row found.inside.row).after);
      is = refl;
    }

pub through_covers : (f : Field) (s c : Spot) → centre_for f s ≡ Some c → covers f (column_through f c) s ≡ true
through_covers f s c is =
    let found = centre_found f s c is in
    let p = is_useful_on f (Up c.column) in
    let starts = start_gives p c.row in
    let ends = end_gives p f.rows c.row found.inside.row in
    (covers_is f (column_through f c) s).1 (
      c,
      record {
        column_from = omega arith;
        column_to = omega arith;
        row_from = omega (arith, starts.before);
        row_to = omega (arith, ends.after);
      },
      found.near,
    )

-- a column covers its target
pub covers_target : (f : Field) (targets : List Bool) (strokes : List Run) (run : Run) (next : IsNextColumn f targets strokes run)
    → covers f run (spot_of f next.target) ≡ true
covers_target f targets strokes run next =
    let c = next.centre in
    let P : Run → Type 0 = λ r. covers f r (spot_of f next.target) ≡ true in
    subst P (sym next.is) ((covers_is f (run_between f (Up c.column) next.from next.to) (spot_of f next.target)).1 (
      c,
      record {
        column_from = omega arith;
        column_to = omega arith;
        row_from = omega (arith, next.through.0);
        row_to = omega (arith, next.through.1);
      },
      next.holder.holder.near,
    ))

pub columns_cover : ColumnsCoverOpenTargets
columns_cover f targets strokes run next = (next.target, next.open_first.is_open, covers_target f targets strokes run next)

-- Columns one after the other.

pub next_pushed : (f : Field) (targets : List Bool) (strokes columns : List Run) (run : Run) → AreNextColumns f targets strokes columns
    → IsNextColumn f targets (strokes ++ columns) run → AreNextColumns f targets strokes (columns ++ run ∷ [])
next_pushed f targets strokes [] run are next =
    let P : List Run → Type 0 = λ xs. IsNextColumn f targets xs run in
    (subst P (append-nil strokes) next, tt)
next_pushed f targets strokes (first ∷ rest) run are next =
    let P : List Run → Type 0 = λ xs. IsNextColumn f targets xs run in (
      are.0,
      next_pushed f targets (strokes ++ first ∷ []) rest run are.1 (subst P (sym (append_assoc strokes (first ∷ []) rest)) next),
    )

-- the columns for the first n nodes: each is the next, and no target of these nodes is open after them
pub record AreFirst (f : Field) (targets : List Bool) (strokes made : List Run) (n : ℕ) : Type 0 where
  pub columns : List Run
  pub whole : made ≡ strokes ++ columns
  pub each : AreNextColumns f targets strokes columns
  pub none_open : (k : ℕ) → k < n → ¬ IsOpen f targets made k

pub columns_are_next : (f : Field) (targets : List Bool) (strokes : List Run) (n : ℕ) → n ≤ f.columns * f.rows → EachTargetIsHeld f targets
    → AreFirst f targets strokes (with_columns_before f targets strokes n) n
columns_are_next f targets strokes zero small held = record {
  columns = [];
  whole = columns-none f targets strokes ∙ sym (append-nil strokes);
  each = tt;
  none_open = λ k below. absurd (omega (arith, below));
}
columns_are_next f targets strokes (suc n) small held =
    let made = with_columns_before f targets strokes n in
    let so_far = columns_are_next f targets strokes n (omega (arith, small)) held in
    let b = is_open f targets made n in
    let next : with_columns_before f targets strokes (suc n) ≡ made ++ cond b (column_for f (spot_of f n)) [] =
    ap (with_columns_before f targets strokes) (sym (add-one n)) ∙ columns-next f targets strokes n in
    let P : List Run → Type 0 = λ xs. AreFirst f targets strokes xs (suc n) in
    subst P (sym next) (step f targets strokes made n (omega (arith, small)) held so_far b refl)
  where
    last_or_before : (P : ℕ → Type 0) (n : ℕ) → ((k : ℕ) → k < n → P k) → P n → (k : ℕ) → k < suc n → P k
    last_or_before P n earlier here k below = elim (cases_lt k n) [
      | inl before ↦ earlier k before
      | inr last ↦ subst P (omega (arith, last, below)) here
    ]

    added : (f : Field) (targets : List Bool) (strokes made : List Run) (n : ℕ) (c : Spot) → IsOpen f targets made n → AreFirst f targets strokes made n
        → centre_for f (spot_of f n) ≡ Some c → AreFirst f targets strokes (made ++ column_through f c ∷ []) (suc n)
    added f targets strokes made n c is_open_here so_far is =
        let run = column_through f c in
        let nearest = next_column f targets made n c (record { is_open = is_open_here; first = so_far.none_open }) is in
        let Q : List Run → Type 0 = λ xs. IsNextColumn f targets xs run in
        record {
          columns = so_far.columns ++ run ∷ [];
          whole = ap (λ xs. xs ++ run ∷ []) so_far.whole ∙ append_assoc strokes so_far.columns (run ∷ []);
          each = next_pushed f targets strokes so_far.columns run so_far.each (subst Q so_far.whole nearest);
          none_open = last_or_before (λ k. ¬ IsOpen f targets (made ++ run ∷ []) k) n
              (λ k before is_open_after. so_far.none_open k before (still_open f targets made (run ∷ []) k is_open_after))
              (λ is_open_after. is_open_after.uncovered
              (covered-append f made (run ∷ []) (spot_of f n) ∙ or_right _ _ (or_left _ _ (through_covers f (spot_of f n) c is))));
        }

    step : (f : Field) (targets : List Bool) (strokes made : List Run) (n : ℕ) → n < f.columns * f.rows → EachTargetIsHeld f targets
        → AreFirst f targets strokes made n
        → (b : Bool) → b ≡ is_open f targets made n → AreFirst f targets strokes (made ++ cond b (column_for f (spot_of f n)) []) (suc n)
    step f targets strokes made n below held so_far false is =
        let P : List Run → Type 0 = λ xs. AreFirst f targets strokes xs (suc n) in
        subst P (sym (append-nil made)) (record {
          columns = so_far.columns;
          whole = so_far.whole;
          each = so_far.each;
          none_open = last_or_before (λ k. ¬ IsOpen f targets made k) n so_far.none_open
              (λ is_open_here. both_ways (is_open f targets made n) (sym is) ((open_is f targets made n below).1 is_open_here));
        })
    step f targets strokes made n below held so_far true is =
        let is_open_here = (open_is f targets made n below).0 (sym is) in
        let (holder, holds_it) = held n below is_open_here.target in
        let (c, found) = some_centre f (spot_of f n) holder holds_it in
        let P : List Run → Type 0 = λ xs. AreFirst f targets strokes (made ++ xs) (suc n) in
        subst P (ap (columns_through f) (sym found)) (added f targets strokes made n c is_open_here so_far found)

pub strokes_are_thrifty : StrokesAreThrifty
strokes_are_thrifty f every targets held =
    let rows = sweep f every in
    let all = columns_are_next f targets rows (f.columns * f.rows) (omega arith) held in
    record {
      rows = rows;
      columns = all.columns;
      are_rows = sweep_is_described f every;
      are_columns = all.each;
      whole = all.whole;
      none_open = λ k is. all.none_open k is.inside is;
    }

-- One list is thrifty.

one_target : (f : Field) (targets : List Bool) (strokes : List Run) (a b : ℕ) → IsFirstOpen f targets strokes a → IsFirstOpen f targets strokes b → a ≡ b
one_target f targets strokes a b first second =
    elim (cases_order a b) [
      | inl same ↦ same
      | inr apart ↦ elim apart [
        | inl less ↦ absurd (second.first a less first.is_open)
        | inr more ↦ absurd (first.first b more second.is_open)
      ]
    ]

one_holder : (f : Field) (s a b : Spot) → IsFirstHolder f s a → IsFirstHolder f s b → a ≡ b
one_holder f s a b first second =
    let column : a.column ≡ b.column = sides a b (first.first b second.holder) (second.first a first.holder) in
    let row : a.row ≡ b.row = levels a b (first.first b second.holder) (second.first a first.holder) in
    λ k. record { column = column k; row = row k }
  where
    sides : (a b : Spot) → (a.column < b.column) ⊎ ((a.column ≡ b.column) × (a.row ≤ b.row)) → (b.column < a.column) ⊎ ((b.column ≡ a.column) × (b.row ≤ a.row))
        → a.column ≡ b.column
    sides a b (inl less) (inl more) = absurd (omega (arith, less, more))
    sides a b (inl less) (inr (same, low)) = absurd (omega (arith, less, same))
    sides a b (inr (same, low)) other = same

    levels : (a b : Spot) → (a.column < b.column) ⊎ ((a.column ≡ b.column) × (a.row ≤ b.row)) → (b.column < a.column) ⊎ ((b.column ≡ a.column) × (b.row ≤ a.row))
        → a.row ≡ b.row
    levels a b (inl less) (inl more) = absurd (omega (arith, less, more))
    levels a b (inl less) (inr (same, low)) = absurd (omega (arith, less, same))
    levels a b (inr (same, low)) (inl more) = absurd (omega (arith, more, same))
    levels a b (inr (same, low)) (inr (same', low')) = omega (arith, low, low')

-- maximal runs of a line that share a place are one
one_run : (f : Field) (column from to from' to' k : ℕ) → IsMaximalRun f (Up column) from to → IsMaximalRun f (Up column) from' to'
    → from ≤ k → k ≤ to → from' ≤ k → k ≤ to' → (from ≡ from') × (to ≡ to')
one_run f column from to from' to' k a b low high low' high' = (
  elim (cases_order from from') [
    | inl same ↦ same
    | inr apart ↦ elim apart [
      | inl less ↦ absurd (b.before (from' - 1) (omega (arith, less)) (a.useful (from' - 1) (omega (arith, less)) (omega (arith, low', high))))
      | inr more ↦ absurd (a.before (from - 1) (omega (arith, more)) (b.useful (from - 1) (omega (arith, more)) (omega (arith, low, high'))))
    ]
  ],
  elim (cases_order to to') [
    | inl same ↦ same
    | inr apart ↦ elim apart [
      | inl less ↦ absurd (a.after (omega (arith, less, b.within)) (b.useful (to + 1) (omega (arith, low', high)) (omega (arith, less))))
      | inr more ↦ absurd (b.after (omega (arith, more, a.within)) (a.useful (to' + 1) (omega (arith, low, high')) (omega (arith, more))))
    ]
  ],
)

one_column : (f : Field) (targets : List Bool) (strokes : List Run) (x y : Run) → IsNextColumn f targets strokes x → IsNextColumn f targets strokes y → x ≡ y
one_column f targets strokes x y a b =
    let target = one_target f targets strokes a.target b.target a.open_first b.open_first in
    let P : ℕ → Type 0 = λ k. IsFirstHolder f (spot_of f k) b.centre in
    let centre : a.centre ≡ b.centre = one_holder f (spot_of f a.target) a.centre b.centre a.holder (subst P (sym target) b.holder) in
    let Q : Spot → Type 0 = λ c. IsMaximalRun f (Up c.column) b.from b.to in
    let R : Spot → Type 0 = λ c. (b.from ≤ c.row) × (c.row ≤ b.to) in
    let through : (b.from ≤ a.centre.row) × (a.centre.row ≤ b.to) = subst R (sym centre) b.through in
    let ends = one_run f a.centre.column a.from a.to b.from b.to a.centre.row a.maximal (subst Q (sym centre) b.maximal) a.through.0 a.through.1 through.0 through.1 in
    a.is ∙ ap (λ c. run_between f (Up c.column) a.from a.to) centre
    ∙ ap (λ from. run_between f (Up b.centre.column) from a.to) ends.0
    ∙ ap (λ to. run_between f (Up b.centre.column) b.from to) ends.1
    ∙ sym b.is

pub one_list_of_columns : (f : Field) (targets : List Bool) (strokes xs ys : List Run) → AreNextColumns f targets strokes xs → AreNextColumns f targets strokes ys
    → ((k : ℕ) → ¬ IsOpen f targets (strokes ++ xs) k) → ((k : ℕ) → ¬ IsOpen f targets (strokes ++ ys) k) → xs ≡ ys
one_list_of_columns f targets strokes [] [] a b first second = refl
one_list_of_columns f targets strokes [] (y ∷ ys) a b first second =
    let P : List Run → Type 0 = λ all. IsOpen f targets all b.0.target in
    absurd (first b.0.target (subst P (sym (append-nil strokes)) b.0.open_first.is_open))
one_list_of_columns f targets strokes (x ∷ xs) [] a b first second =
    let P : List Run → Type 0 = λ all. IsOpen f targets all a.0.target in
    absurd (second a.0.target (subst P (sym (append-nil strokes)) a.0.open_first.is_open))
one_list_of_columns f targets strokes (x ∷ xs) (y ∷ ys) a b first second =
    let same = one_column f targets strokes x y a.0 b.0 in
    let P : Run → Type 0 = λ r. AreNextColumns f targets (strokes ++ r ∷ []) ys in
    let Q : Run → Type 0 = λ r. ((k : ℕ) → ¬ IsOpen f targets (strokes ++ r ∷ ys) k) in
    let rest = one_list_of_columns f targets (strokes ++ x ∷ []) xs ys a.1 (subst P (sym same) b.1)
    (λ k is. first k (moved f targets strokes x xs k is))
    (λ k is. (subst Q (sym same) second) k (moved f targets strokes x ys k is)) in
    λ k. same k ∷ rest k
  where
    moved : (f : Field) (targets : List Bool) (strokes : List Run) (x : Run) (xs : List Run) (k : ℕ)
        → IsOpen f targets ((strokes ++ x ∷ []) ++ xs) k → IsOpen f targets (strokes ++ x ∷ xs) k
    moved f targets strokes x xs k is = let P : List Run → Type 0 = λ all. IsOpen f targets all k in subst P (append_assoc strokes (x ∷ []) xs) is

pub one_list_is_thrifty : OneListIsThrifty
one_list_is_thrifty f every targets a b first second =
    let rows = one_sweep f every first.rows second.rows first.are_rows second.are_rows in
    let P : List Run → Type 0 = λ rs. AreNextColumns f targets rs second.columns in
    let E : List Run → Type 0 = λ all. ((k : ℕ) → ¬ IsOpen f targets all k) in
    let whole : b ≡ first.rows ++ second.columns = second.whole ∙ ap (λ rs. rs ++ second.columns) (sym rows) in
    let columns = one_list_of_columns f targets first.rows first.columns second.columns first.are_columns (subst P (sym rows) second.are_columns)
    (subst E first.whole first.none_open) (subst E whole second.none_open) in
    first.whole ∙ ap (λ cs. first.rows ++ cs) columns ∙ sym whole
