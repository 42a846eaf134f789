-- Strokes lie on useful centres.
use Rattle.std.proofs.Common.{◌≡◌, ℕ, zero, suc, ◌+◌, ◌-◌, ◌*◌, ◌%◌, ◌<◌, ◌≤◌, ◌⊎◌, inl, inr, nat_eq, Bool, true, false, cond, Option, Some, None, List, [], ◌∷◌, ◌++◌, refl, sym, ap, ◌∙◌, subst, add-one, arith}
use Rattle.std.specs.List.{All}
use Rattle.std.proofs.lemmas.Bool.{cases_lt, cases_Bool, cond-true, cond-false, and_parts}
use Rattle.std.proofs.lemmas.List.Elements.{All-append, All-cons}
use Rattle.sn_clear.specs.declared.spot.Spot.{Spot}
use Rattle.sn_clear.specs.declared.spot.Run.{Run}
use Rattle.sn_clear.specs.declared.spot.Line.{Line}
use Rattle.sn_clear.specs.declared.spot.Line.TheVariants.{Rising, Falling, Up}
use Rattle.sn_clear.specs.Places.{begins, run_start, run_end}
use Rattle.sn_clear.specs.Field.{Field, IsSpot, is_useful, holds, spot_of}
use Rattle.sn_clear.specs.Runs.{IsLine, places_on, spot_on, is_useful_on, end_on, run_between, runs_before, runs_on}
use Rattle.sn_clear.specs.Rows.{sweep, sweep_before, is_selected, line_at, row_place}
use Rattle.sn_clear.specs.Columns.{IsCentreOf, centre_at, centre_in, centre_for, column_through, columns_through, column_for, is_open, with_column, with_columns, with_columns_before}
use Rattle.sn_clear.specs.StrokeLaws.{IsUsefulRun, StrokesLieOnUsefulCentres}
use Rattle.sn_clear.proofs.PlaceLemmas.{AllPass, IsStart, IsEnd, start-none, start-next, end-none, end-next}
use Rattle.sn_clear.proofs.RunLemmas.{runs-none, runs-next}
use Rattle.sn_clear.proofs.RowLemmas.{sweep-none, sweep-next}
use Rattle.sn_clear.proofs.ColumnLemmas.{where_found, columns-none, columns-next}

-- Runs of places.

pub start_gives : (p : ℕ → Bool) (k : ℕ) → IsStart p k (run_start p k)
start_gives p zero = record {
  before = omega (arith, start-none p);
  pass = record { pass = λ m low high. absurd (omega (arith, high)) };
  stops = λ m next. absurd (omega (arith, next, start-none p));
}
start_gives p (suc k) =
    elim (cases_Bool (p k)) [
      | inl on ↦
          let earlier = start_gives p k in
          let same : run_start p k ≡ run_start p (suc k) = sym (start-next p k ∙ cond-true (p k) _ _ on) in
          let P : ℕ → Type 0 = λ s. IsStart p (suc k) s in
          subst P same (record {
            before = omega (arith, earlier.before);
            pass = record {
              pass = λ m low high. elim (cases_lt m k) [
                | inl below ↦ earlier.pass.pass m low below
                | inr last ↦ let here : m ≡ k = omega (arith, last, high) in ap p here ∙ on
              ];
            };
            stops = earlier.stops;
          })
      | inr off ↦
          let same : suc k ≡ run_start p (suc k) = sym (start-next p k ∙ cond-false (p k) _ _ off) in
          let P : ℕ → Type 0 = λ s. IsStart p (suc k) s in
          subst P same (record {
            before = omega arith;
            pass = record { pass = λ m low high. absurd (omega (arith, low, high)) };
            stops = λ m next. let here : m ≡ k = omega (arith, next) in ap p here ∙ off;
          })
    ]

-- the places that a run goes on over
record GoesOn (p : ℕ → Bool) (k m e : ℕ) : Type 0 where
  after : k ≤ e
  within : e ≤ k + m
  pass : AllPass p (k + 1) (e + 1)
  stops : e < k + m → p (e + 1) ≡ false

end_goes : (p : ℕ → Bool) (m k : ℕ) → GoesOn p k m (run_end p k m)
end_goes p zero k =
    let P : ℕ → Type 0 = λ e. GoesOn p k zero e in
    subst P (sym (end-none p k)) (record {
      after = omega arith;
      within = omega arith;
      pass = record { pass = λ i low high. absurd (omega (arith, low, high)) };
      stops = λ more. absurd (omega (arith, more));
    })
end_goes p (suc m) k =
    let P : ℕ → Type 0 = λ e. GoesOn p k (suc m) e in
    elim (cases_Bool (p (suc k))) [
      | inl on ↦
          let later = end_goes p m (suc k) in
          let same : run_end p (suc k) m ≡ run_end p k (suc m) = sym (end-next p k m ∙ cond-true (p (suc k)) _ _ on) in
          subst P same (record {
            after = omega (arith, later.after);
            within = omega (arith, later.within);
            pass = record {
              pass = λ i low high. elim (cases_lt (suc k) i) [
                | inl above ↦ later.pass.pass i (omega (arith, above)) high
                | inr first ↦ let here : i ≡ suc k = omega (arith, first, low) in ap p here ∙ on
              ];
            };
            stops = λ more. later.stops (omega (arith, more));
          })
      | inr off ↦
          let same : k ≡ run_end p k (suc m) = sym (end-next p k m ∙ cond-false (p (suc k)) _ _ off) in
          subst P same (record {
            after = omega arith;
            within = omega arith;
            pass = record { pass = λ i low high. absurd (omega (arith, low, high)) };
            stops = λ more. let next : k + 1 ≡ suc k = add-one k in ap p next ∙ off;
          })
    ]

pub end_gives : (p : ℕ → Bool) (n k : ℕ) → k < n → IsEnd p n k (run_end p k (n - 1 - k))
end_gives p n k below =
    let goes = end_goes p (n - 1 - k) k in
    record {
      after = goes.after;
      within = omega (arith, goes.within, below);
      pass = goes.pass;
      stops = λ more. goes.stops (omega (arith, more, below));
    }

pub begins_there : (p : ℕ → Bool) (k : ℕ) → begins p k ≡ true → p k ≡ true
begins_there p zero on = on
begins_there p (suc k) on = (and_parts _ _ on).0

-- Runs on a line.

pub on_line : (f : Field) (line : Line) (k : ℕ) → IsLine f line → k < places_on f line → IsSpot f (spot_on f line k)
on_line f (Rising row) k inside below = record { column = below; row = inside }
on_line f (Falling row) k inside below = record { column = omega (arith, below); row = inside }
on_line f (Up column) k inside below = record { column = inside; row = below }

one_spot : (s t : Spot) → s.column ≡ t.column → s.row ≡ t.row → s ≡ t
one_spot s t column row = λ k. record { column = column k; row = row k }

-- a centre of a stroke on a line is at a place between its ends
pub place_of_centre : (f : Field) (line : Line) (from to : ℕ) (c : Spot) → from ≤ to → to < places_on f line → IsCentreOf (run_between f line from to) c
    → (m : ℕ) × (from ≤ m) × (m ≤ to) × (c ≡ spot_on f line m)
place_of_centre f (Rising row) from to c order below centre = (
  c.column,
  omega (arith, centre.column_from, order),
  omega (arith, centre.column_to, order),
  one_spot c _ refl (omega (arith, centre.row_from, centre.row_to)),
)
place_of_centre f (Falling row) from to c order below centre = (
  f.columns - 1 - c.column,
  omega (arith, centre.column_to, order, below),
  omega (arith, centre.column_from, order, below),
  one_spot c _ (omega (arith, centre.column_to, order, below)) (omega (arith, centre.row_from, centre.row_to)),
)
place_of_centre f (Up column) from to c order below centre = (
  c.row,
  omega (arith, centre.row_from, order),
  omega (arith, centre.row_to, order),
  one_spot c _ (omega (arith, centre.column_from, centre.column_to)) refl,
)

line_is_straight : (f : Field) (line : Line) (from to : ℕ)
    → let run = run_between f line from to in (run.from.row ≡ run.to.row) ⊎ (run.from.column ≡ run.to.column)
line_is_straight f (Rising row) from to = inl refl
line_is_straight f (Falling row) from to = inl refl
line_is_straight f (Up column) from to = inr refl

pub useful_between : (f : Field) (line : Line) (from to : ℕ) → IsLine f line → from ≤ to → to < places_on f line
    → AllPass (is_useful_on f line) from (to + 1) → IsUsefulRun f (run_between f line from to)
useful_between f line from to inside order below pass = record {
  from = on_line f line from inside (omega (arith, order, below));
  to = on_line f line to inside below;
  straight = line_is_straight f line from to;
  centres = λ c centre.
      let (m, low, high, is) = place_of_centre f line from to c order below centre in
      ap (λ s. is_useful f s) is ∙ pass.pass m low (omega (arith, high));
}

pub run_is_useful : (f : Field) (line : Line) (k : ℕ) → IsLine f line → k < places_on f line → is_useful_on f line k ≡ true
    → IsUsefulRun f (run_between f line k (end_on f line k))
run_is_useful f line k inside below on =
    let ends = end_gives (is_useful_on f line) (places_on f line) k below in
    useful_between f line k (end_on f line k) inside ends.after ends.within (record {
      pass = λ m low high. elim (cases_lt k m) [
        | inl above ↦ ends.pass.pass m (omega (arith, above)) high
        | inr first ↦ let here : m ≡ k = omega (arith, first, low) in ap (is_useful_on f line) here ∙ on
      ];
    })

all_none : {X : Type 0} (P : X → Type 0) → All P []
all_none P = λ k d below. absurd (omega (arith, below))

pub all_if : {X : Type 0} (P : X → Type 0) (b : Bool) (xs : List X) → (b ≡ true → All P xs) → All P (cond b xs [])
all_if P true xs all = all refl
all_if P false xs all = all_none P

all_same : {X : Type 0} (P : X → Type 0) (xs ys : List X) → ys ≡ xs → All P xs → All P ys
all_same {X} P xs ys same all = let Q : List X → Type 0 = λ zs. All P zs in subst Q (sym same) all

pub runs_all : (P : Run → Type 0) (f : Field) (line : Line) (n : ℕ) → n ≤ places_on f line
    → ((k : ℕ) → k < places_on f line → is_useful_on f line k ≡ true → P (run_between f line k (end_on f line k)))
    → All P (runs_before f line n)
runs_all P f line zero small each = all_same P _ _ (runs-none f line) (all_none P)
runs_all P f line (suc n) small each =
    let earlier = runs_all P f line n (omega (arith, small)) each in
    let b = begins (is_useful_on f line) n in
    let last = all_if P b (run_between f line n (end_on f line n) ∷ []) (λ on.
    All-cons P _ [] (each n (omega (arith, small)) (begins_there (is_useful_on f line) n on)) (all_none P)) in
    let next : runs_before f line (suc n) ≡ runs_before f line n ++ cond b (run_between f line n (end_on f line n) ∷ []) [] =
    ap (runs_before f line) (sym (add-one n)) ∙ runs-next f line n in
    all_same P _ _ next (All-append P _ _ earlier last)

-- The sweep.

pub line_inside : (f : Field) (row place : ℕ) → row < f.rows → IsLine f (line_at row place)
line_inside f row place below =
    elim (cases_Bool (nat_eq (place % 2) 0)) [
      | inl even ↦ subst (λ l. IsLine f l) (sym (cond-true _ (Rising row) (Falling row) even)) below
      | inr odd ↦ subst (λ l. IsLine f l) (sym (cond-false _ (Rising row) (Falling row) odd)) below
    ]

pub sweep_all : (P : Run → Type 0) (f : Field) (every n : ℕ) → n ≤ f.rows
    → ((row : ℕ) → row < f.rows → is_selected f every row ≡ true → All P (runs_on f (line_at row (row_place f every row))))
    → All P (sweep_before f every n)
sweep_all P f every zero small each = all_same P _ _ (sweep-none f every) (all_none P)
sweep_all P f every (suc n) small each =
    let earlier = sweep_all P f every n (omega (arith, small)) each in
    let last = all_if P (is_selected f every n) (runs_on f (line_at n (row_place f every n))) (λ on. each n (omega (arith, small)) on) in
    let next : sweep_before f every (suc n) ≡ sweep_before f every n ++ cond (is_selected f every n) (runs_on f (line_at n (row_place f every n))) [] =
    ap (sweep_before f every) (sym (add-one n)) ∙ sweep-next f every n in
    all_same P _ _ next (All-append P _ _ earlier last)

pub sweep_is_useful : (f : Field) (every : ℕ) → All (IsUsefulRun f) (sweep f every)
sweep_is_useful f every =
    sweep_all (IsUsefulRun f) f every f.rows (omega arith) (λ row below on.
    let line = line_at row (row_place f every row) in
    runs_all (IsUsefulRun f) f line (places_on f line) (omega arith) (λ k here useful. run_is_useful f line k (line_inside f row _ below) here useful))

level_line : (f : Field) (row place from to : ℕ)
    → let run = run_between f (line_at row place) from to in run.from.row ≡ run.to.row
level_line f row place from to =
    let Q : Line → Type 0 = λ l. (let run = run_between f l from to in run.from.row ≡ run.to.row) in
    elim (cases_Bool (nat_eq (place % 2) 0)) [
      | inl even ↦ subst Q (sym (cond-true _ (Rising row) (Falling row) even)) refl
      | inr odd ↦ subst Q (sym (cond-false _ (Rising row) (Falling row) odd)) refl
    ]

pub sweep_is_level : (f : Field) (every : ℕ) → All (λ run. run.from.row ≡ run.to.row) (sweep f every)
sweep_is_level f every =
    let P : Run → Type 0 = λ run. run.from.row ≡ run.to.row in
    sweep_all P f every f.rows (omega arith) (λ row below on.
    let line = line_at row (row_place f every row) in
    runs_all P f line (places_on f line) (omega arith) (λ k here useful. level_line f row (row_place f every row) k (end_on f line k)))

-- The columns.

-- the useful centre that is found, and whose disc holds the node
pub record IsCentreFor (f : Field) (s c : Spot) : Type 0 where
  pub inside : IsSpot f c
  pub useful : is_useful f c ≡ true
  pub near : holds f c s ≡ true

some_cond : (b : Bool) (s c : Spot) → cond b (Some s) None ≡ Some c → (b ≡ true) × (s ≡ c)
some_cond true s c is = (refl, cc)
some_cond false s c is = absurd (cc)

pub centre_found : (f : Field) (s c : Spot) → centre_for f s ≡ Some c → IsCentreFor f s c
centre_found f s c is =
    let (column, below_column, in_column) = where_found (centre_in f s) f.columns c is in
    let (row, below_row, at) = where_found (centre_at f s column) f.rows c in_column in
    let (on, same) = some_cond _ _ c at in
    let parts = and_parts _ _ on in
    let P : Spot → Type 0 = λ t. IsCentreFor f s t in
    subst P same (record { inside = record { column = below_column; row = below_row }; useful = parts.0; near = parts.1 })

pub column_is_useful : (f : Field) (c : Spot) → IsSpot f c → is_useful f c ≡ true → IsUsefulRun f (column_through f c)
column_is_useful f c inside on =
    let line = Up c.column in
    let p = is_useful_on f line in
    let starts = start_gives p c.row in
    let ends = end_gives p f.rows c.row inside.row in
    useful_between f line (run_start p c.row) (end_on f line c.row) inside.column (omega (arith, starts.before, ends.after)) ends.within (record {
      pass = λ m low high. elim (cases_lt m c.row) [
        | inl before ↦ starts.pass.pass m low before
        | inr from ↦ elim (cases_lt c.row m) [
          | inl after ↦ ends.pass.pass m (omega (arith, after)) high
          | inr same ↦ let here : m ≡ c.row = omega (arith, from, same) in ap p here ∙ on
        ]
      ];
    })

through_all : (P : Run → Type 0) (f : Field) (o : Option Spot) → ((c : Spot) → o ≡ Some c → P (column_through f c)) → All P (columns_through f o)
through_all P f (Some c) each = All-cons P _ [] (each c refl) (all_none P)
through_all P f None each = all_none P

pub columns_all : (P : Run → Type 0) (f : Field) (targets : List Bool) (strokes : List Run) (n : ℕ) → All P strokes
    → ((k : ℕ) (c : Spot) → k < n → centre_for f (spot_of f k) ≡ Some c → P (column_through f c))
    → All P (with_columns_before f targets strokes n)
columns_all P f targets strokes zero first each = all_same P _ _ (columns-none f targets strokes) first
columns_all P f targets strokes (suc n) first each =
    let earlier = columns_all P f targets strokes n first (λ k c below found. each k c (omega (arith, below)) found) in
    let made = with_columns_before f targets strokes n in
    let last = all_if P (is_open f targets made n) (column_for f (spot_of f n))
    (λ on. through_all P f (centre_for f (spot_of f n)) (λ c found. each n c (omega arith) found)) in
    let next : with_columns_before f targets strokes (suc n) ≡ with_column f targets made n =
    ap (with_columns_before f targets strokes) (sym (add-one n)) ∙ columns-next f targets strokes n in
    all_same P _ _ next (All-append P _ _ earlier last)

pub strokes_are_useful : (f : Field) (every : ℕ) (targets : List Bool) → All (IsUsefulRun f) (with_columns f targets (sweep f every))
strokes_are_useful f every targets =
    columns_all (IsUsefulRun f) f targets (sweep f every) (f.columns * f.rows) (sweep_is_useful f every) (λ k c below found.
    let centre = centre_found f (spot_of f k) c found in column_is_useful f c centre.inside centre.useful)

pub strokes_lie : StrokesLieOnUsefulCentres
strokes_lie f every targets = (strokes_are_useful f every targets, sweep_is_level f every)
