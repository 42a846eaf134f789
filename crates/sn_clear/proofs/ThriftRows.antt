-- The sweep is the description's.
use Rattle.std.proofs.Common.{◌≡◌, ◌↔◌, ℕ, zero, suc, ◌+◌, ◌-◌, ◌%◌, ◌<◌, ◌≤◌, ◌⊎◌, inl, inr, ⊎_elim, nat_eq, nat_lt, Bool, true, false, cond, not, List, [], ◌∷◌, ◌++◌, get_or, IsTrue, refl, sym, ap, ◌∙◌, subst, add-one, arith}
use Rattle.std.specs.List.{AllPairs, Contains}
use Rattle.std.proofs.lemmas.Bool.{cases_lt, cases_Bool, cond-true, cond-false, and_parts, and_from, or_cases, or_left, or_right, both_ways, eqb-true, eq-eqb, false_from_ne_true, lt-ltb, le-ltb}
use Rattle.std.proofs.lemmas.List.{append-nil, get_or_default}
use Rattle.std.proofs.lemmas.List.Elements.{Contains-append_left, Contains-append_right, Contains-append_cases, Contains-push}
use Rattle.std.proofs.lemmas.List.Quantifiers.{all_pairs_push}
use Rattle.sn_clear.specs.declared.spot.Run.{Run}
use Rattle.sn_clear.specs.declared.spot.Line.{Line}
use Rattle.sn_clear.specs.declared.spot.Line.TheVariants.{Rising, Falling, Up}
use Rattle.sn_clear.specs.Places.{begins, count_before}
use Rattle.sn_clear.specs.Field.{Field, is_useful}
use Rattle.sn_clear.specs.Runs.{places_on, is_useful_on, end_on, run_between, runs_before, runs_on}
use Rattle.sn_clear.specs.Rows.{has_useful, row_number, useful_rows, is_selected, row_place, line_at, sweep, sweep_before}
use Rattle.sn_clear.specs.Thrift.{IsMaximalRun, IsRunOn, Precedes, AreRunsOn, HasUseful, IsSelectedRow, joined, IsSweep}
use Rattle.sn_clear.specs.StrokeLaws.{RowsAreMaximalRuns, MultiplesAndTheLastAreSelected, LastRowIsSelected, RowNumbersCountUsefulRows, RowPlacesCountSelectedRows, DirectionsAlternate}
use Rattle.sn_clear.proofs.PlaceLemmas.{end_is, one_passes, which_passes, one_counted, none_counted, count_none}
use Rattle.sn_clear.proofs.RunLemmas.{runs-none, runs-next}
use Rattle.sn_clear.proofs.RowLemmas.{sweep-none, sweep-next}
use Rattle.sn_clear.proofs.LieLemmas.{end_gives, begins_there, line_inside}

-- Maximal runs.

off : (b : Bool) → b ≡ false → ¬ IsTrue b
off b is on = both_ways b is on

begins_after : (p : ℕ → Bool) (k m : ℕ) → begins p k ≡ true → m + 1 ≡ k → p m ≡ false
begins_after p zero m on next = absurd (omega (arith, next))
begins_after p (suc k) m on next =
    let same : m ≡ k = omega (arith, next) in
    let parts = and_parts _ _ on in
    ap p same ∙ flipped (p k) parts.1
  where
    flipped : (b : Bool) → not b ≡ true → b ≡ false
    flipped true is = absurd (both_ways true (sym is) refl)
    flipped false is = refl

begins_where : (p : ℕ → Bool) (k : ℕ) → p k ≡ true → ((m : ℕ) → m + 1 ≡ k → ¬ IsTrue (p m)) → begins p k ≡ true
begins_where p zero on before = on
begins_where p (suc k) on before =
    and_from _ _ on (not_false (p k) (before k (add-one k)))
  where
    not_false : (b : Bool) → ¬ IsTrue b → not b ≡ true
    not_false true never = absurd (never refl)
    not_false false never = refl

pub maximal_from : (f : Field) (line : Line) (k : ℕ) → k < places_on f line → begins (is_useful_on f line) k ≡ true
    → IsMaximalRun f line k (end_on f line k)
maximal_from f line k below on =
    let p = is_useful_on f line in
    let ends = end_gives p (places_on f line) k below in
    record {
      order = ends.after;
      within = ends.within;
      useful = λ m low high. elim (cases_lt k m) [
        | inl above ↦ ends.pass.pass m (omega (arith, above)) (omega (arith, high))
        | inr first ↦ let here : m ≡ k = omega (arith, first, low) in ap p here ∙ begins_there p k on
      ];
      before = λ m next. off (p m) (begins_after p k m on next);
      after = λ more. off (p (end_on f line k + 1)) (ends.stops more);
    }

-- a maximal run begins at its first place, and ends where the run from there ends
pub maximal_ends : (f : Field) (line : Line) (from to : ℕ) → IsMaximalRun f line from to
    → (begins (is_useful_on f line) from ≡ true) × (to ≡ end_on f line from)
maximal_ends f line from to run =
    let p = is_useful_on f line in (
      begins_where p from (run.useful from (omega arith) run.order) run.before,
      end_is p (places_on f line) from to (record {
        after = run.order;
        within = run.within;
        pass = record { pass = λ m low high. run.useful m (omega (arith, low)) (omega (arith, high)) };
        stops = λ more. false_from_ne_true (p (to + 1)) (run.after more);
      }),
    )

-- Runs before a place.

contains_if : (b : Bool) (run : Run) (xs : List Run) → Contains (cond b xs []) run → (b ≡ true) × Contains xs run
contains_if true run xs there = (refl, there)
contains_if false run xs (k, below, is) = absurd (omega (arith, below))

contains_one : (x run : Run) → Contains (x ∷ []) run → x ≡ run
contains_one x run (zero, below, is) = is
contains_one x run (suc k, below, is) = absurd (omega (arith, below))

if_contains : (b : Bool) (run : Run) (xs : List Run) → b ≡ true → Contains xs run → Contains (cond b xs []) run
if_contains b run xs on there = subst (λ ys. Contains ys run) (sym (cond-true b xs [] on)) there

-- the place where a run of the first n begins
abbrev BeginsBefore : Field → Line → ℕ → Run → Type 0
BeginsBefore f line n run = (k : ℕ) × (k < n) × (begins (is_useful_on f line) k ≡ true) × (run ≡ run_between f line k (end_on f line k))

next_runs : (f : Field) (line : Line) (n : ℕ)
    → runs_before f line (suc n) ≡ runs_before f line n ++ cond (begins (is_useful_on f line) n) (run_between f line n (end_on f line n) ∷ []) []
next_runs f line n = ap (runs_before f line) (sym (add-one n)) ∙ runs-next f line n

pub runs_begin : (f : Field) (line : Line) (n : ℕ) (run : Run) → Contains (runs_before f line n) run → BeginsBefore f line n run
runs_begin f line zero run there =
    let (k, below, is) = subst (λ xs. Contains xs run) (runs-none f line) there in absurd (omega (arith, below))
runs_begin f line (suc n) run there =
    let last = run_between f line n (end_on f line n) in
    ⊎_elim
    (λ (earlier : Contains (runs_before f line n) run). let (k, below, on, is) = runs_begin f line n run earlier in (k, omega (arith, below), on, is))
    (λ (here : Contains (cond (begins (is_useful_on f line) n) (last ∷ []) []) run).
    let (on, one) = contains_if _ run (last ∷ []) here in (n, omega arith, on, sym (contains_one last run one)))
    (Contains-append_cases (runs_before f line n) _ run (subst (λ xs. Contains xs run) (next_runs f line n) there))

pub run_is_there : (f : Field) (line : Line) (n k : ℕ) → k < n → begins (is_useful_on f line) k ≡ true
    → Contains (runs_before f line n) (run_between f line k (end_on f line k))
run_is_there f line zero k below on = absurd (omega (arith, below))
run_is_there f line (suc n) k below on =
    let run = run_between f line k (end_on f line k) in
    let last = run_between f line n (end_on f line n) in
    let P : List Run → Type 0 = λ xs. Contains xs run in
    subst P (sym (next_runs f line n)) (elim (cases_lt k n) [
      | inl before ↦ Contains-append_left (runs_before f line n) _ run (run_is_there f line n k before on)
      | inr reached ↦
          let same : k ≡ n = omega (arith, reached, below) in
          let here : begins (is_useful_on f line) n ≡ true = ap (begins (is_useful_on f line)) (sym same) ∙ on in
          let one : Contains (last ∷ []) run =
          subst (λ r. Contains (last ∷ []) r) (ap (λ m. run_between f line m (end_on f line m)) (sym same)) (Contains-push [] last) in
          Contains-append_right (runs_before f line n) _ run (if_contains _ run (last ∷ []) here one)
    ])

-- Order.

-- a run ends before the next begins
ends_before : (f : Field) (line : Line) (k n : ℕ) → k < n → n < places_on f line → begins (is_useful_on f line) k ≡ true
    → begins (is_useful_on f line) n ≡ true → end_on f line k < n
ends_before f line k n below within on next =
    let p = is_useful_on f line in
    let run = maximal_from f line k (omega (arith, below, within)) on in
    elim (cases_lt (end_on f line k) n) [
      | inl before ↦ before
      | inr after ↦
          absurd (both_ways (p (n - 1)) (begins_after p n (n - 1) next (omega (arith, below)))
          (run.useful (n - 1) (omega (arith, below)) (omega (arith, after))))
    ]

precedes_by : (f : Field) (line : Line) (k e n e' : ℕ) → e < n → n < places_on f line → Precedes line (run_between f line k e) (run_between f line n e')
precedes_by f (Rising row) k e n e' before within = before
precedes_by f (Falling row) k e n e' before within = omega (arith, before, within)
precedes_by f (Up column) k e n e' before within = before

pairs_none : (R : Run → Run → Type 0) → AllPairs R []
pairs_none R = λ i j d less below. absurd (omega (arith, below))

pub runs_in_order : (f : Field) (line : Line) (n : ℕ) → n ≤ places_on f line → AllPairs (Precedes line) (runs_before f line n)
runs_in_order f line zero small = let P : List Run → Type 0 = λ xs. AllPairs (Precedes line) xs in subst P (sym (runs-none f line)) (pairs_none (Precedes line))
runs_in_order f line (suc n) small =
    let earlier = runs_in_order f line n (omega (arith, small)) in
    let P : List Run → Type 0 = λ xs. AllPairs (Precedes line) xs in
    let last = run_between f line n (end_on f line n) in
    let b = begins (is_useful_on f line) n in
    subst P (sym (next_runs f line n)) (elim (cases_Bool b) [
      | inl on ↦
          subst P (ap (λ ys. runs_before f line n ++ ys) (sym (cond-true b (last ∷ []) [] on)))
          (all_pairs_push (Precedes line) (runs_before f line n) last earlier (λ k d below.
          let (m, before, starts, is) = runs_begin f line n (get_or (runs_before f line n) k d) (k, below, get_or_default (runs_before f line n) k _ d below) in
          let Q : Run → Type 0 = λ r. Precedes line r last in
          subst Q (sym is) (precedes_by f line m (end_on f line m) n (end_on f line n) (ends_before f line m n before (omega (arith, small)) starts on) (omega (arith, small)))))
      | inr passed ↦
          subst P (sym (append-nil (runs_before f line n)) ∙ ap (λ ys. runs_before f line n ++ ys) (sym (cond-false b (last ∷ []) [] passed))) earlier
    ])

pub rows_are_maximal_runs : RowsAreMaximalRuns
rows_are_maximal_runs f line inside = record {
  runs = λ run. (
    (λ there.
        let (k, below, on, is) = runs_begin f line (places_on f line) run there in (k, end_on f line k, maximal_from f line k below on, is)),
    (λ (from, to, maximal, is).
        let ends = maximal_ends f line from to maximal in
        let there = run_is_there f line (places_on f line) from (omega (arith, maximal.order, maximal.within)) ends.0 in
        let Q : Run → Type 0 = λ r. Contains (runs_on f line) r in
        subst Q (sym (is ∙ ap (λ e. run_between f line from e) ends.1)) there),
  );
  order = runs_in_order f line (places_on f line) (omega arith);
}

-- One list of runs.

order_of : (f : Field) (line : Line) (from to : ℕ) → IsMaximalRun f line from to → ¬ Precedes line (run_between f line from to) (run_between f line from to)
order_of f (Rising row) from to run less = omega (arith, less, run.order)
order_of f (Falling row) from to run less = omega (arith, less, run.order, run.within)
order_of f (Up column) from to run less = omega (arith, less, run.order)

not_both : (f : Field) (line : Line) (a b a' b' : ℕ) → IsMaximalRun f line a b → IsMaximalRun f line a' b'
    → Precedes line (run_between f line a b) (run_between f line a' b') → Precedes line (run_between f line a' b') (run_between f line a b) → ⊥
not_both f (Rising row) a b a' b' run run' less more = omega (arith, less, more, run.order, run'.order)
not_both f (Falling row) a b a' b' run run' less more = omega (arith, less, more, run.order, run'.order, run.within, run'.within)
not_both f (Up column) a b a' b' run run' less more = omega (arith, less, more, run.order, run'.order)

irreflexive : (f : Field) (line : Line) (run : Run) → IsRunOn f line run → ¬ Precedes line run run
irreflexive f line run (from, to, maximal, is) less =
    let Q : Run → Type 0 = λ r. Precedes line r r in order_of f line from to maximal (subst Q is less)

asymmetric : (f : Field) (line : Line) (a b : Run) → IsRunOn f line a → IsRunOn f line b → Precedes line a b → Precedes line b a → ⊥
asymmetric f line a b (from, to, maximal, is) (from', to', maximal', is') less more =
    let Q : Run → Run → Type 0 = λ r s. Precedes line r s in
    let less' : Precedes line (run_between f line from to) (run_between f line from' to') = subst (λ r. Q r (run_between f line from' to')) is (subst (λ s. Q a s) is' less) in
    let more' : Precedes line (run_between f line from' to') (run_between f line from to) = subst (λ r. Q r (run_between f line from to)) is' (subst (λ s. Q b s) is more) in
    not_both f line from to from' to' maximal maximal' less' more'

-- Lists of the same elements in one order are one.

abbrev IsIn : List Run → Run → Type 0
IsIn [] run = ⊥
IsIn (x ∷ xs) run = (x ≡ run) ⊎ IsIn xs run

is_in : (xs : List Run) (run : Run) → Contains xs run → IsIn xs run
is_in [] run (k, below, is) = absurd (omega (arith, below))
is_in (x ∷ xs) run (zero, below, is) = inl is
is_in (x ∷ xs) run (suc k, below, is) = inr (is_in xs run (k, omega (arith, below), is))

contains_in : (xs : List Run) (run : Run) → IsIn xs run → Contains xs run
contains_in [] run there = absurd there
contains_in (x ∷ xs) run (inl is) = (zero, omega arith, is)
contains_in (x ∷ xs) run (inr later) = let (k, below, is) = contains_in xs run later in (suc k, omega (arith, below), is)

-- each element precedes those after it
abbrev InOrder : Line → List Run → Type 0
InOrder line [] = Unit {0}
InOrder line (x ∷ xs) = ((run : Run) → IsIn xs run → Precedes line x run) × InOrder line xs

in_order : (line : Line) (xs : List Run) → AllPairs (Precedes line) xs → InOrder line xs
in_order line [] pairs = tt
in_order line (x ∷ xs) pairs = (
  (λ run there.
      let (k, below, is) = contains_in xs run there in
      let Q : Run → Type 0 = λ r. Precedes line x r in
      subst Q is (pairs zero (suc k) run (omega arith) (omega (arith, below)))),
  in_order line xs (λ i j d less below. pairs (suc i) (suc j) d (omega (arith, less)) (omega (arith, below))),
)

one_order : (f : Field) (line : Line) (xs ys : List Run) → ((run : Run) → IsIn xs run → IsRunOn f line run)
    → ((run : Run) → IsIn xs run → IsIn ys run) → ((run : Run) → IsIn ys run → IsIn xs run) → InOrder line xs → InOrder line ys → xs ≡ ys
one_order f line [] [] each to back first second = refl
one_order f line [] (y ∷ ys) each to back first second = absurd (back y (inl refl))
one_order f line (x ∷ xs) [] each to back first second = absurd (to x (inl refl))
one_order f line (x ∷ xs) (y ∷ ys) each to back (x_before, first) (y_before, second) =
    let is_run : IsRunOn f line x = each x (inl refl) in
    let is_run' : IsRunOn f line y = each y (back y (inl refl)) in
    let same : x ≡ y =
    ⊎_elim (λ (e : y ≡ x). sym e)
    (λ (later : IsIn ys x).
    ⊎_elim (λ (e : x ≡ y). e) (λ (later' : IsIn xs y). absurd (asymmetric f line x y is_run is_run' (x_before y later') (y_before x later))) (back y (inl refl)))
    (to x (inl refl)) in
    let apart : (run : Run) → IsIn xs run → ¬ x ≡ run = λ run there e.
    let Q : Run → Type 0 = λ r. Precedes line x r in irreflexive f line x is_run (subst Q (sym e) (x_before run there)) in
    let apart' : (run : Run) → IsIn ys run → ¬ y ≡ run = λ run there e.
    let Q : Run → Type 0 = λ r. Precedes line y r in irreflexive f line y is_run' (subst Q (sym e) (y_before run there)) in
    let rest = one_order f line xs ys (λ run there. each run (inr there))
    (λ run there. ⊎_elim (λ (e : y ≡ run). absurd (apart run there (same ∙ e))) (λ (later : IsIn ys run). later) (to run (inr there)))
    (λ run there. ⊎_elim (λ (e : x ≡ run). absurd (apart' run there (sym same ∙ e))) (λ (later : IsIn xs run). later) (back run (inr there)))
    first second in
    λ k. same k ∷ rest k

pub one_list_of_runs : (f : Field) (line : Line) (xs ys : List Run) → AreRunsOn f line xs → AreRunsOn f line ys → xs ≡ ys
one_list_of_runs f line xs ys first second =
    one_order f line xs ys (λ run there. (first.runs run).0 (contains_in xs run there))
    (λ run there. is_in ys run ((second.runs run).1 ((first.runs run).0 (contains_in xs run there))))
    (λ run there. is_in xs run ((first.runs run).1 ((second.runs run).0 (contains_in ys run there))))
    (in_order line xs first.order) (in_order line ys second.order)

-- Selected rows.

-- none passes from a to before b exactly where the counts are the same
count_same : (p : ℕ → Bool) (a n : ℕ) → count_before p a ≤ count_before p (a + n)
    × (count_before p (a + n) ≡ count_before p a → (m : ℕ) → a ≤ m → m < a + n → p m ≡ false)
    × (((m : ℕ) → a ≤ m → m < a + n → p m ≡ false) → count_before p (a + n) ≡ count_before p a)
count_same p a zero =
    let same : a + zero ≡ a = omega arith in (
      omega (arith, ap (count_before p) same),
      (λ equal m low high. absurd (omega (arith, low, high))),
      (λ none. ap (count_before p) same),
    )
count_same p a (suc n) =
    let earlier = count_same p a n in
    let next : a + n + 1 ≡ a + suc n = omega arith in
    let moved : count_before p (a + n + 1) ≡ count_before p (a + suc n) = ap (count_before p) next in
    elim (cases_Bool (p (a + n))) [
      | inl on ↦
          let more = one_counted p (a + n) (count_before p (a + n)) on refl in (
            omega (arith, more, moved, earlier.0),
            (λ equal. absurd (omega (arith, more, moved, equal, earlier.0))),
            (λ none. absurd (both_ways (p (a + n)) (none (a + n) (omega arith) (omega arith)) on)),
          )
      | inr passed ↦
          let kept = none_counted p (a + n) (count_before p (a + n)) passed refl in (
            omega (arith, kept, moved, earlier.0),
            (λ equal m low high. elim (cases_lt m (a + n)) [
              | inl before ↦ earlier.1 (omega (arith, equal, kept, moved)) m low before
              | inr last ↦ let here : m ≡ a + n = omega (arith, last, high) in ap p here ∙ passed
            ]),
            (λ none. let so_far = earlier.2 (λ m low high. none m low (omega (arith, high))) in omega (arith, kept, moved, so_far)),
          )
    ]

-- a row is the last that passes exactly where its number is that of the last
last_count : (p : ℕ → Bool) (row n : ℕ) → row < n → p row ≡ true
    → (count_before p row + 1 ≡ count_before p n) ↔ ((m : ℕ) → row < m → m < n → p m ≡ false)
last_count p row n below on =
    let here = one_counted p row (count_before p row) on refl in
    let whole : row + 1 + (n - (row + 1)) ≡ n = omega (arith, below) in
    let moved : count_before p (row + 1 + (n - (row + 1))) ≡ count_before p n = ap (count_before p) whole in
    let same = count_same p (row + 1) (n - (row + 1)) in (
      (λ equal m low high. same.1 (omega (arith, moved, equal, here)) m (omega (arith, low)) (omega (arith, high, whole))),
      (λ none. let kept = same.2 (λ m low high. none m (omega (arith, low)) (omega (arith, high, whole))) in omega (arith, kept, moved, here)),
    )

pub useful_row : (f : Field) (row : ℕ) → (has_useful f row ≡ true) ↔ HasUseful f row
useful_row f row =
    let p : ℕ → Bool = λ column. is_useful f (record { column = column; row = row }) in (
      (λ on. which_passes p f.columns on),
      (λ (column, below, on). one_passes p f.columns column below on),
    )

pub selected_is : MultiplesAndTheLastAreSelected
selected_is f every row below =
    let some = useful_row f row in (
      (λ on.
          let parts = and_parts _ _ on in
          record {
            inside = below;
            some = some.0 parts.0;
            chosen = ⊎_elim (λ (multiple : nat_eq (row_number f row % every) 0 ≡ true). inl (eqb-true _ _ multiple))
                (λ (last : nat_eq (row_number f row + 1) (useful_rows f) ≡ true).
                inr (λ later after inside useful.
                both_ways (has_useful f later) ((last_count (has_useful f) row f.rows below parts.0).0 (eqb-true _ _ last) later after inside) ((useful_row f later).1 useful)))
                (or_cases _ _ parts.1);
          }),
      (λ selected.
          let on = some.1 selected.some in
          and_from _ _ on (⊎_elim (λ (multiple : row_number f row % every ≡ 0). or_left _ _ (eq-eqb _ _ multiple))
          (λ (last : (later : ℕ) → row < later → later < f.rows → ¬ HasUseful f later).
          or_right _ _ (eq-eqb _ _ ((last_count (has_useful f) row f.rows below on).1 (λ m low high.
          false_from_ne_true (has_useful f m) (λ useful. last m low high ((useful_row f m).0 useful))))))
          selected.chosen)),
    )

pub last_row_is_selected : LastRowIsSelected
last_row_is_selected f every row below some last = (selected_is f every row below).1 (record { inside = below; some = some; chosen = inr last })

-- Numbers and places of rows.

pub numbers_count : RowNumbersCountUsefulRows
numbers_count f = (
  count_none (has_useful f),
  λ row some. sym (one_counted (has_useful f) row (row_number f row) ((useful_row f row).1 some) refl),
  λ row none.
      sym (none_counted (has_useful f) row (row_number f row) (false_from_ne_true (has_useful f row) (λ on. none ((useful_row f row).0 on))) refl),
)

pub places_count : RowPlacesCountSelectedRows
places_count f every = (
  count_none (is_selected f every),
  λ row selected. sym (one_counted (is_selected f every) row (row_place f every row) ((selected_is f every row selected.inside).1 selected) refl),
  λ row below other.
      sym (none_counted (is_selected f every) row (row_place f every row)
      (false_from_ne_true (is_selected f every row) (λ on. other ((selected_is f every row below).0 on))) refl),
)

pub directions_alternate : DirectionsAlternate
directions_alternate row place = (
  λ even. cond-true (nat_eq (place % 2) 0) (Rising row) (Falling row) (eq-eqb (place % 2) 0 even),
  λ odd. cond-false (nat_eq (place % 2) 0) (Rising row) (Falling row) (false_from_ne_true (nat_eq (place % 2) 0) (λ on. odd (eqb-true (place % 2) 0 on))),
)

-- The sweep.

row_part : Field → ℕ → ℕ → List Run
row_part f every row = cond (is_selected f every row) (runs_on f (line_at row (row_place f every row))) []

part-selected : (f : Field) (every row : ℕ) → is_selected f every row ≡ true → row_part f every row ≡ runs_on f (line_at row (row_place f every row))
unfolding row_part
part-selected f every row on = cond-true _ _ _ on

part-other : (f : Field) (every row : ℕ) → is_selected f every row ≡ false → row_part f every row ≡ []
unfolding row_part
part-other f every row passed = cond-false _ _ _ passed

sweep-joined : (f : Field) (every n : ℕ) → sweep_before f every n ≡ joined (row_part f every) n
unfolding row_part
sweep-joined f every zero = sweep-none f every
sweep-joined f every (suc n) =
    ap (sweep_before f every) (sym (add-one n)) ∙ sweep-next f every n ∙ ap (λ xs. xs ++ row_part f every n) (sweep-joined f every n)

no_row : (f : Field) (every row : ℕ) → ¬ row < f.rows → ¬ IsSelectedRow f every row
no_row f every row outside selected = outside selected.inside

-- the parts of rows of the window
inside_part : Field → (ℕ → List Run) → ℕ → List Run
inside_part f parts row = cond (nat_lt row f.rows) (parts row) []

inside-part : (f : Field) (parts : ℕ → List Run) (row : ℕ) → row < f.rows → inside_part f parts row ≡ parts row
unfolding inside_part
inside-part f parts row below = cond-true _ _ _ (lt-ltb row f.rows below)

outside-part : (f : Field) (parts : ℕ → List Run) (row : ℕ) → f.rows ≤ row → inside_part f parts row ≡ []
unfolding inside_part
outside-part f parts row above = cond-false _ _ _ (le-ltb row f.rows above)

joined-same : (a b : ℕ → List Run) (n : ℕ) → ((row : ℕ) → row < n → a row ≡ b row) → joined a n ≡ joined b n
joined-same a b zero same = refl
joined-same a b (suc n) same =
    ap (λ xs. xs ++ a n) (joined-same a b n (λ row below. same row (omega (arith, below)))) ∙ ap (λ xs. joined b n ++ xs) (same n (omega arith))

pub sweep_is_described : (f : Field) (every : ℕ) → IsSweep f every (sweep f every)
sweep_is_described f every = record {
  parts = inside_part f (row_part f every);
  selected = λ row selected.
      let on = (selected_is f every row selected.inside).1 selected in
      let line = line_at row (row_place f every row) in
      let is : inside_part f (row_part f every) row ≡ runs_on f line = inside-part f (row_part f every) row selected.inside ∙ part-selected f every row on in
      let P : List Run → Type 0 = λ xs. AreRunsOn f line xs in
      subst P (sym is) (rows_are_maximal_runs f line (line_inside f row (row_place f every row) selected.inside));
  others = λ row other.
      elim (cases_lt row f.rows) [
        | inl below ↦
            inside-part f (row_part f every) row below
            ∙ part-other f every row (false_from_ne_true (is_selected f every row) (λ on. other ((selected_is f every row below).0 on)))
        | inr above ↦ outside-part f (row_part f every) row above
      ];
  whole = sweep-joined f every f.rows ∙ joined-same (row_part f every) (inside_part f (row_part f every)) f.rows (λ row below. sym (inside-part f (row_part f every) row below));
}

pub one_sweep : (f : Field) (every : ℕ) (xs ys : List Run) → IsSweep f every xs → IsSweep f every ys → xs ≡ ys
one_sweep f every xs ys a b =
    a.whole ∙ joined-same a.parts b.parts f.rows (λ row below.
    elim (cases_Bool (is_selected f every row)) [
      | inl on ↦
          let selected = (selected_is f every row below).0 on in
          one_list_of_runs f (line_at row (row_place f every row)) (a.parts row) (b.parts row) (a.selected row selected) (b.selected row selected)
      | inr passed ↦
          let other : ¬ IsSelectedRow f every row = λ selected. both_ways _ passed ((selected_is f every row below).1 selected) in
          a.others row other ∙ sym (b.others row other)
    ]) ∙ sym b.whole
