-- Marks that are set with those beside them.
use Rattle.std.proofs.Common.{ℕ, ◌≡◌, ◌+◌, ◌-◌, ◌*◌, ◌<◌, ◌≤◌, ◌↔◌, ◌⊎◌, inl, inr, ⊎_elim, ◌&&◌, Bool, true, false, IsTrue, List, length, get_or, take, drop, ◌++◌, refl, sym, ap, ◌∙◌, subst, arith}
use Rattle.std.proofs.lemmas.Bool.{cases_lt, false≢true}
use Rattle.std.proofs.lemmas.Nat.{mul-le, mul-add-lt}
use Rattle.std.proofs.lemmas.List.{length-take-le, length-drop, get_or-take, get_or-drop, get_or-append-add, get_or_append_left}
use Rattle.sn_raster.specs.MarksBeside.{IsSetBeside}

both_test : (x y z : Bool) → z ≡ x && y → (IsTrue z ↔ (IsTrue x × IsTrue y))
both_test true y z is = ((λ on. (refl, sym is ∙ on)), (λ both. is ∙ both.1))
both_test false y z is = ((λ on. absurd (false≢true (sym is ∙ on))), (λ both. absurd (false≢true both.0)))

three_test : (x y z w : Bool) → w ≡ (x && y) && z → (IsTrue w ↔ (IsTrue x × IsTrue y × IsTrue z))
three_test true y z w is = let both = both_test y z w is in ((λ on. (refl, (both.0 on).0, (both.0 on).1)), (λ all. both.1 (all.1, all.2)))
three_test false y z w is = ((λ on. absurd (false≢true (sym is ∙ on))), (λ all. absurd (false≢true all.0)))

-- Marks of a slice that were set at its ends and then between them.
pub kept_beside : (from ends new : List Bool) (step : ℕ) → 2 * step ≤ length from
    → ((k : ℕ) → k < step → get_or ends k false ≡ get_or from k false && get_or from (k + step) false)
    → ((k : ℕ) → k < length from → length from ≤ k + step → get_or ends k false ≡ get_or from (k - step) false && get_or from k false)
    → ((k : ℕ) → step ≤ k → k + step < length from
    → get_or new k false ≡ (get_or from (k - step) false && get_or from k false) && get_or from (k + step) false)
    → ((k : ℕ) → k < step → get_or new k false ≡ get_or ends k false)
    → ((k : ℕ) → length from ≤ k + step → get_or new k false ≡ get_or ends k false)
    → (k : ℕ) → k < length from → IsTrue (get_or new k false) ↔ IsSetBeside from step 0 (length from) k
kept_beside from ends new step apart first last inner first_kept last_kept k below =
    ⊎_elim
    (λ (early : k < step).
    let test = both_test (get_or from k false) (get_or from (k + step) false) _ (first_kept k early ∙ first k early) in (
      λ on. let both = test.0 on in record { own = both.0; before = λ h. absurd (omega arith); after = λ _. both.1 },
      λ set. test.1 (set.own, set.after (omega arith)),
    ))
    (λ (begun : step ≤ k).
    ⊎_elim
    (λ (between : k + step < length from).
    let test = three_test (get_or from (k - step) false) (get_or from k false) (get_or from (k + step) false) _ (inner k begun between) in (
      λ on. let all = test.0 on in record { own = all.1; before = λ _. all.0; after = λ _. all.2 },
      λ set. test.1 (set.before (omega arith), set.own, set.after between),
    ))
    (λ (late : length from ≤ k + step).
    let test = both_test (get_or from (k - step) false) (get_or from k false) _ (last_kept k late ∙ last k below late) in (
      λ on. let both = test.0 on in record { own = both.1; before = λ _. both.0; after = λ h. absurd (omega arith) },
      λ set. test.1 (set.before (omega arith), set.own),
    )) (cases_lt (k + step) (length from)))
    (cases_lt k step)

-- Rows of marks: there is one at most, or there are two at least.
pub few_or_two : (width rows n : ℕ) → n ≡ width * rows → (n ≤ width) ⊎ (2 * width ≤ n)
few_or_two width rows n is =
    ⊎_elim (λ (few : rows < 2). let h : width * rows ≤ width * 1 = mul-le width rows width 1 (omega arith) (omega arith) in inl (omega arith))
    (λ (two : 2 ≤ rows). let h : width * 2 ≤ width * rows = mul-le width 2 width rows (omega arith) two in inr (omega arith)) (cases_lt rows 2)

-- A row of marks in its place.
in_place : (to part rest : List Bool) (first k : ℕ) → first ≤ length to → k < length part
    → get_or (take first to ++ (part ++ rest)) (first + k) false ≡ get_or part k false
in_place to part rest first k within below =
    ap (λ n. get_or (take first to ++ (part ++ rest)) (n + k) false) (sym (length-take-le first to within))
    ∙ get_or-append-add (take first to) (part ++ rest) k false ∙ get_or_append_left part rest false k below

pub before_place : (to rest : List Bool) (first k : ℕ) → first ≤ length to → k < first → get_or (take first to ++ rest) k false ≡ get_or to k false
before_place to rest first k within below =
    get_or_append_left (take first to) rest false k (omega (arith, length-take-le first to within)) ∙ get_or-take first to k false below

part_size : (from : List Bool) (first width n : ℕ) → n ≡ width → first + width ≤ length from → length (take n (drop first from)) ≡ width
part_size from first width n same within =
    length-take-le n (drop first from) (omega (arith, length-drop first from)) ∙ same

part_at : (from : List Bool) (first n j m : ℕ) → j < n → first + j ≡ m → get_or (take n (drop first from)) j false ≡ get_or from m false
part_at from first n j m below same =
    get_or-take n (drop first from) j false below ∙ get_or-drop first from j false ∙ ap (λ k. get_or from k false) same

pub row_kept : (from to part rest : List Bool) (first width n : ℕ) → n ≡ width → first + width ≤ length from → first ≤ length to
    → length part ≡ length (take n (drop first from))
    → ((k : ℕ) → k < length (take n (drop first from))
    → IsTrue (get_or part k false) ↔ IsSetBeside (take n (drop first from)) 1 0 (length (take n (drop first from))) k)
    → (column : ℕ) → column < width
    → IsTrue (get_or (take first to ++ (part ++ rest)) (first + column) false) ↔ IsSetBeside from 1 first (first + width) (first + column)
row_kept from to part rest first width n same within inside full each column below =
    let size = part_size from first width n same within in
    let test = each column (omega arith) in
    let place = in_place to part rest first column inside (omega arith) in (
      λ on. let set = test.0 (sym place ∙ on) in record {
        own = sym (part_at from first n column (first + column) (omega arith) refl) ∙ set.own;
        before = λ h. sym (part_at from first n (column - 1) (first + column - 1) (omega arith) (omega arith)) ∙ set.before (omega arith);
        after = λ h. sym (part_at from first n (column + 1) (first + column + 1) (omega arith) (omega arith)) ∙ set.after (omega arith);
      },
      λ set. place ∙ test.1 (record {
        own = part_at from first n column (first + column) (omega arith) refl ∙ set.own;
        before = λ h. part_at from first n (column - 1) (first + column - 1) (omega arith) (omega arith) ∙ set.before (omega arith);
        after = λ h. part_at from first n (column + 1) (first + column + 1) (omega arith) (omega arith) ∙ set.after (omega arith);
      }),
    )

-- the rows up to one more
pub rows_kept : (P : ℕ → ℕ → Type 0) (to new : List Bool) (width row : ℕ) → ((k : ℕ) → k < row * width → get_or new k false ≡ get_or to k false)
    → ((r column : ℕ) → r < row → column < width → IsTrue (get_or to (r * width + column) false) ↔ P r column)
    → ((column : ℕ) → column < width → IsTrue (get_or new (row * width + column) false) ↔ P row column)
    → (r column : ℕ) → r < row + 1 → column < width → IsTrue (get_or new (r * width + column) false) ↔ P r column
rows_kept P to new width row before done here r column below inside =
    ⊎_elim
    (λ (earlier : r < row).
    let kept = before (r * width + column) (omega (arith, mul-add-lt r width column row earlier inside)) in
    let test = done r column earlier inside in ((λ on. test.0 (sym kept ∙ on)), (λ set. kept ∙ test.1 set)))
    (λ (late : row ≤ r).
    let same : row ≡ r = omega arith in
    subst (λ m. IsTrue (get_or new (m * width + column) false) ↔ P m column) same (here column inside)) (cases_lt r row)
