-- The longest run of bytes that pass a test, and the fronts that it bounds.
use Rattle.std.proofs.Common.{◌≡◌, ℕ, suc, ◌+◌, ◌≤◌, Bool, true, false, cond, List, [], ◌∷◌, ◌++◌, length, take, drop, refl, sym, ap, subst, arith}
use Rattle.std.proofs.lemmas.Bool.{and_parts, and_from, both_ways}
use Rattle.std.specs.List.{list_all, prefix_len}
use Rattle.sn_lex.specs.Form.{HeadFails}
use Rattle.sn_lex.specs.Split.{SplitsRun}

pub prefix_len_le : (test : ℕ → Bool) (xs : List ℕ) → prefix_len test xs ≤ length xs
prefix_len_le test [] = omega arith
prefix_len_le test (x ∷ xs) = elim (test x) as (λ b. cond b (1 + prefix_len test xs) 0 ≤ length (x ∷ xs)) [ true ↦ omega (arith, prefix_len_le test xs) | false ↦ omega arith ]

more_in_run : (test : ℕ → Bool) (x : ℕ) (xs run after : List ℕ) → SplitsRun test xs run after → test x ≡ true → SplitsRun test (x ∷ xs) (x ∷ run) after
more_in_run test x xs run after splits passed = record { whole = ap (λ l. x ∷ l) splits.whole; passes = and_from (test x) (list_all test run) passed splits.passes; ends = splits.ends }

at_head : (test : ℕ → Bool) (x : ℕ) (xs : List ℕ) (n : ℕ) (b : Bool) → test x ≡ b → SplitsRun test xs (take n xs) (drop n xs) → SplitsRun test (x ∷ xs) (take (cond b (1 + n) 0) (x ∷ xs)) (drop (cond b (1 + n) 0) (x ∷ xs))
at_head test x xs n true passed splits =
    let one_more : suc n ≡ 1 + n = omega arith in
    subst (λ (k : ℕ). SplitsRun test (x ∷ xs) (take k (x ∷ xs)) (drop k (x ∷ xs))) one_more (more_in_run test x xs (take n xs) (drop n xs) splits passed)
at_head test x xs n false failed splits = record { whole = refl; passes = refl; ends = failed }

splits_at_prefix_len : (test : ℕ → Bool) (xs : List ℕ) → SplitsRun test xs (take (prefix_len test xs) xs) (drop (prefix_len test xs) xs)
splits_at_prefix_len test [] = record { whole = refl; passes = refl; ends = tt }
splits_at_prefix_len test (x ∷ xs) = at_head test x xs (prefix_len test xs) (test x) refl (splits_at_prefix_len test xs)

-- the first bytes that pass, and the others
pub splits_at : (test : ℕ → Bool) (xs run after : List ℕ) (n : ℕ) → n ≡ prefix_len test xs → run ≡ take n xs → after ≡ drop n xs → SplitsRun test xs run after
splits_at test xs run after n len front back =
    let here : SplitsRun test xs (take n xs) (drop n xs) = subst (λ (k : ℕ). SplitsRun test xs (take k xs) (drop k xs)) (sym len) (splits_at_prefix_len test xs) in
    let with_front : SplitsRun test xs run (drop n xs) = subst (λ (l : List ℕ). SplitsRun test xs l (drop n xs)) (sym front) here in
    subst (λ (l : List ℕ). SplitsRun test xs run l) (sym back) with_front

-- no front in which each byte passes is longer than what stands before a byte that does not
pub run_bounds : (test : ℕ → Bool) (run after front rest : List ℕ) → HeadFails test after → list_all test front ≡ true → run ++ after ≡ front ++ rest → length front ≤ length run
run_bounds test run after [] rest ends passes same = omega arith
run_bounds test [] after (y ∷ front) rest ends passes same =
    let failed : HeadFails test (y ∷ (front ++ rest)) = subst (HeadFails test) same ends in
    absurd (both_ways (test y) failed (and_parts (test y) (list_all test front) passes).0)
run_bounds test (x ∷ run) after (y ∷ front) rest ends passes same =
    let tails : run ++ after ≡ front ++ rest = cc in
    omega (arith, run_bounds test run after front rest ends (and_parts (test y) (list_all test front) passes).1 tails)

-- a text has one longest run
pub one_run : (test : ℕ → Bool) (run after other rest : List ℕ) → HeadFails test after → HeadFails test rest → list_all test run ≡ true → list_all test other ≡ true → run ++ after ≡ other ++ rest → (run ≡ other) × (after ≡ rest)
one_run test [] after [] rest ends stops passes all same = (refl, same)
one_run test [] after (y ∷ other) rest ends stops passes all same =
    let failed : HeadFails test (y ∷ (other ++ rest)) = subst (HeadFails test) same ends in
    absurd (both_ways (test y) failed (and_parts (test y) (list_all test other) all).0)
one_run test (x ∷ run) after [] rest ends stops passes all same =
    let failed : HeadFails test (x ∷ (run ++ after)) = subst (HeadFails test) (sym same) stops in
    absurd (both_ways (test x) failed (and_parts (test x) (list_all test run) passes).0)
one_run test (x ∷ run) after (y ∷ other) rest ends stops passes all same =
    let tails : run ++ after ≡ other ++ rest = cc in
    let found = one_run test run after other rest ends stops (and_parts (test x) (list_all test run) passes).1 (and_parts (test y) (list_all test other) all).1 tails in
    let heads : x ≡ y = cc in
    let fronts : run ≡ other = found.0 in
    (cc, found.1)
