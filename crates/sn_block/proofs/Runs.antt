-- The run of a number's text, byte by byte.
use Rattle.std.proofs.Common.{◌≡◌, ℕ, ◌+◌, ◌<◌, ◌≤◌, Bool, true, false, List, [], ◌∷◌, ◌++◌, length, get_or, drop, refl, ap, ◌∙◌, sym, arith, cond, append_assoc}
use Rattle.std.proofs.lemmas.List.{append-nil, drop_all}
use Rattle.std.proofs.lemmas.Bool.{or_from, or_left, or_right, not_from_true, not_from_false}
use Rattle.std.proofs.lemmas.Bool.Decides.{nat_tests}
use Rattle.std.proofs.lemmas.List.{at_drop_more}
use Rattle.std.proofs.lemmas.List.Sums.{take_while-cons}
use Rattle.std.specs.Prelude.{◌||◌, not, filter}
use Rattle.sn_geom.specs.LineText.{run, is_numeric, is_blank}

numeric_not_blank : (b : ℕ) → is_numeric b ≡ true → is_blank b ≡ false
numeric_not_blank b h = grind (arith, nat_tests)

continues : ℕ → Bool
continues b = is_numeric b || is_blank b

filter_take : (b : ℕ) (bs : List ℕ) (t u : Bool) → not (is_blank b) ≡ u → filter (λ x. not (is_blank x)) (b ∷ bs) ≡ cond u (b ∷ filter (λ x. not (is_blank x)) bs) (filter (λ x. not (is_blank x)) bs)
filter_take b bs t u e = rw e refl

run_cons : (b : ℕ) (bs : List ℕ) (t u : Bool) → (is_numeric b || is_blank b) ≡ t → not (is_blank b) ≡ u → run (b ∷ bs) ≡ cond t (cond u (b ∷ run bs) (run bs)) []
unfolding run
run_cons b bs true u e f = rw (take_while-cons (λ x. is_numeric x || is_blank x) b bs, e) (rw f refl)
run_cons b bs false u e f = rw (take_while-cons (λ x. is_numeric x || is_blank x) b bs, e) refl

pub run_numeric : (bs : List ℕ) (i : ℕ) → i < length bs → is_numeric (get_or bs i 0) ≡ true → run (drop i bs) ≡ get_or bs i 0 ∷ run (drop (i + 1) bs)
run_numeric bs i h e =
    let b = get_or bs i 0 in
    at_drop_more run bs i 0 h
    ∙ run_cons (get_or bs i 0) (drop (i + 1) bs) true true (or_left _ _ e) (not_from_false _ (numeric_not_blank (get_or bs i 0) e))

pub run_blank : (bs : List ℕ) (i : ℕ) → i < length bs → is_blank (get_or bs i 0) ≡ true → run (drop i bs) ≡ run (drop (i + 1) bs)
run_blank bs i h e =
    at_drop_more run bs i 0 h
    ∙ run_cons (get_or bs i 0) (drop (i + 1) bs) true false (or_right _ _ e) (not_from_true _ e)

pub run_ends : (bs : List ℕ) (i : ℕ) → i < length bs → is_numeric (get_or bs i 0) ≡ false → is_blank (get_or bs i 0) ≡ false → run (drop i bs) ≡ []
run_ends bs i h e f =
    at_drop_more run bs i 0 h
    ∙ run_cons (get_or bs i 0) (drop (i + 1) bs) false true (or_from _ _ e f) (not_from_false _ f)

pub run_none : run [] ≡ []
unfolding run
run_none = refl

-- ---- the invariant of the loop: what was copied, then the run of what is left, is the run

module _ (text bytes : List ℕ) (i : ℕ) (h : i < length bytes) (so_far : text ++ run (drop i bytes) ≡ run bytes) where
  pub copied : (more : List ℕ) → is_numeric (get_or bytes i 0) ≡ true → more ≡ text ++ get_or bytes i 0 ∷ [] → more ++ run (drop (i + 1) bytes) ≡ run bytes
  copied more e m =
      ap (λ xs. xs ++ run (drop (i + 1) bytes)) m
      ∙ (append_assoc text (get_or bytes i 0 ∷ []) (run (drop (i + 1) bytes))
      ∙ (ap (λ xs. text ++ xs) (sym (run_numeric bytes i h e)) ∙ so_far))

  pub skipped : is_blank (get_or bytes i 0) ≡ true → text ++ run (drop (i + 1) bytes) ≡ run bytes
  skipped e = ap (λ xs. text ++ xs) (sym (run_blank bytes i h e)) ∙ so_far

  pub stopped : is_numeric (get_or bytes i 0) ≡ false → is_blank (get_or bytes i 0) ≡ false → text ≡ run bytes
  stopped e f = sym (append-nil text) ∙ (ap (λ xs. text ++ xs) (sym (run_ends bytes i h e f)) ∙ so_far)

pub ended : (text bytes : List ℕ) (i : ℕ) → length bytes ≤ i → text ++ run (drop i bytes) ≡ run bytes → text ≡ run bytes
ended text bytes i h so_far = sym (append-nil text) ∙ (ap (λ xs. text ++ xs) (sym (ap run (drop_all i bytes h) ∙ run_none)) ∙ so_far)
