-- Places in a row that pass a test.
use Rattle.std.proofs.Common.{◌≡◌, ℕ, zero, suc, ◌+◌, ◌-◌, ◌<◌, ◌≤◌, inl, inr, Bool, true, false, cond, ◌||◌, refl, sym, ap, ◌∙◌, subst, add-one, arith}
use Rattle.std.proofs.lemmas.Bool.{cases_lt, cases_Bool, cond-true, cond-false, or_left, or_right, or_cases, both_ways}
use Rattle.sn_clear.specs.Places.{passes_before, count_before, run_start, run_end}

-- the places from a to before b pass
pub record AllPass (p : ℕ → Bool) (a b : ℕ) : Type 0 where
  pub pass : (m : ℕ) → a ≤ m → m < b → p m ≡ true

-- s is the first place of the run that goes through k
pub record IsStart (p : ℕ → Bool) (k s : ℕ) : Type 0 where
  pub before : s ≤ k
  pub pass : AllPass p s k
  pub stops : (m : ℕ) → m + 1 ≡ s → p m ≡ false

-- e is the last place of the run from k among the places before n
pub record IsEnd (p : ℕ → Bool) (n k e : ℕ) : Type 0 where
  pub after : k ≤ e
  pub within : e < n
  pub pass : AllPass p (k + 1) (e + 1)
  pub stops : e + 1 < n → p (e + 1) ≡ false

pub start-next : (p : ℕ → Bool) (k : ℕ) → run_start p (suc k) ≡ cond (p k) (run_start p k) (suc k)
unfolding run_start
start-next p k = refl

pub start-none : (p : ℕ → Bool) → run_start p zero ≡ zero
unfolding run_start
start-none p = refl

pub start_is : (p : ℕ → Bool) (k s : ℕ) → IsStart p k s → s ≡ run_start p k
start_is p zero s h = let z : s ≡ zero = omega (arith, h.before) in z ∙ sym (start-none p)
start_is p (suc k) s h =
    elim (cases_lt k s) [
      | inl above ↦
          let same : s ≡ suc k = omega (arith, h.before) in
          let off : p k ≡ false = h.stops k (omega arith) in
          same ∙ sym (start-next p k ∙ cond-false (p k) _ _ off)
      | inr below ↦
          let on : p k ≡ true = h.pass.pass k below (omega arith) in
          start_is p k s (record {
            before = below;
            pass = record { pass = λ m low high. h.pass.pass m low (omega arith) };
            stops = h.stops;
          }) ∙ sym (start-next p k ∙ cond-true (p k) _ _ on)
    ]

pub end-next : (p : ℕ → Bool) (k m : ℕ) → run_end p k (suc m) ≡ cond (p (suc k)) (run_end p (suc k) m) k
unfolding run_end
end-next p k m = refl

pub end-none : (p : ℕ → Bool) (k : ℕ) → run_end p k zero ≡ k
unfolding run_end
end-none p k = refl

end_after : (p : ℕ → Bool) (m k e : ℕ) → k ≤ e → e ≤ k + m → AllPass p (k + 1) (e + 1) → (e < k + m → p (e + 1) ≡ false) → e ≡ run_end p k m
end_after p zero k e low high pass stops = let same : e ≡ k = omega arith in same ∙ sym (end-none p k)
end_after p (suc m) k e low high pass stops =
    elim (cases_lt k e) [
      | inl above ↦
          let on : p (suc k) ≡ true = pass.pass (suc k) (omega arith) (omega arith) in
          end_after p m (suc k) e above (omega arith)
          (record { pass = λ i from to. pass.pass i (omega arith) to }) (λ more. stops (omega arith))
          ∙ sym (end-next p k m ∙ cond-true (p (suc k)) _ _ on)
      | inr same ↦
          let is : e ≡ k = omega arith in
          let P : ℕ → Type 0 = λ i. p i ≡ false in
          let off : p (suc k) ≡ false = subst P (omega arith) (stops (omega arith)) in
          is ∙ sym (end-next p k m ∙ cond-false (p (suc k)) _ _ off)
    ]

pub end_is : (p : ℕ → Bool) (n k e : ℕ) → IsEnd p n k e → e ≡ run_end p k (n - 1 - k)
end_is p n k e h = end_after p (n - 1 - k) k e h.after (omega (arith, h.within, h.after)) h.pass (λ more. h.stops (omega (arith, h.after)))

passes-none : (p : ℕ → Bool) → passes_before p zero ≡ false
unfolding passes_before
passes-none p = refl

passes-next : (p : ℕ → Bool) (n : ℕ) → passes_before p (suc n) ≡ (passes_before p n || p n)
unfolding passes_before
passes-next p n = refl

pub none_passes : (p : ℕ → Bool) → passes_before p 0 ≡ false
none_passes p = passes-none p

-- none passes before the next place
pub none_passes_yet : (p : ℕ → Bool) (n : ℕ) → passes_before p n ≡ false → p n ≡ false → passes_before p (n + 1) ≡ false
none_passes_yet p n before here = ap (passes_before p) (add-one n) ∙ passes-next p n ∙ rw (before, here) refl

-- one passes
pub one_passes : (p : ℕ → Bool) (n k : ℕ) → k < n → p k ≡ true → passes_before p n ≡ true
one_passes p zero k below here = absurd (omega arith)
one_passes p (suc n) k below here =
    passes-next p n ∙ elim (cases_lt k n) [
      | inl before ↦ or_left (passes_before p n) (p n) (one_passes p n k before here)
      | inr reached ↦ let same : k ≡ n = omega arith in or_right (passes_before p n) (p n) (sym (ap p same) ∙ here)
    ]

-- the place that passes
pub which_passes : (p : ℕ → Bool) (n : ℕ) → passes_before p n ≡ true → (k : ℕ) × (k < n) × (p k ≡ true)
which_passes p zero one = absurd (both_ways (passes_before p zero) (passes-none p) one)
which_passes p (suc n) one =
    elim (or_cases (passes_before p n) (p n) (sym (passes-next p n) ∙ one)) [
      | inl before ↦ let (k, below, here) = which_passes p n before in (k, omega (arith, below), here)
      | inr here ↦ (n, omega arith, here)
    ]

count-none : (p : ℕ → Bool) → count_before p zero ≡ 0
unfolding count_before
count-none p = refl

count-next : (p : ℕ → Bool) (n : ℕ) → count_before p (suc n) ≡ count_before p n + cond (p n) 1 0
unfolding count_before
count-next p n = refl

pub count_none : (p : ℕ → Bool) → count_before p 0 ≡ 0
count_none p = count-none p

pub one_counted : (p : ℕ → Bool) (n m : ℕ) → p n ≡ true → m ≡ count_before p n → m + 1 ≡ count_before p (n + 1)
one_counted p n m here is =
    sym (ap (count_before p) (add-one n) ∙ count-next p n ∙ ap (λ k. count_before p n + k) (cond-true (p n) 1 0 here) ∙ ap (λ k. k + 1) (sym is))

pub none_counted : (p : ℕ → Bool) (n m : ℕ) → p n ≡ false → m ≡ count_before p n → m ≡ count_before p (n + 1)
none_counted p n m here is =
    let last : count_before p n + 0 ≡ m = omega (arith, is) in
    sym (ap (count_before p) (add-one n) ∙ count-next p n ∙ ap (λ k. count_before p n + k) (cond-false (p n) 1 0 here) ∙ last)

pub count_small : (p : ℕ → Bool) (n : ℕ) → count_before p n ≤ n
count_small p zero = omega (arith, count-none p)
count_small p (suc n) =
    elim (cases_Bool (p n)) [
      | inl on ↦ omega (arith, count-next p n, cond-true {A = ℕ} (p n) 1 0 on, count_small p n)
      | inr off ↦ omega (arith, count-next p n, cond-false {A = ℕ} (p n) 1 0 off, count_small p n)
    ]
