-- The project among instances.
use Rattle.std.proofs.Common.{◌≡◌, ℕ, ◌⊎◌, inl, inr, ◌+◌, true, false, List, [], ◌∷◌, ◌++◌, take, drop, slice_get, Option, Some, None, is_some, MatchOption, refl, sym, ap, subst, ◌∙◌, append_assoc}
use Rattle.sn_p21.specs.declared.file.Instance.{Instance}
use Rattle.sn_model.specs.Built.{IsProject, HaveNoProject, HaveOneProject, HaveSecondProject}
use Rattle.sn_model.proofs.Places.{take_next, split_at}

-- The same along the instances: at each one, a project or none.

abbrev pub First : List Instance → ℕ → Type 0
First [] n = ⊥
First (i ∷ is) n = (IsProject i × (i.number ≡ n)) ⊎ (¬ IsProject i × First is n)

abbrev pub One : List Instance → ℕ → Type 0
One [] n = ⊥
One (i ∷ is) n = (IsProject i × (i.number ≡ n) × HaveNoProject is) ⊎ (¬ IsProject i × One is n)

abbrev pub Second : List Instance → ℕ → Type 0
Second [] n = ⊥
Second (i ∷ is) n = (IsProject i × First is n) ⊎ (¬ IsProject i × Second is n)

first_after : (before : List Instance) (i : Instance) (after : List Instance) → HaveNoProject before → IsProject i → First (before ++ i ∷ after) i.number
first_after [] i after none h = inl (h, refl)
first_after (b ∷ bs) i after none h = inr (none.0, first_after bs i after none.1 h)

one_after : (before : List Instance) (i : Instance) (after : List Instance) → HaveNoProject before → IsProject i → HaveNoProject after → One (before ++ i ∷ after) i.number
one_after [] i after none h rest = inl (h, refl, rest)
one_after (b ∷ bs) i after none h rest = inr (none.0, one_after bs i after none.1 h rest)

second_after : (before : List Instance) (first : ℕ) (i : Instance) (after : List Instance) → One before first → IsProject i → Second (before ++ i ∷ after) i.number
second_after [] first i after one h = absurd one
second_after (b ∷ bs) first i after (inl one) h = inl (one.0, first_after bs i after one.2 h)
second_after (b ∷ bs) first i after (inr one) h = inr (one.0, second_after bs first i after one.1 h)

pub one_along : (is : List Instance) (n : ℕ) → HaveOneProject is n → One is n
one_along is n h = subst (λ m. One is m) h.number (subst (λ js. One js h.project.number) (sym h.all) (one_after h.before h.project h.after h.none_before h.is_project h.none_after))

pub second_along : (is : List Instance) (n : ℕ) → HaveSecondProject is n → Second is n
second_along is n h = subst (λ m. Second is m) h.number (subst (λ js. Second js h.second.number) (sym h.all) (second_after h.before h.first h.second h.after (one_along h.before h.first h.one_before) h.is_project))

-- One number.

first_number : (is : List Instance) (m n : ℕ) → First is m → First is n → m ≡ n
first_number [] m n h k = absurd h
first_number (i ∷ is) m n (inl h) (inl k) = sym h.1 ∙ k.1
first_number (i ∷ is) m n (inl h) (inr k) = absurd (k.0 h.0)
first_number (i ∷ is) m n (inr h) (inl k) = absurd (h.0 k.0)
first_number (i ∷ is) m n (inr h) (inr k) = first_number is m n h.1 k.1

pub one_number : (is : List Instance) (m n : ℕ) → One is m → One is n → m ≡ n
one_number [] m n h k = absurd h
one_number (i ∷ is) m n (inl h) (inl k) = sym h.1 ∙ k.1
one_number (i ∷ is) m n (inl h) (inr k) = absurd (k.0 h.0)
one_number (i ∷ is) m n (inr h) (inl k) = absurd (h.0 k.0)
one_number (i ∷ is) m n (inr h) (inr k) = one_number is m n h.1 k.1

pub second_number : (is : List Instance) (m n : ℕ) → Second is m → Second is n → m ≡ n
second_number [] m n h k = absurd h
second_number (i ∷ is) m n (inl h) (inl k) = first_number is m n h.1 k.1
second_number (i ∷ is) m n (inl h) (inr k) = absurd (k.0 h.0)
second_number (i ∷ is) m n (inr h) (inl k) = absurd (h.0 k.0)
second_number (i ∷ is) m n (inr h) (inr k) = second_number is m n h.1 k.1

-- No project, one and more exclude each other.

first_not_none : (is : List Instance) (n : ℕ) → First is n → ¬ HaveNoProject is
first_not_none [] n h none = h
first_not_none (i ∷ is) n (inl h) none = none.0 h.0
first_not_none (i ∷ is) n (inr h) none = first_not_none is n h.1 none.1

pub one_not_none : (is : List Instance) (n : ℕ) → One is n → ¬ HaveNoProject is
one_not_none [] n h none = h
one_not_none (i ∷ is) n (inl h) none = none.0 h.0
one_not_none (i ∷ is) n (inr h) none = one_not_none is n h.1 none.1

pub second_not_none : (is : List Instance) (n : ℕ) → Second is n → ¬ HaveNoProject is
second_not_none [] n h none = h
second_not_none (i ∷ is) n (inl h) none = none.0 h.0
second_not_none (i ∷ is) n (inr h) none = second_not_none is n h.1 none.1

pub second_not_one : (is : List Instance) (m n : ℕ) → Second is m → ¬ One is n
second_not_one [] m n h k = h
second_not_one (i ∷ is) m n (inl h) (inl k) = first_not_none is m h.1 k.2
second_not_one (i ∷ is) m n (inl h) (inr k) = k.0 h.0
second_not_one (i ∷ is) m n (inr h) (inl k) = h.0 k.0
second_not_one (i ∷ is) m n (inr h) (inr k) = second_not_one is m n h.1 k.1

-- One instance more.

pub none_more : (is : List Instance) (i : Instance) → HaveNoProject is → ¬ IsProject i → HaveNoProject (is ++ i ∷ [])
none_more [] i none h = (h, tt)
none_more (j ∷ is) i none h = (none.0, none_more is i none.1 h)

pub first_project : (is : List Instance) (i : Instance) → HaveNoProject is → IsProject i → HaveOneProject (is ++ i ∷ []) i.number
first_project is i none h = record { before = is; project = i; after = []; all = refl; is_project = h; number = refl; none_before = none; none_after = tt }

pub one_more : (is : List Instance) (i : Instance) (n : ℕ) → HaveOneProject is n → ¬ IsProject i → HaveOneProject (is ++ i ∷ []) n
one_more is i n one h = record {
  before = one.before;
  project = one.project;
  after = one.after ++ i ∷ [];
  all = ap (λ js. js ++ i ∷ []) one.all ∙ append_assoc one.before (one.project ∷ one.after) (i ∷ []);
  is_project = one.is_project;
  number = one.number;
  none_before = one.none_before;
  none_after = none_more one.after i one.none_after h;
}

-- The instance at a place.

-- the project of the instances so far, if there is one
abbrev pub SoFar : List Instance → Option ℕ → Type 0
SoFar is found = MatchOption found (HaveNoProject is) (λ n. HaveOneProject is n)

pub no_project_at : (is : List Instance) (at : ℕ) (i : Instance) (found : Option ℕ) → slice_get is at ≡ Some i → ¬ IsProject i → SoFar (take at is) found → SoFar (take (at + 1) is) found
no_project_at is at i None e h so_far = subst HaveNoProject (sym (take_next is at i e)) (none_more (take at is) i so_far h)
no_project_at is at i (Some n) e h so_far = subst (λ js. HaveOneProject js n) (sym (take_next is at i e)) (one_more (take at is) i n so_far h)

pub first_project_at : (is : List Instance) (at : ℕ) (i : Instance) (found : Option ℕ) → slice_get is at ≡ Some i → IsProject i → is_some found ≡ false → SoFar (take at is) found → HaveOneProject (take (at + 1) is) i.number
first_project_at is at i None e h none so_far = subst (λ js. HaveOneProject js i.number) (sym (take_next is at i e)) (first_project (take at is) i so_far h)
first_project_at is at i (Some n) e h none so_far = cc

pub second_project_at : (is : List Instance) (at : ℕ) (i : Instance) (found : Option ℕ) → slice_get is at ≡ Some i → IsProject i → is_some found ≡ true → SoFar (take at is) found → HaveSecondProject is i.number
second_project_at is at i None e h some so_far = cc
second_project_at is at i (Some n) e h some so_far = record {
  before = take at is;
  second = i;
  after = drop (at + 1) is;
  first = n;
  all = split_at is at i e;
  is_project = h;
  number = refl;
  one_before = so_far;
}
