-- How many words a line can have.
use Rattle.std.proofs.Common.{◌≡◌, ℕ, ◌+◌, ◌≤◌, ◌==◌, Bool, true, false, cond, List, [], ◌∷◌, length, refl, ap, sym, ◌∙◌, arith, ⊎_elim, suc, one-add, zero-add}
use Rattle.std.proofs.lemmas.Bool.{or_cases, and_parts, or_left, or_right}
use Rattle.std.proofs.lemmas.List.Elements.{All-head, All-tail}
use Rattle.std.proofs.lemmas.List.Sums.{sum_by-cons}
use Rattle.std.specs.Prelude.{◌||◌, ◌&&◌, All, count_by, Option, Some, None}
use Rattle.std.specs.List.{find, list_any, list_all}
use Rattle.sn_geom.specs.declared.machine.Word.{Word}
use Rattle.sn_geom.specs.declared.block.ModalWord.{ModalWord}
use Rattle.sn_geom.specs.LineTable.{is_plain, is_accepted, is_accepted_row, is_word, in_group, modal_word, modal_words}
use Rattle.sn_geom.specs.BlockRule.{IsLineWord, AreDistinct}

-- the letters and the groups that stand at most once
abbrev letters : List ℕ
letters = 88 ∷ 89 ∷ 90 ∷ 72 ∷ 78 ∷ 84 ∷ 70 ∷ 83 ∷ []

abbrev groups : List (ℕ × ℕ)
groups =
    (71, 1) ∷ (71, 2) ∷ (71, 3) ∷ (71, 5) ∷ (71, 6) ∷ (71, 7) ∷ (71, 8) ∷ (71, 12) ∷ (71, 13)
    ∷ (77, 4) ∷ (77, 6) ∷ (77, 7) ∷ (77, 8) ∷ []

abbrev has_plain : Word → Bool
has_plain w = list_any (λ l. w.letter == l) letters

abbrev has_modal : Word → Bool
has_modal w = list_any (λ (g : ℕ × ℕ). in_group g.0 g.1 w) groups

-- ---- counts

count_cons : {A : Type 0} (p : A → Bool) (x : A) (xs : List A) → count_by p (x ∷ xs) ≡ cond (p x) 1 0 + count_by p xs
count_cons p x xs = sum_by-cons (λ y. cond (p y) 1 0) x xs

either_one : (a b : Bool) (m n k : ℕ) → k ≤ m + n → cond (a || b) 1 0 + k ≤ (cond a 1 0 + m) + (cond b 1 0 + n)
either_one true true m n k h = omega arith
either_one true false m n k h = omega arith
either_one false true m n k h = omega arith
either_one false false m n k h = omega arith

count_either : {A : Type 0} (p q : A → Bool) (xs : List A) → count_by (λ x. p x || q x) xs ≤ count_by p xs + count_by q xs
count_either p q [] = omega arith
count_either p q (x ∷ xs) =
    rw (count_cons (λ y. p y || q y) x xs, count_cons p x xs, count_cons q x xs)
    (either_one (p x) (q x) (count_by p xs) (count_by q xs) (count_by (λ y. p y || q y) xs) (count_either p q xs))

count_none : {A : Type 0} (xs : List A) → count_by (λ x. false) xs ≡ 0
count_none [] = refl
count_none (x ∷ xs) = count_cons (λ y. false) x xs ∙ (zero-add (count_by (λ y. false) xs) ∙ count_none xs)

abbrev Each : {A : Type 0} → (A → Type 0) → List A → Type 0
Each P [] = Unit {0}
Each P (x ∷ xs) = P x × Each P xs

-- at most one for each of them
count_any : {A : Type 0} (t : A → Word → Bool) (each : List A) (ws : List Word) → Each (λ a. count_by (t a) ws ≤ 1) each → count_by (λ w. list_any (λ a. t a w) each) ws ≤ length each
count_any t [] ws h = let e = count_none ws in omega (arith, e)
count_any t (a ∷ each) ws h = omega (arith, count_either (t a) (λ w. list_any (λ b. t b w) each) ws, h.0, count_any t each ws h.1)

count_all : {A : Type 0} (p : A → Bool) (xs : List A) → Each (λ x. p x ≡ true) xs → length xs ≡ count_by p xs
count_all p [] h = refl
count_all p (x ∷ xs) h = sym (count_cons p x xs ∙ (ap (λ b. cond b 1 0 + count_by p xs) h.0 ∙ (one-add (count_by p xs) ∙ ap (λ n. suc n) (sym (count_all p xs h.1)))))

each_of : {A : Type 0} (P Q : A → Type 0) → ((x : A) → P x → Q x) → (xs : List A) → All P xs → Each Q xs
each_of P Q f [] h = tt
each_of P Q f (x ∷ xs) h = (f x (All-head P x xs h), each_of P Q f xs (All-tail P x xs h))

-- ---- an accepted word has a letter or a group of these

or_right_way : (a b c d e f g h : Bool) → (a || b || c || (d || e || f) || (g || h)) ≡ (a || (b || (c || (d || (e || (f || (g || (h || false))))))))
or_right_way true b c d e f g h = refl
or_right_way false true c d e f g h = refl
or_right_way false false true d e f g h = refl
or_right_way false false false true e f g h = refl
or_right_way false false false false true f g h = refl
or_right_way false false false false false true g h = refl
or_right_way false false false false false false true h = refl
or_right_way false false false false false false false true = refl
or_right_way false false false false false false false false = refl

find_step : {A : Type 0} (p q : A → Bool) (y : A) (ys : List A) (x : A) (t : Bool) → p y ≡ t → cond t (Some y) (find p ys) ≡ Some x → q y ≡ true → (find p ys ≡ Some x → q x ≡ true) → q x ≡ true
find_step p q y ys x true e h here rest = let same : y ≡ x = cc in ap q (sym same) ∙ here
find_step p q y ys x false e h here rest = rest h

find_passes : {A : Type 0} (p q : A → Bool) (xs : List A) (x : A) → find p xs ≡ Some x → list_all q xs ≡ true → q x ≡ true
find_passes p q [] x e h = absurd (cc)
find_passes p q (y ∷ ys) x e h =
    let parts : (q y ≡ true) × (list_all q ys ≡ true) = and_parts (q y) (list_all q ys) h in
    find_step p q y ys x (p y) refl e parts.0 (λ f. find_passes p q ys x f parts.1)

abbrev is_known : ModalWord → Bool
is_known row = list_any (λ (g : ℕ × ℕ). row.letter == g.0 && row.group == g.1) groups

all_known : list_all is_known modal_words ≡ true
unfolding modal_words
all_known = refl

groups_of : (w : Word) (row : ModalWord) (gs : List (ℕ × ℕ)) → modal_word w ≡ Some row → list_any (λ (g : ℕ × ℕ). in_group g.0 g.1 w) gs ≡ list_any (λ (g : ℕ × ℕ). row.letter == g.0 && row.group == g.1) gs
unfolding in_group
groups_of w row [] e = refl
groups_of w row (g ∷ gs) e = rw (e, groups_of w row gs e) refl

row_has_group : (w : Word) (o : Option ModalWord) → modal_word w ≡ o → is_accepted_row o ≡ true → has_modal w ≡ true
unfolding modal_word
row_has_group w None e h = absurd (cc)
row_has_group w (Some row) e h = groups_of w row groups e ∙ find_passes (is_word w) is_known modal_words row e all_known

has_one : (w : Word) → is_accepted w ≡ true → (has_plain w || has_modal w) ≡ true
unfolding is_accepted
has_one w h =
    ⊎_elim
    (λ p. or_left (has_plain w) (has_modal w)
    (sym (or_right_way (w.letter == 88) (w.letter == 89) (w.letter == 90) (w.letter == 72) (w.letter == 78) (w.letter == 84) (w.letter == 70) (w.letter == 83)) ∙ p))
    (λ r. or_right (has_plain w) (has_modal w) (row_has_group w (modal_word w) refl r))
    (or_cases (is_plain w.letter) (is_accepted_row (modal_word w)) h)

pub few_words : (ws : List Word) → All IsLineWord ws → AreDistinct ws → length ws ≤ 21
few_words ws h d =
    let all : length ws ≡ count_by (λ w. has_plain w || has_modal w) ws = count_all (λ w. has_plain w || has_modal w) ws (each_of IsLineWord (λ w. (has_plain w || has_modal w) ≡ true) (λ w l. has_one w l.accepted) ws h) in
    let plain : count_by has_plain ws ≤ 8 = count_any (λ (l : ℕ) (w : Word). w.letter == l) letters ws (d.letters 88 refl, (d.letters 89 refl, (d.letters 90 refl, (d.letters 72 refl, (d.letters 78 refl, (d.letters 84 refl, (d.letters 70 refl, (d.letters 83 refl, tt)))))))) in
    let modal : count_by has_modal ws ≤ 13 = count_any (λ (g : ℕ × ℕ) (w : Word). in_group g.0 g.1 w) groups ws (d.groups 71 1, (d.groups 71 2, (d.groups 71 3, (d.groups 71 5, (d.groups 71 6, (d.groups 71 7, (d.groups 71 8, (d.groups 71 12, (d.groups 71 13, (d.groups 77 4, (d.groups 77 6, (d.groups 77 7, (d.groups 77 8, tt))))))))))))) in
    omega (arith, all, plain, modal, count_either has_plain has_modal ws)
