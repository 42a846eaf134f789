-- A line of a percent sign alone, byte by byte.
use Rattle.std.proofs.Common.{◌≡◌, ℕ, ◌+◌, ◌<◌, ◌≤◌, Bool, true, false, List, [], ◌∷◌, ◌++◌, length, get_or, drop, refl, ap, sym, ◌∙◌}
use Rattle.std.proofs.lemmas.List.{at_drop_more, append-nil, drop_all}
use Rattle.std.specs.Prelude.{filter, not}
use Rattle.sn_geom.specs.LineText.{is_blank, IsPercentLine}

abbrev pub shown : Bool → List ℕ
shown true = 37 ∷ []
shown false = []

-- the bytes before i show a percent sign, or nothing
abbrev pub Shows : List ℕ → ℕ → Bool → Type 0
Shows line i seen = filter (λ b. not (is_blank b)) line ≡ shown seen ++ filter (λ b. not (is_blank b)) (drop i line)

module _ (line : List ℕ) (i : ℕ) (h : i < length line) where
  visible : is_blank (get_or line i 0) ≡ false → filter (λ b. not (is_blank b)) (drop i line) ≡ get_or line i 0 ∷ filter (λ b. not (is_blank b)) (drop (i + 1) line)
  visible e = at_drop_more (λ xs. filter (λ b. not (is_blank b)) xs) line i 0 h ∙ rw e refl

  pub shows_blank : (seen : Bool) → Shows line i seen → is_blank (get_or line i 0) ≡ true → Shows line (i + 1) seen
  shows_blank seen s e = s ∙ ap (λ xs. shown seen ++ xs) (at_drop_more (λ xs. filter (λ b. not (is_blank b)) xs) line i 0 h ∙ rw e refl)

  pub shows_sign : (seen now : Bool) → Shows line i seen → seen ≡ false → now ≡ true → is_blank (get_or line i 0) ≡ false → get_or line i 0 ≡ 37 → Shows line (i + 1) now
  shows_sign seen now s off on e p =
      s ∙ (ap (λ t. shown t ++ filter (λ b. not (is_blank b)) (drop i line)) off
      ∙ (visible e ∙ (ap (λ b. b ∷ filter (λ x. not (is_blank x)) (drop (i + 1) line)) p ∙ ap (λ t. shown t ++ filter (λ b. not (is_blank b)) (drop (i + 1) line)) (sym on))))

  pub not_second : (seen : Bool) → Shows line i seen → seen ≡ true → is_blank (get_or line i 0) ≡ false → IsPercentLine line → ⊥
  not_second seen s on e p =
      let all : filter (λ b. not (is_blank b)) line ≡ 37 ∷ get_or line i 0 ∷ filter (λ b. not (is_blank b)) (drop (i + 1) line) = s ∙ (ap (λ t. shown t ++ filter (λ b. not (is_blank b)) (drop i line)) on ∙ ap (λ xs. 37 ∷ xs) (visible e)) in
      let both : 37 ∷ get_or line i 0 ∷ filter (λ b. not (is_blank b)) (drop (i + 1) line) ≡ 37 ∷ [] = sym all ∙ p in
      cc

  pub not_sign : (seen : Bool) → Shows line i seen → seen ≡ false → is_blank (get_or line i 0) ≡ false → (get_or line i 0 ≡ 37 → ⊥) → IsPercentLine line → ⊥
  not_sign seen s off e other p =
      let all : filter (λ b. not (is_blank b)) line ≡ get_or line i 0 ∷ filter (λ b. not (is_blank b)) (drop (i + 1) line) = s ∙ (ap (λ t. shown t ++ filter (λ b. not (is_blank b)) (drop i line)) off ∙ visible e) in
      let both : get_or line i 0 ∷ filter (λ b. not (is_blank b)) (drop (i + 1) line) ≡ 37 ∷ [] = sym all ∙ p in
      other (cc)

at_end : (seen : Bool) (xs : List ℕ) → xs ≡ shown seen → (seen ≡ true → xs ≡ 37 ∷ []) × (xs ≡ 37 ∷ [] → seen ≡ true)
at_end true xs e = ((λ _. e), (λ _. refl))
at_end false xs e = ((λ h. absurd (cc)), (λ p. absurd (cc)))

pub shown_all : (line : List ℕ) (i : ℕ) (seen : Bool) → Shows line i seen → length line ≤ i → (seen ≡ true → IsPercentLine line) × (IsPercentLine line → seen ≡ true)
shown_all line i seen s h =
    at_end seen (filter (λ b. not (is_blank b)) line) (s ∙ (ap (λ xs. shown seen ++ filter (λ b. not (is_blank b)) xs) (drop_all i line h) ∙ append-nil (shown seen)))
