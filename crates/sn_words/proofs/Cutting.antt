-- Texts cut at the first place of a byte.
use Rattle.std.proofs.Common.{◌≡◌, ◌≢◌, ℕ, ◌==◌, List, [], ◌∷◌, ◌++◌, Option, Some, None, Bool, true, false, cond, refl, ap, ◌∙◌, arith}
use Rattle.std.proofs.lemmas.Bool.Decides.{nat_tests}
use Rattle.std.specs.Prelude.{unwrap_or}
use Rattle.sn_words.specs.Reading.{behind_text, cut_at}

-- c is no byte of the text
abbrev pub Lacks : ℕ → List ℕ → Type 0
Lacks c [] = Unit {0}
Lacks c (b ∷ bs) = (b ≢ c) × Lacks c bs

pub Lacks-append : (c : ℕ) (xs ys : List ℕ) → Lacks c xs → Lacks c ys → Lacks c (xs ++ ys)
Lacks-append c [] ys h k = k
Lacks-append c (x ∷ xs) ys h k = (h.0, Lacks-append c xs ys h.1 k)

cut_at-other : (c b : ℕ) (bs : List ℕ) → b ≢ c → cut_at c (b ∷ bs) ≡ behind_text (b ∷ []) (cut_at c bs)
cut_at-other c b bs other = let e : (b == c) ≡ false = grind (arith, nat_tests) in rw e refl

cut_at-same : (c : ℕ) (bs : List ℕ) → cut_at c (c ∷ bs) ≡ Some ([], bs)
cut_at-same c bs = let e : (c == c) ≡ true = grind (arith, nat_tests) in rw e refl

pub cut_at-front : (c : ℕ) (front rest : List ℕ) → Lacks c front → cut_at c (front ++ c ∷ rest) ≡ Some (front, rest)
cut_at-front c [] rest h = cut_at-same c rest
cut_at-front c (b ∷ bs) rest h = cut_at-other c b (bs ++ c ∷ rest) h.0 ∙ ap (behind_text (b ∷ [])) (cut_at-front c bs rest h.1)

-- the two parts of an answer
pub same_parts : (a b c d : List ℕ) → ◌≡◌ {A = Option (List ℕ × List ℕ)} (Some (a, b)) (Some (c, d)) → (a ≡ c) × (b ≡ d)
same_parts a b c d e = (ap (λ (o : Option (List ℕ × List ℕ)). (unwrap_or {T = List ℕ × List ℕ} o ([], [])).0) e, ap (λ (o : Option (List ℕ × List ℕ)). (unwrap_or {T = List ℕ × List ℕ} o ([], [])).1) e)

joined_by : (c b : ℕ) (bs front rest : List ℕ) (t : Bool) (r : Option (List ℕ × List ℕ)) → (b == c) ≡ t
    → ((f g : List ℕ) → r ≡ Some (f, g) → bs ≡ f ++ c ∷ g) → cond t (Some ([], bs)) (behind_text (b ∷ []) r) ≡ Some (front, rest)
    → b ∷ bs ≡ front ++ c ∷ rest
joined_by c b bs front rest true r test tail e =
    let same : b ≡ c = grind (arith, nat_tests) in
    let parts = same_parts [] bs front rest e in
    rw (← parts.0, ← parts.1) (ap (λ x. x ∷ bs) same)
joined_by c b bs front rest false None test tail e = absurd (cc)
joined_by c b bs front rest false (Some p) test tail e =
    let parts = same_parts (b ∷ p.0) p.1 front rest e in
    rw (← parts.0, ← parts.1) (ap (λ x. b ∷ x) (tail p.0 p.1 refl))

pub cut_at-joined : (c : ℕ) (text front rest : List ℕ) → cut_at c text ≡ Some (front, rest) → text ≡ front ++ c ∷ rest
cut_at-joined c [] front rest e = absurd (cc)
cut_at-joined c (b ∷ bs) front rest e = joined_by c b bs front rest (b == c) (cut_at c bs) refl (λ f g. cut_at-joined c bs f g) e
