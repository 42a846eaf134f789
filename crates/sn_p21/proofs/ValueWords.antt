-- What a token carries is a function of its text.
use Rattle.std.proofs.Common.{◌≡◌, ℕ, ◌-◌, Bool, true, false, cond, eqb, List, [], ◌∷◌, ◌++◌, length, take, refl, sym, ap, subst, ◌∙◌, length-append, arith}
use Rattle.std.proofs.lemmas.Bool.{eqb-true}
use Rattle.sn_lex.specs.Form.{IsTextOf, doubled}
use Rattle.sn_lex.specs.declared.token.Token.{Token}
use Rattle.sn_lex.specs.declared.token.Token.TheVariants.{FileStart, FileEnd, Keyword, Number, Integer, Real, Text, Enumeration, Binary, LeftParen, RightParen, Comma, Semicolon, Equals, Dollar, Star, End}
use Rattle.sn_p21.specs.Word.{Carries}
use Rattle.sn_p21.specs.Reader.{inner, halved, value_of}

not_apostrophe : (c : ℕ) → eqb c 39 ≡ false → (cs : List ℕ) → halved (c ∷ doubled cs) ≡ c ∷ halved (doubled cs)
not_apostrophe c e [] = refl
not_apostrophe c e (d ∷ cs) = by (doubled (d ∷ cs))
  where
    by : (ds : List ℕ) → halved (c ∷ ds) ≡ c ∷ halved ds
    by [] = refl
    by (x ∷ xs) = ap (λ b. cond b (cond (eqb x 39) (c ∷ halved xs) (c ∷ halved (x ∷ xs))) (c ∷ halved (x ∷ xs))) e

doubled_head : (b : Bool) (c : ℕ) (cs : List ℕ) → eqb c 39 ≡ b → halved (doubled cs) ≡ cs → halved (doubled (c ∷ cs)) ≡ c ∷ cs
doubled_head true c cs e h = ap (λ b. halved (cond b (39 ∷ 39 ∷ doubled cs) (c ∷ doubled cs))) e ∙ ap (λ xs. 39 ∷ xs) h ∙ ap (λ x. x ∷ cs) (sym (eqb-true c 39 e))
doubled_head false c cs e h = ap (λ b. halved (cond b (39 ∷ 39 ∷ doubled cs) (c ∷ doubled cs))) e ∙ not_apostrophe c e cs ∙ ap (λ xs. c ∷ xs) h

pub halved_doubled : (cs : List ℕ) → halved (doubled cs) ≡ cs
halved_doubled [] = refl
halved_doubled (c ∷ cs) = doubled_head (eqb c 39) c cs refl (halved_doubled cs)

take_front : (xs ys : List ℕ) → take (length xs) (xs ++ ys) ≡ xs
take_front [] ys = refl
take_front (x ∷ xs) ys = ap (λ zs. x ∷ zs) (take_front xs ys)

pub inner_is : (a b : ℕ) (xs : List ℕ) → inner (a ∷ xs ++ b ∷ []) ≡ xs
inner_is a b xs =
    let n = length-append xs (b ∷ []) in
    let e : length (a ∷ xs ++ b ∷ []) - 1 - 1 ≡ length xs = omega arith in
    ap (λ k. take k (xs ++ b ∷ [])) e ∙ take_front xs (b ∷ [])

-- what a text carries
pub carried : (t : Token) (text value : List ℕ) → Carries t text value → value ≡ value_of t text
carried Keyword text value c = sym c
carried Integer text value c = sym c
carried Real text value c = sym c
carried Text text value c = sym (ap (λ x. halved (inner x)) c ∙ ap halved (inner_is 39 39 (doubled value)) ∙ halved_doubled value)
carried Enumeration text value c = sym (ap inner c ∙ inner_is 46 46 value)
carried Binary text value c = sym (ap inner c ∙ inner_is 34 34 value)
carried FileStart text value c = c
carried FileEnd text value c = c
carried (Number n) text value c = c
carried LeftParen text value c = c
carried RightParen text value c = c
carried Comma text value c = c
carried Semicolon text value c = c
carried Equals text value c = c
carried Dollar text value c = c
carried Star text value c = c
carried End text value c = c

-- each token's text carries something
pub carries : (t : Token) (text : List ℕ) → IsTextOf t text → Carries t text (value_of t text)
carries Keyword text h = refl
carries Integer text h = refl
carries Real text h = refl
carries Text text h = subst (Carries Text text) (carried Text text h.0 h.1) h.1
carries Enumeration text h = subst (Carries Enumeration text) (carried Enumeration text h.0 h.2) h.2
carries Binary text h = subst (Carries Binary text) (carried Binary text (h.0 ∷ h.1) h.4) h.4
carries FileStart text h = refl
carries FileEnd text h = refl
carries (Number n) text h = refl
carries LeftParen text h = refl
carries RightParen text h = refl
carries Comma text h = refl
carries Semicolon text h = refl
carries Equals text h = refl
carries Dollar text h = refl
carries Star text h = refl
carries End text h = refl
