-- Two limits on open lists: a step is the same under both, or opens one list more than the lower one admits.
use Rattle.std.proofs.Common.{◌≡◌, ℕ, ◌+◌, ◌<◌, ◌≤◌, Bool, true, false, cond, nat_lt, ◌⊎◌, inl, inr, ⊎_elim, List, [], ◌∷◌, length, Ok, Err, refl, sym, ap, ◌∙◌, arith}
use Rattle.std.proofs.lemmas.Bool.{ltb-true, lt-ltb}
use Rattle.sn_lex.specs.declared.token.Token.{Token}
use Rattle.sn_lex.specs.declared.token.Token.TheVariants.{Keyword, LeftParen}
use Rattle.sn_p21.specs.declared.grammar.place.Place.{Place}
use Rattle.sn_p21.specs.declared.grammar.place.Place.TheVariants.{FirstParam, NextParam, TypedList}
use Rattle.sn_p21.specs.declared.grammar.list.Opening.{Opening}
use Rattle.sn_p21.specs.declared.grammar.list.Opening.TheVariants.{Plain, Typed}
use Rattle.sn_p21.specs.declared.grammar.reader.Reader.{Reader}
use Rattle.sn_p21.specs.Word.{Word}
use Rattle.sn_p21.specs.Reader.{Step, deep, opens, step, step_at, step_param, step_first_param, step_typed_list}
use Rattle.sn_p21.proofs.KeptLemmas.{no_reader}
use Rattle.sn_p21.proofs.Runs.{and_then, run, first_gave}

abbrev pub SameOrDeep : Step → Step → Type 0
SameOrDeep x y = (x ≡ y) ⊎ (x ≡ Err deep)

module _ (limit more : ℕ) (above : limit ≤ more) where
  opens_cases : (b d : Bool) (s : Reader) → (b ≡ true → d ≡ true) → SameOrDeep (cond b (Ok s) (Err deep)) (cond d (Ok s) (Err deep))
  opens_cases true d s h = inl (ap (λ c. cond c (Ok s) (Err deep)) (sym (h refl)))
  opens_cases false d s h = inr refl

  opens_same : (opening : Opening) (s : Reader) → SameOrDeep (opens limit opening s) (opens more opening s)
  opens_same opening s = opens_cases (nat_lt (length s.outer + 1) limit) (nat_lt (length s.outer + 1) more) _ (λ e. let h : length s.outer + 1 < limit = ltb-true _ _ e in lt-ltb _ _ (omega arith))

  param_same : (s : Reader) (t : Token) (v : List ℕ) → SameOrDeep (step_param limit s t v) (step_param more s t v)
  param_same s LeftParen v = opens_same Plain s
  param_same s _ v = inl refl

  first_same : (s : Reader) (t : Token) (v : List ℕ) → SameOrDeep (step_first_param limit s t v) (step_first_param more s t v)
  first_same s LeftParen v = opens_same Plain s
  first_same s _ v = inl refl

  typed_same : (s : Reader) (t : Token) → SameOrDeep (step_typed_list limit s t) (step_typed_list more s t)
  typed_same s LeftParen = opens_same (Typed s.typed) (record s { typed = [] })
  typed_same s _ = inl refl

  same_at : (p : Place) (s : Reader) (t : Token) (v : List ℕ) → SameOrDeep (step_at limit p s t v) (step_at more p s t v)
  same_at FirstParam s t v = first_same s t v
  same_at NextParam s t v = param_same s t v
  same_at TypedList s t v = typed_same s t
  same_at _ s t v = inl refl

  pub same_or_deep : (s : Reader) (t : Token) (v : List ℕ) → SameOrDeep (step limit s t v) (step more s t v)
  same_or_deep s t v = same_at s.place s t v

  -- what is read under the lower limit is read under the higher one
  step_more : (s r : Reader) (t : Token) (v : List ℕ) → step limit s t v ≡ Ok r → step more s t v ≡ Ok r
  step_more s r t v h = ⊎_elim (λ e. sym e ∙ h) (λ e. no_reader deep r (sym e ∙ h)) (same_or_deep s t v)

  pub run_more : (ws : List Word) (s r : Reader) → run limit s ws ≡ Ok r → run more s ws ≡ Ok r
  run_more [] s r h = h
  run_more (w ∷ ws) s r h =
      let first = first_gave limit (step limit s w.token w.value) ws r h in
      ap (λ x. and_then x (λ next. run more next ws)) (step_more s first.0 w.token w.value first.1) ∙ run_more ws first.0 r first.2

keyword_at : (limit more : ℕ) (p : Place) (s : Reader) (v : List ℕ) → step_at limit p s Keyword v ≡ step_at more p s Keyword v
keyword_at limit more FirstParam s v = refl
keyword_at limit more NextParam s v = refl
keyword_at limit more TypedList s v = refl
keyword_at limit more _ s v = refl

-- a keyword is read alike under all limits
pub keyword_same : (limit more : ℕ) (s : Reader) (v : List ℕ) → step limit s Keyword v ≡ step more s Keyword v
keyword_same limit more s v = keyword_at limit more s.place s v
