-- The words of lists of parameters that are open.
use Rattle.std.proofs.Common.{◌≡◌, ℕ, ◌+◌, ◌≤◌, true, IsTrue, ◌⊎◌, inl, inr, List, [], ◌∷◌, ◌++◌, length, flat_map, Some, None, refl, sym, ap, subst, ◌∙◌, append_assoc, append-nil, arith}
use Rattle.std.proofs.lemmas.Bool.{and_from}
use Rattle.std.specs.List.{list_all, AllByRecursion}
use Rattle.std.proofs.lemmas.Grind.{flat_map-append}
use Rattle.sn_lex.specs.declared.token.Token.TheVariants.{LeftParen, RightParen, Comma}
use Rattle.sn_p21.specs.declared.file.Param.{Param}
use Rattle.sn_p21.specs.declared.file.Param.TheVariants as param
use Rattle.sn_p21.specs.declared.grammar.list.Opening.{Opening}
use Rattle.sn_p21.specs.declared.grammar.list.Opening.TheVariants.{Plain, Typed}
use Rattle.sn_p21.specs.declared.grammar.list.OpenList.{OpenList}
use Rattle.sn_p21.specs.Word.{Word, mark, keyword}
use Rattle.sn_p21.specs.Grammar.{param_words, list_words, rest_of_list, nesting, is_whole}
use Rattle.sn_p21.specs.Reader.{parted, parted_behind, param_of_list, is_typed}
use Rattle.sn_p21.proofs.ParamLayers.{words_list, words_typed, nesting_list, nesting_typed, whole_list, whole_typed}
use Rattle.sn_p21.proofs.ParamsRead.{body_words, list_words_is, words_of, deepest}

-- parameters with a comma behind each
abbrev pub comma_words : List Param → List Word
comma_words ps = flat_map (λ p. param_words p ++ mark Comma ∷ []) ps

pub comma_words_push : (qs : List Param) (p : Param) → (comma_words qs ++ param_words p) ++ mark Comma ∷ [] ≡ comma_words (qs ++ p ∷ [])
comma_words_push qs p =
    append_assoc (comma_words qs) (param_words p) (mark Comma ∷ [])
    ∙ ap (λ ws. comma_words qs ++ ws) (sym (append-nil (param_words p ++ mark Comma ∷ [])))
    ∙ sym (flat_map-append (λ q. param_words q ++ mark Comma ∷ []) qs (p ∷ []))

rest_is_body : (qs : List Param) (p : Param) → mark Comma ∷ body_words (words_of (qs ++ p ∷ [])) ≡ rest_of_list (words_of (qs ++ p ∷ []))
rest_is_body [] p = refl
rest_is_body (q ∷ qs) p = refl

body_is : (qs : List Param) (p : Param) → comma_words qs ++ (param_words p ++ mark RightParen ∷ []) ≡ body_words (words_of (qs ++ p ∷ []))
body_is [] p = refl
body_is (q ∷ qs) p =
    append_assoc (param_words q ++ mark Comma ∷ []) (comma_words qs) (param_words p ++ mark RightParen ∷ [])
    ∙ append_assoc (param_words q) (mark Comma ∷ []) (comma_words qs ++ (param_words p ++ mark RightParen ∷ []))
    ∙ ap (λ ws. param_words q ++ mark Comma ∷ ws) (body_is qs p)
    ∙ ap (λ ws. param_words q ++ ws) (rest_is_body qs p)

-- what stands at the opening of a list
abbrev pub lead : Opening → List Word
lead Plain = mark LeftParen ∷ []
lead (Typed name) = keyword name ∷ mark LeftParen ∷ []

-- a list that is open, with a comma behind each of its parameters
abbrev pub begun : OpenList → List Word
begun l = lead l.opening ++ comma_words l.params

list_is : (qs : List Param) (p : Param) → mark LeftParen ∷ (comma_words qs ++ (param_words p ++ mark RightParen ∷ [])) ≡ list_words (words_of (qs ++ p ∷ []))
list_is qs p = ap (λ ws. mark LeftParen ∷ ws) (body_is qs p) ∙ sym (list_words_is (words_of (qs ++ p ∷ [])))

lead_closed : (opening : Opening) (qs : List Param) (p : Param) → lead opening ++ (comma_words qs ++ (param_words p ++ mark RightParen ∷ [])) ≡ param_words (param_of_list opening (qs ++ p ∷ []))
lead_closed Plain qs p = list_is qs p ∙ sym (words_list (qs ++ p ∷ []))
lead_closed (Typed name) qs p = ap (λ ws. keyword name ∷ ws) (list_is qs p) ∙ sym (words_typed name (qs ++ p ∷ []))

-- a list is closed behind its last parameter
pub closed_words : (opening : Opening) (qs : List Param) (p : Param) → (lead opening ++ (comma_words qs ++ param_words p)) ++ mark RightParen ∷ [] ≡ param_words (param_of_list opening (qs ++ p ∷ []))
closed_words opening qs p =
    append_assoc (lead opening) (comma_words qs ++ param_words p) (mark RightParen ∷ [])
    ∙ ap (λ ws. lead opening ++ ws) (append_assoc (comma_words qs) (param_words p) (mark RightParen ∷ []))
    ∙ lead_closed opening qs p

-- the first of the lists is that of an entity
abbrev pub HeadPlain : List OpenList → Type 0
HeadPlain [] = Unit {0}
HeadPlain (l ∷ ls) = l.opening ≡ Plain

pub head_push : (ls : List OpenList) (l m : OpenList) → HeadPlain (ls ++ l ∷ []) → HeadPlain ((ls ++ l ∷ []) ++ m ∷ [])
head_push [] l m h = h
head_push (k ∷ ls) l m h = h

pub head_pop : (ls : List OpenList) (l m : OpenList) → HeadPlain ((ls ++ l ∷ []) ++ m ∷ []) → HeadPlain (ls ++ l ∷ [])
head_pop [] l m h = h
head_pop (k ∷ ls) l m h = h

pub head_same : (ls : List OpenList) (l m : OpenList) → m.opening ≡ l.opening → HeadPlain (ls ++ l ∷ []) → HeadPlain (ls ++ m ∷ [])
head_same [] l m e h = e ∙ h
head_same (k ∷ ls) l m e h = h

-- either no list, or a last one
pub parted_cases : (ls : List OpenList) → ((ls ≡ []) × (parted ls ≡ None)) ⊎ ((front : List OpenList) × (last : OpenList) × (ls ≡ front ++ last ∷ []) × (parted ls ≡ Some (front, last)))
parted_cases [] = inl (refl, refl)
parted_cases (l ∷ ls) = more (parted_cases ls)
  where
    more : ((ls ≡ []) × (parted ls ≡ None)) ⊎ ((front : List OpenList) × (last : OpenList) × (ls ≡ front ++ last ∷ []) × (parted ls ≡ Some (front, last))) → ((l ∷ ls ≡ []) × (parted (l ∷ ls) ≡ None)) ⊎ ((front : List OpenList) × (last : OpenList) × (l ∷ ls ≡ front ++ last ∷ []) × (parted (l ∷ ls) ≡ Some (front, last)))
    more (inl e) = inr ([], l, ap (λ xs. l ∷ xs) e.0, ap (λ o. Some (parted_behind l o)) e.1)
    more (inr e) = inr (l ∷ e.0, e.1, ap (λ xs. l ∷ xs) e.2, ap (λ o. Some (parted_behind l o)) e.3)

module _ (limit : ℕ) where
  -- a whole parameter that has room at this depth
  abbrev pub FitsAt : ℕ → Param → Type 0
  FitsAt depth p = IsTrue (is_whole p) × (nesting p + depth ≤ limit)

  abbrev pub AllFitAt : ℕ → List Param → Type 0
  AllFitAt depth ps = AllByRecursion (FitsAt depth) ps

  pub fit_push : (depth : ℕ) (ps : List Param) (p : Param) → AllFitAt depth ps → FitsAt depth p → AllFitAt depth (ps ++ p ∷ [])
  fit_push depth [] p all one = (one, tt)
  fit_push depth (q ∷ ps) p all one = (all.0, fit_push depth ps p all.1 one)

  pub all_whole : (depth : ℕ) (ps : List Param) → AllFitAt depth ps → IsTrue (list_all is_whole ps)
  all_whole depth [] h = refl
  all_whole depth (p ∷ ps) h = and_from (is_whole p) (list_all is_whole ps) h.0.0 (all_whole depth ps h.1)

  pub all_within : (depth : ℕ) (ps : List Param) → depth ≤ limit → AllFitAt depth ps → deepest ps + depth ≤ limit
  all_within depth [] k h = omega arith
  all_within depth (p ∷ ps) k h = let rest = all_within depth ps k h.1 in let one = h.0.1 in omega arith

  -- a list that is closed fits within the one around it
  pub list_fits : (opening : Opening) (depth : ℕ) (qs : List Param) (p : Param) → (is_typed (record { opening = opening; params = [] }) ≡ true → qs ≡ []) → depth + 1 ≤ limit → AllFitAt (depth + 1) (qs ++ p ∷ []) → FitsAt depth (param_of_list opening (qs ++ p ∷ []))
  list_fits Plain depth qs p one k h =
      let ps = qs ++ p ∷ [] in
      let n = all_within (depth + 1) ps k h in
      (whole_list ps ∙ all_whole (depth + 1) ps h, omega (arith, nesting_list ps))
  list_fits (Typed name) depth [] p one k h =
      let n = all_within (depth + 1) (p ∷ []) k h in
      (whole_typed name p ∙ h.0.0, omega (arith, nesting_typed name (p ∷ [])))
  list_fits (Typed name) depth (q ∷ qs) p one k h = absurd (let e : q ∷ qs ≡ [] = one refl in cc)

  pub empty_fits : (depth : ℕ) → depth + 1 ≤ limit → FitsAt depth (param.List [])
  empty_fits depth k = (whole_list [], omega (arith, nesting_list []))

  -- a list around another: that of a typed parameter has no parameter yet
  abbrev pub Around : ℕ → OpenList → Type 0
  Around depth l = (is_typed l ≡ true → l.params ≡ []) × AllFitAt depth l.params

  abbrev pub AllAround : ℕ → List OpenList → Type 0
  AllAround depth [] = Unit {0}
  AllAround depth (l ∷ ls) = Around depth l × AllAround (depth + 1) ls

  pub around_push : (depth : ℕ) (ls : List OpenList) (l : OpenList) → AllAround depth ls → Around (depth + length ls) l → AllAround depth (ls ++ l ∷ [])
  around_push depth [] l all one = (let e : depth + length {A = OpenList} [] ≡ depth = omega arith in subst (λ d. Around d l) e one, tt)
  around_push depth (m ∷ ls) l all one =
      let e : depth + length (m ∷ ls) ≡ depth + 1 + length ls = omega arith in
      (all.0, around_push (depth + 1) ls l all.1 (subst (λ d. Around d l) e one))

  pub around_pop : (depth : ℕ) (ls : List OpenList) (l : OpenList) → AllAround depth (ls ++ l ∷ []) → AllAround depth ls × Around (depth + length ls) l
  around_pop depth [] l all = (tt, let e : depth ≡ depth + length {A = OpenList} [] = omega arith in subst (λ d. Around d l) e all.0)
  around_pop depth (m ∷ ls) l all =
      let rest = around_pop (depth + 1) ls l all.1 in
      let e : depth + 1 + length ls ≡ depth + length (m ∷ ls) = omega arith in
      ((all.0, rest.0), subst (λ d. Around d l) e rest.1)
