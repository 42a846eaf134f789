-- The words of a parameter are read as that parameter.
use Rattle.std.proofs.Common.{◌≡◌, ℕ, ◌+◌, ◌≤◌, Bool, true, false, cond, ◌&&◌, nat_lt, IsTrue, List, [], ◌∷◌, ◌++◌, length, map, Option, Some, None, Ok, Err, refl, sym, ap, subst, ◌∙◌, append_assoc, append-nil, length-append, arith, rules, tests}
use Rattle.std.specs.List.{list_all}
use Rattle.sn_lex.specs.declared.token.Token.TheVariants.{Number, Integer, Real, Text, Enumeration, Binary, LeftParen, RightParen, Dollar, Star}
use Rattle.sn_p21.specs.declared.file.Param.{Param}
use Rattle.sn_p21.specs.declared.file.Param.TheOpen.{Param-F}
use Rattle.sn_p21.specs.declared.file.Param.TheViews.{roll-Param}
use Rattle.sn_p21.specs.declared.file.Param.TheFolds.{ind-Param, map-Param}
use Rattle.sn_p21.specs.declared.grammar.place.Place.{Place}
use Rattle.sn_p21.specs.declared.grammar.place.Place.TheVariants.{FirstParam, NextParam, AfterParam, TypedList}
use Rattle.sn_p21.specs.declared.grammar.list.Opening.{Opening}
use Rattle.sn_p21.specs.declared.grammar.list.Opening.TheVariants.{Plain, Typed}
use Rattle.sn_p21.specs.declared.grammar.list.OpenList.{OpenList}
use Rattle.sn_p21.specs.declared.grammar.reader.Reader.{Reader}
use Rattle.sn_p21.specs.declared.file.Param.TheVariants as param
use Rattle.sn_p21.specs.declared.file.Entity.{Entity}
use Rattle.sn_p21.specs.declared.grammar.place.Owner.{Owner}
use Rattle.sn_p21.specs.declared.grammar.place.Owner.TheVariants as owner
use Rattle.sn_p21.specs.Word.{Word, mark}
use Rattle.sn_p21.specs.Grammar.{param_words, list_words, rest_of_list, nesting, greatest, is_whole}
use Rattle.sn_p21.specs.Reader.{step, closes, closes_in, parted, empty_list, is_typed, param_of_list, opens, unexpected, deep, takes_entity}
use Rattle.sn_p21.proofs.StepLemmas.{parted_push}
use denote.Hole.Carrier.{roll}
use Rattle.sn_p21.proofs.ParamLayers.{words_int, words_real, words_text, words_enum, words_binary, words_ref, words_list, words_typed, words_absent, words_derived, nesting_list, nesting_typed, whole_list, whole_typed, typed_not_empty, typed_not_more}
use Rattle.sn_p21.proofs.Runs.{and_then, run}

-- the reader at a place, with no keyword of a typed parameter
abbrev pub at : Place → Reader → Reader
at place s = record s { place = place; typed = [] }

-- the reader behind a parameter, of which the innermost list has these more
abbrev pub took : Reader → List Param → Reader
took s ps = record s { place = AfterParam; typed = []; list = record s.list { params = s.list.params ++ ps } }

-- what is left of a list behind its opening
abbrev pub body_words : List (List Word) → List Word
body_words [] = mark RightParen ∷ []
body_words (p ∷ ps) = p ++ rest_of_list ps

pub list_words_is : (ps : List (List Word)) → list_words ps ≡ mark LeftParen ∷ body_words ps
list_words_is [] = refl
list_words_is (p ∷ ps) = refl

abbrev pub words_of : List Param → List (List Word)
words_of ps = map param_words ps

abbrev pub deepest : List Param → ℕ
deepest ps = greatest (map nesting ps)

took_more : (s : Reader) (p : Param) (ps : List Param) → took (took s (p ∷ [])) ps ≡ took s (p ∷ ps)
took_more s p ps = ap (λ l. record s { place = AfterParam; typed = []; list = record s.list { params = l } }) (append_assoc s.list.params (p ∷ []) ps)

first_true : (a b : Bool) → IsTrue (a && b) → IsTrue a
first_true true b h = refl
first_true false b h = h

second_true : (a b : Bool) → IsTrue (a && b) → IsTrue b
second_true true b h = h
second_true false b h = absurd (let e : false ≡ true = h in cc)

entity_any_place : (w : Owner) (s : Reader) (x y : Place) (e : Entity) → takes_entity w (record s { place = x }) e ≡ takes_entity w (record s { place = y }) e
entity_any_place owner.Header s x y e = refl
entity_any_place owner.Section s x y e = refl
entity_any_place owner.Simple s x y e = refl
entity_any_place owner.Complex s x y e = refl

closes_any_place : (o : Option (List OpenList × OpenList)) (s : Reader) (x y : Place) → closes_in (record s { place = x }) o ≡ closes_in (record s { place = y }) o
closes_any_place None s x y = entity_any_place s.owner (record s { keyword = []; list = empty_list Plain }) x y (record { keyword = s.keyword; params = s.list.params })
closes_any_place (Some o) s x y = refl

-- the reader within a list that has no parameter yet
abbrev pub fresh : Reader → Reader
fresh s = record s { list = empty_list Plain }

-- a list within another is open
abbrev pub inner : Opening → Reader → Reader
inner opening s = record s { outer = s.outer ++ s.list ∷ []; list = empty_list opening }

-- the innermost list closes within the one around it
closes_inner : (opening : Opening) (s : Reader) (ps : List Param) → closes (took (inner opening s) ps) ≡ Ok (took s (param_of_list opening ps ∷ []))
closes_inner opening s ps = ap (closes_in (took (inner opening s) ps)) (parted_push s.outer s.list)

module _ (limit : ℕ) where
  -- a parameter of this nesting may be read here
  abbrev pub HasRoom : Reader → ℕ → Type 0
  HasRoom s n = length s.outer + 1 + n ≤ limit

  abbrev pub IsRead : Param → Type 0
  IsRead p = (s : Reader) (rest : List Word) → HasRoom s (nesting p) → IsTrue (is_whole p) → (run limit (at FirstParam s) (param_words p ++ rest) ≡ run limit (took s (p ∷ [])) rest) × (run limit (at NextParam s) (param_words p ++ rest) ≡ run limit (took s (p ∷ [])) rest)

  abbrev pub Known : Type 0
  Known = (p : Param) × IsRead p

  abbrev pub params_of : List Known → List Param
  params_of es = map (λ e. e.0) es

  comma_step : (b : Bool) (s : Reader) (ws : List Word) → b ≡ false → and_then (cond b (Err unexpected) (Ok (at NextParam s))) (λ next. run limit next ws) ≡ run limit (at NextParam s) ws
  comma_step b s ws h = ap (λ c. and_then (cond c (Err unexpected) (Ok (at NextParam s))) (λ next. run limit next ws)) h

  -- what follows a parameter of a list, to the closing parenthesis
  pub rest_is_read : (es : List Known) (s : Reader) (rest : List Word) → is_typed s.list ≡ false → HasRoom s (deepest (params_of es)) → IsTrue (list_all is_whole (params_of es)) → run limit (at AfterParam s) (rest_of_list (words_of (params_of es)) ++ rest) ≡ and_then (closes (took s (params_of es))) (λ next. run limit next rest)
  rest_is_read [] s rest plain room whole =
      ap (λ l. and_then (closes (record s { place = AfterParam; typed = []; list = record s.list { params = l } })) (λ next. run limit next rest)) (sym (append-nil s.list.params))
  rest_is_read (e ∷ es) s rest plain room whole =
      let ps = params_of es in
      let others = rest_of_list (words_of ps) in
      let here : HasRoom s (nesting e.0) = omega arith in
      let there : HasRoom s (deepest ps) = omega arith in
      let one = first_true (is_whole e.0) (list_all is_whole ps) whole in
      let all = second_true (is_whole e.0) (list_all is_whole ps) whole in
      comma_step (is_typed s.list) s ((param_words e.0 ++ others) ++ rest) plain
      ∙ ap (run limit (at NextParam s)) (append_assoc (param_words e.0) others rest)
      ∙ (e.1 s (others ++ rest) here one).1
      ∙ rest_is_read es (took s (e.0 ∷ [])) rest plain there all
      ∙ ap (λ t. and_then (closes t) (λ next. run limit next rest)) (took_more s e.0 ps)

  -- a list behind its opening
  pub body_is_read : (es : List Known) (s : Reader) (rest : List Word) → HasRoom s (deepest (params_of es)) → IsTrue (list_all is_whole (params_of es)) → run limit (at FirstParam (fresh s)) (body_words (words_of (params_of es)) ++ rest) ≡ and_then (closes (took (fresh s) (params_of es))) (λ next. run limit next rest)
  body_is_read [] s rest room whole = ap (λ t. and_then t (λ next. run limit next rest)) (closes_any_place (parted s.outer) (took (fresh s) []) FirstParam AfterParam)
  body_is_read (e ∷ es) s rest room whole =
      let ps = params_of es in
      let others = rest_of_list (words_of ps) in
      let here : HasRoom s (nesting e.0) = omega arith in
      let there : HasRoom s (deepest ps) = omega arith in
      let one = first_true (is_whole e.0) (list_all is_whole ps) whole in
      let all = second_true (is_whole e.0) (list_all is_whole ps) whole in
      ap (run limit (at FirstParam (fresh s))) (append_assoc (param_words e.0) others rest)
      ∙ (e.1 (fresh s) (others ++ rest) here one).0
      ∙ rest_is_read es (took (fresh s) (e.0 ∷ [])) rest refl there all
      ∙ ap (λ t. and_then (closes t) (λ next. run limit next rest)) (took_more (fresh s) e.0 ps)

  opens_step : (b : Bool) (t : Reader) (ws : List Word) → b ≡ true → and_then (cond b (Ok t) (Err deep)) (λ next. run limit next ws) ≡ run limit t ws
  opens_step b t ws h = ap (λ c. and_then (cond c (Ok t) (Err deep)) (λ next. run limit next ws)) h

  pub list_is_read : (es : List Known) (s : Reader) (rest : List Word) → HasRoom s (deepest (params_of es) + 1) → IsTrue (list_all is_whole (params_of es)) → and_then (opens limit Plain (at FirstParam s)) (λ next. run limit next (body_words (words_of (params_of es)) ++ rest)) ≡ run limit (took s (param.List (params_of es) ∷ [])) rest
  list_is_read es s rest room whole =
      let ps = params_of es in
      let t = inner Plain s in
      let outer : length t.outer ≡ length s.outer + 1 = length-append s.outer (s.list ∷ []) in
      let there : HasRoom t (deepest ps) = omega arith in
      opens_step (nat_lt (length s.outer + 1) limit) (at FirstParam t) (body_words (words_of ps) ++ rest) (search (rules, tests))
      ∙ body_is_read es t rest there whole
      ∙ ap (λ r. and_then r (λ next. run limit next rest)) (closes_inner Plain s ps)

  atom_is_read : (p : Param) (w : Word) → param_words p ≡ w ∷ [] → ((s : Reader) → step limit (at FirstParam s) w.token w.value ≡ Ok (took s (p ∷ []))) → ((s : Reader) → step limit (at NextParam s) w.token w.value ≡ Ok (took s (p ∷ []))) → IsRead p
  atom_is_read p w e first next s rest room whole = (
    ap (λ ws. run limit (at FirstParam s) (ws ++ rest)) e ∙ ap (λ r. and_then r (λ t. run limit t rest)) (first s),
    ap (λ ws. run limit (at NextParam s) (ws ++ rest)) e ∙ ap (λ r. and_then r (λ t. run limit t rest)) (next s),
  )

  list_layer_is_read : (es : List Known) → IsRead (param.List (params_of es))
  list_layer_is_read es s rest room whole =
      let ps = params_of es in
      let words = words_list ps ∙ list_words_is (words_of ps) in
      let here : HasRoom s (deepest ps + 1) = omega (arith, nesting_list ps) in
      let each : IsTrue (list_all is_whole ps) = sym (whole_list ps) ∙ whole in (
        ap (λ ws. run limit (at FirstParam s) (ws ++ rest)) words ∙ list_is_read es s rest here each,
        ap (λ ws. run limit (at NextParam s) (ws ++ rest)) words ∙ list_is_read es s rest here each,
      )

  -- the one parameter of a typed parameter, and the closing parenthesis
  typed_body_is_read : (e : Known) (name : List ℕ) (s : Reader) (rest : List Word) → HasRoom s (nesting e.0 + 1) → IsTrue (is_whole e.0) → and_then (opens limit (Typed name) (at TypedList s)) (λ next. run limit next ((param_words e.0 ++ mark RightParen ∷ []) ++ rest)) ≡ run limit (took s (param.Typed name (e.0 ∷ []) ∷ [])) rest
  typed_body_is_read e name s rest room whole =
      let t = inner (Typed name) s in
      let outer : length t.outer ≡ length s.outer + 1 = length-append s.outer (s.list ∷ []) in
      let there : HasRoom t (nesting e.0) = omega arith in
      opens_step (nat_lt (length s.outer + 1) limit) (at NextParam t) ((param_words e.0 ++ mark RightParen ∷ []) ++ rest) (search (rules, tests))
      ∙ ap (run limit (at NextParam t)) (append_assoc (param_words e.0) (mark RightParen ∷ []) rest)
      ∙ (e.1 t (mark RightParen ∷ rest) there whole).1
      ∙ ap (λ r. and_then r (λ next. run limit next rest)) (closes_inner (Typed name) s (e.0 ∷ []))

  typed_layer_is_read : (name : List ℕ) (es : List Known) → IsRead (param.Typed name (params_of es))
  typed_layer_is_read name [] s rest room whole = absurd (let e : false ≡ true = sym (typed_not_empty name) ∙ whole in cc)
  typed_layer_is_read name (d ∷ e ∷ es) s rest room whole = absurd (let f : false ≡ true = sym (typed_not_more name d.0 e.0 (params_of es)) ∙ whole in cc)
  typed_layer_is_read name (e ∷ []) s rest room whole =
      let words = words_typed name (e.0 ∷ []) in
      let here : HasRoom s (nesting e.0 + 1) = omega (arith, nesting_typed name (e.0 ∷ [])) in
      let one : IsTrue (is_whole e.0) = sym (whole_typed name e.0) ∙ whole in (
        ap (λ ws. run limit (at FirstParam s) (ws ++ rest)) words ∙ typed_body_is_read e name s rest here one,
        ap (λ ws. run limit (at NextParam s) (ws ++ rest)) words ∙ typed_body_is_read e name s rest here one,
      )

  layer_is_read : (y : Param-F Known) → IsRead (roll-Param (map-Param Known Param (λ e. e.0) y))
  unfolding roll-Param roll
  layer_is_read (Param-F.Int v) = atom_is_read (param.Int v) (record { token = Integer; value = v }) (words_int v) (λ s. refl) (λ s. refl)
  layer_is_read (Param-F.Real v) = atom_is_read (param.Real v) (record { token = Real; value = v }) (words_real v) (λ s. refl) (λ s. refl)
  layer_is_read (Param-F.Text v) = atom_is_read (param.Text v) (record { token = Text; value = v }) (words_text v) (λ s. refl) (λ s. refl)
  layer_is_read (Param-F.Enum v) = atom_is_read (param.Enum v) (record { token = Enumeration; value = v }) (words_enum v) (λ s. refl) (λ s. refl)
  layer_is_read (Param-F.Binary v) = atom_is_read (param.Binary v) (record { token = Binary; value = v }) (words_binary v) (λ s. refl) (λ s. refl)
  layer_is_read (Param-F.Ref n) = atom_is_read (param.Ref n) (mark (Number n)) (words_ref n) (λ s. refl) (λ s. refl)
  layer_is_read (Param-F.List es) = list_layer_is_read es
  layer_is_read (Param-F.Typed name es) = typed_layer_is_read name es
  layer_is_read Param-F.Absent = atom_is_read param.Absent (mark Dollar) words_absent (λ s. refl) (λ s. refl)
  layer_is_read Param-F.Derived = atom_is_read param.Derived (mark Star) words_derived (λ s. refl) (λ s. refl)

  pub param_is_read : (p : Param) → IsRead p
  param_is_read = ind-Param IsRead (λ x y is. subst (λ l. IsRead (roll-Param l)) is (layer_is_read y))
