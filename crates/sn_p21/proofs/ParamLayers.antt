-- The words, the nesting and the form of each kind of parameter.
use Rattle.std.proofs.Common.{◌≡◌, ℕ, ◌+◌, Bool, true, false, ◌&&◌, List, [], ◌∷◌, map, refl, ap, ◌∙◌}
use Rattle.std.specs.List.{list_all}
use denote.Hole.Carrier.{roll}
use Rattle.sn_lex.specs.declared.token.Token.TheVariants.{Number, Integer, Real, Text, Enumeration, Binary, Dollar, Star}
use Rattle.sn_p21.specs.declared.file.Param.{Param}
use Rattle.sn_p21.specs.declared.file.Param.TheVariants as param
use Rattle.sn_p21.specs.declared.file.Param.TheOpen.{Param-F}
use Rattle.sn_p21.specs.declared.file.Param.TheViews.{roll-Param}
use Rattle.sn_p21.specs.declared.file.Param.TheFolds.{fold-roll-Param}
use Rattle.sn_p21.specs.Word.{Word, mark, keyword}
use Rattle.sn_p21.specs.Grammar.{param_words, layer_words, list_words, nesting, layer_nesting, greatest, is_whole, layer_is_whole}

pub words_int : (v : List ℕ) → param_words (param.Int v) ≡ record { token = Integer; value = v } ∷ []
unfolding roll-Param roll
words_int v = fold-roll-Param (List Word) layer_words (Param-F.Int v)

pub words_real : (v : List ℕ) → param_words (param.Real v) ≡ record { token = Real; value = v } ∷ []
unfolding roll-Param roll
words_real v = fold-roll-Param (List Word) layer_words (Param-F.Real v)

pub words_text : (v : List ℕ) → param_words (param.Text v) ≡ record { token = Text; value = v } ∷ []
unfolding roll-Param roll
words_text v = fold-roll-Param (List Word) layer_words (Param-F.Text v)

pub words_enum : (v : List ℕ) → param_words (param.Enum v) ≡ record { token = Enumeration; value = v } ∷ []
unfolding roll-Param roll
words_enum v = fold-roll-Param (List Word) layer_words (Param-F.Enum v)

pub words_binary : (v : List ℕ) → param_words (param.Binary v) ≡ record { token = Binary; value = v } ∷ []
unfolding roll-Param roll
words_binary v = fold-roll-Param (List Word) layer_words (Param-F.Binary v)

pub words_ref : (n : ℕ) → param_words (param.Ref n) ≡ mark (Number n) ∷ []
unfolding roll-Param roll
words_ref n = fold-roll-Param (List Word) layer_words (Param-F.Ref n)

pub words_absent : param_words param.Absent ≡ mark Dollar ∷ []
unfolding roll-Param roll
words_absent = fold-roll-Param (List Word) layer_words Param-F.Absent

pub words_derived : param_words param.Derived ≡ mark Star ∷ []
unfolding roll-Param roll
words_derived = fold-roll-Param (List Word) layer_words Param-F.Derived

pub words_list : (ps : List Param) → param_words (param.List ps) ≡ list_words (map param_words ps)
unfolding roll-Param roll
words_list ps = fold-roll-Param (List Word) layer_words (Param-F.List ps)

pub words_typed : (k : List ℕ) (ps : List Param) → param_words (param.Typed k ps) ≡ keyword k ∷ list_words (map param_words ps)
unfolding roll-Param roll
words_typed k ps = fold-roll-Param (List Word) layer_words (Param-F.Typed k ps)

pub nesting_list : (ps : List Param) → nesting (param.List ps) ≡ greatest (map nesting ps) + 1
unfolding roll-Param roll
nesting_list ps = fold-roll-Param ℕ layer_nesting (Param-F.List ps)

pub nesting_typed : (k : List ℕ) (ps : List Param) → nesting (param.Typed k ps) ≡ greatest (map nesting ps) + 1
unfolding roll-Param roll
nesting_typed k ps = fold-roll-Param ℕ layer_nesting (Param-F.Typed k ps)

pub nesting_int : (v : List ℕ) → nesting (param.Int v) ≡ 0
unfolding roll-Param roll
nesting_int v = fold-roll-Param ℕ layer_nesting (Param-F.Int v)

pub nesting_real : (v : List ℕ) → nesting (param.Real v) ≡ 0
unfolding roll-Param roll
nesting_real v = fold-roll-Param ℕ layer_nesting (Param-F.Real v)

pub nesting_text : (v : List ℕ) → nesting (param.Text v) ≡ 0
unfolding roll-Param roll
nesting_text v = fold-roll-Param ℕ layer_nesting (Param-F.Text v)

pub nesting_enum : (v : List ℕ) → nesting (param.Enum v) ≡ 0
unfolding roll-Param roll
nesting_enum v = fold-roll-Param ℕ layer_nesting (Param-F.Enum v)

pub nesting_binary : (v : List ℕ) → nesting (param.Binary v) ≡ 0
unfolding roll-Param roll
nesting_binary v = fold-roll-Param ℕ layer_nesting (Param-F.Binary v)

pub nesting_ref : (n : ℕ) → nesting (param.Ref n) ≡ 0
unfolding roll-Param roll
nesting_ref n = fold-roll-Param ℕ layer_nesting (Param-F.Ref n)

pub nesting_absent : nesting param.Absent ≡ 0
unfolding roll-Param roll
nesting_absent = fold-roll-Param ℕ layer_nesting Param-F.Absent

pub nesting_derived : nesting param.Derived ≡ 0
unfolding roll-Param roll
nesting_derived = fold-roll-Param ℕ layer_nesting Param-F.Derived

all_map : (ps : List Param) → list_all (λ b. b) (map is_whole ps) ≡ list_all is_whole ps
all_map [] = refl
all_map (p ∷ ps) = ap (λ b. is_whole p && b) (all_map ps)

pub whole_list : (ps : List Param) → is_whole (param.List ps) ≡ list_all is_whole ps
unfolding roll-Param roll
whole_list ps = fold-roll-Param Bool layer_is_whole (Param-F.List ps) ∙ all_map ps

pub whole_typed : (k : List ℕ) (p : Param) → is_whole (param.Typed k (p ∷ [])) ≡ is_whole p
unfolding roll-Param roll
whole_typed k p = fold-roll-Param Bool layer_is_whole (Param-F.Typed k (p ∷ []))

pub typed_not_empty : (k : List ℕ) → is_whole (param.Typed k []) ≡ false
unfolding roll-Param roll
typed_not_empty k = fold-roll-Param Bool layer_is_whole (Param-F.Typed k [])

pub typed_not_more : (k : List ℕ) (p q : Param) (ps : List Param) → is_whole (param.Typed k (p ∷ q ∷ ps)) ≡ false
unfolding roll-Param roll
typed_not_more k p q ps = fold-roll-Param Bool layer_is_whole (Param-F.Typed k (p ∷ q ∷ ps))

pub whole_int : (v : List ℕ) → is_whole (param.Int v) ≡ true
unfolding roll-Param roll
whole_int v = fold-roll-Param Bool layer_is_whole (Param-F.Int v)

pub whole_real : (v : List ℕ) → is_whole (param.Real v) ≡ true
unfolding roll-Param roll
whole_real v = fold-roll-Param Bool layer_is_whole (Param-F.Real v)

pub whole_text : (v : List ℕ) → is_whole (param.Text v) ≡ true
unfolding roll-Param roll
whole_text v = fold-roll-Param Bool layer_is_whole (Param-F.Text v)

pub whole_enum : (v : List ℕ) → is_whole (param.Enum v) ≡ true
unfolding roll-Param roll
whole_enum v = fold-roll-Param Bool layer_is_whole (Param-F.Enum v)

pub whole_binary : (v : List ℕ) → is_whole (param.Binary v) ≡ true
unfolding roll-Param roll
whole_binary v = fold-roll-Param Bool layer_is_whole (Param-F.Binary v)

pub whole_ref : (n : ℕ) → is_whole (param.Ref n) ≡ true
unfolding roll-Param roll
whole_ref n = fold-roll-Param Bool layer_is_whole (Param-F.Ref n)

pub whole_absent : is_whole param.Absent ≡ true
unfolding roll-Param roll
whole_absent = fold-roll-Param Bool layer_is_whole Param-F.Absent

pub whole_derived : is_whole param.Derived ≡ true
unfolding roll-Param roll
whole_derived = fold-roll-Param Bool layer_is_whole Param-F.Derived
