-- Each word of a file is a mark, or a mark follows it.
use Rattle.std.proofs.Common.{◌⊎◌, ℕ, inl, inr, List, [], ◌∷◌, ◌++◌, map, take, drop, flat_map, Option, Some, None, sym, ap, subst, ◌≡◌, refl, append_assoc, append-nil}
use denote.Hole.Carrier.{roll}
use Rattle.sn_lex.specs.declared.token.Token.TheVariants.{Number, Integer, Real, Text, Enumeration, Binary, RightParen, Semicolon, Dollar, Star}
use Rattle.sn_p21.specs.declared.file.Param.{Param}
use Rattle.sn_p21.specs.declared.file.Param.TheVariants as param
use Rattle.sn_p21.specs.declared.file.Param.TheOpen.{Param-F}
use Rattle.sn_p21.specs.declared.file.Param.TheViews.{roll-Param}
use Rattle.sn_p21.specs.declared.file.Param.TheFolds.{ind-Param, map-Param}
use Rattle.sn_p21.specs.declared.file.Entity.{Entity}
use Rattle.sn_p21.specs.declared.file.Instance.{Instance}
use Rattle.sn_p21.specs.declared.file.Section.{Section}
use Rattle.sn_p21.specs.Content.{Content}
use Rattle.sn_p21.specs.Grammar.{param_words, list_words, rest_of_list, entity_words, header_words, enclosed_words, parts_words, opening_words, section_end_words, file_end_words, data_entity, data_words, rows_words, section_words, plainest_sections, plainest_words}
use Rattle.sn_p21.specs.Word.{Word, mark}
use Rattle.sn_p21.proofs.ParamLayers.{words_int, words_real, words_text, words_enum, words_binary, words_ref, words_list, words_typed, words_absent, words_derived}
use Rattle.sn_p21.proofs.ParamsRead.{words_of}
use Rattle.sn_p21.proofs.SpellingLemmas.{IsMark, IsWordToken}
use Rattle.sn_p21.proofs.Texts.{row_words}

-- a mark stands first
abbrev pub BeginWithMark : List Word → Type 0
BeginWithMark [] = ⊥
BeginWithMark (w ∷ ws) = IsMark w.token

-- each word is a mark, or a mark follows it
abbrev pub AreSpaced : List Word → Type 0
AreSpaced [] = Unit {0}
AreSpaced (w ∷ ws) = IsWordToken w.token × (IsMark w.token ⊎ BeginWithMark ws) × AreSpaced ws

-- the same whatever follows
abbrev pub EndSpaced : List Word → Type 0
EndSpaced ws = (rest : List Word) → AreSpaced rest → AreSpaced (ws ++ rest)

joined : (xs ys : List Word) → EndSpaced xs → EndSpaced ys → EndSpaced (xs ++ ys)
joined xs ys h k rest all = subst AreSpaced (sym (append_assoc xs ys rest)) (h (ys ++ rest) (k rest all))

each_spaced : {A : Type 0} (f : A → List Word) → ((x : A) → EndSpaced (f x)) → (xs : List A) → EndSpaced (flat_map f xs)
each_spaced f h [] rest all = all
each_spaced f h (x ∷ xs) rest all = joined (f x) (flat_map f xs) (h x) (each_spaced f h xs) rest all

-- Parameters: a mark follows each.

abbrev IsSpaced : Param → Type 0
IsSpaced p = (rest : List Word) → BeginWithMark rest → AreSpaced rest → AreSpaced (param_words p ++ rest)

abbrev Known : Type 0
Known = (p : Param) × IsSpaced p

abbrev params_of : List Known → List Param
params_of es = map (λ e. e.0) es

rest_begins : (ps : List Param) (rest : List Word) → BeginWithMark (rest_of_list (words_of ps) ++ rest)
rest_begins [] rest = tt
rest_begins (p ∷ ps) rest = tt

list_begins : (ps : List Param) (rest : List Word) → BeginWithMark (list_words (words_of ps) ++ rest)
list_begins [] rest = tt
list_begins (p ∷ ps) rest = tt

param_spaced : (e : Known) (others rest : List Word) → BeginWithMark (others ++ rest) → AreSpaced (others ++ rest) → AreSpaced ((param_words e.0 ++ others) ++ rest)
param_spaced e others rest first all = subst AreSpaced (sym (append_assoc (param_words e.0) others rest)) (e.1 (others ++ rest) first all)

rest_spaced : (es : List Known) → EndSpaced (rest_of_list (words_of (params_of es)))
rest_spaced [] rest all = (tt, inl tt, all)
rest_spaced (e ∷ es) rest all = (tt, inl tt, param_spaced e (rest_of_list (words_of (params_of es))) rest (rest_begins (params_of es) rest) (rest_spaced es rest all))

list_spaced : (es : List Known) → EndSpaced (list_words (words_of (params_of es)))
list_spaced [] rest all = (tt, inl tt, (tt, inl tt, all))
list_spaced (e ∷ es) rest all = (tt, inl tt, param_spaced e (rest_of_list (words_of (params_of es))) rest (rest_begins (params_of es) rest) (rest_spaced es rest all))

atom_spaced : (p : Param) (w : Word) → param_words p ≡ w ∷ [] → IsWordToken w.token → IsSpaced p
atom_spaced p w e some rest first all = subst (λ ws. AreSpaced (ws ++ rest)) (sym e) (some, inr first, all)

list_layer_spaced : (es : List Known) → IsSpaced (param.List (params_of es))
list_layer_spaced es rest first all = subst (λ ws. AreSpaced (ws ++ rest)) (sym (words_list (params_of es))) (list_spaced es rest all)

typed_layer_spaced : (name : List ℕ) (es : List Known) → IsSpaced (param.Typed name (params_of es))
typed_layer_spaced name es rest first all =
    subst (λ ws. AreSpaced (ws ++ rest)) (sym (words_typed name (params_of es))) (tt, inr (list_begins (params_of es) rest), list_spaced es rest all)

layer_spaced : (y : Param-F Known) → IsSpaced (roll-Param (map-Param Known Param (λ e. e.0) y))
unfolding roll-Param roll
layer_spaced (Param-F.Int v) = atom_spaced (param.Int v) (record { token = Integer; value = v }) (words_int v) tt
layer_spaced (Param-F.Real v) = atom_spaced (param.Real v) (record { token = Real; value = v }) (words_real v) tt
layer_spaced (Param-F.Text v) = atom_spaced (param.Text v) (record { token = Text; value = v }) (words_text v) tt
layer_spaced (Param-F.Enum v) = atom_spaced (param.Enum v) (record { token = Enumeration; value = v }) (words_enum v) tt
layer_spaced (Param-F.Binary v) = atom_spaced (param.Binary v) (record { token = Binary; value = v }) (words_binary v) tt
layer_spaced (Param-F.Ref n) = atom_spaced (param.Ref n) (mark (Number n)) (words_ref n) tt
layer_spaced (Param-F.List es) = list_layer_spaced es
layer_spaced (Param-F.Typed name es) = typed_layer_spaced name es
layer_spaced Param-F.Absent = atom_spaced param.Absent (mark Dollar) words_absent tt
layer_spaced Param-F.Derived = atom_spaced param.Derived (mark Star) words_derived tt

each_param_spaced : (p : Param) → IsSpaced p
each_param_spaced = ind-Param IsSpaced (λ x y is. subst (λ l. IsSpaced (roll-Param l)) is (layer_spaced y))

abbrev known : List Param → List Known
known ps = map (λ p. (p, each_param_spaced p)) ps

params_known : (ps : List Param) → params_of (known ps) ≡ ps
params_known [] = refl
params_known (p ∷ ps) = ap (λ qs. p ∷ qs) (params_known ps)

own_list_spaced : (ps : List Param) → EndSpaced (list_words (words_of ps))
own_list_spaced ps = subst (λ qs. EndSpaced (list_words (words_of qs))) (params_known ps) (list_spaced (known ps))

-- Entities, instances and files.

entity_spaced : (e : Entity) → EndSpaced (entity_words e)
entity_spaced e rest all = (tt, inr (list_begins e.params rest), own_list_spaced e.params rest all)

semicolon_spaced : EndSpaced (mark Semicolon ∷ [])
semicolon_spaced rest all = (tt, inl tt, all)

header_entity_spaced : (e : Entity) → EndSpaced (header_words e)
header_entity_spaced e = joined (entity_words e) (mark Semicolon ∷ []) (entity_spaced e) semicolon_spaced

enclosed_spaced : (es : List Entity) → EndSpaced (enclosed_words es)
enclosed_spaced es rest all =
    (tt, inl tt, joined (flat_map entity_words es) (mark RightParen ∷ []) (each_spaced entity_words entity_spaced es) (λ rest all. (tt, inl tt, all)) rest all)

parts_spaced : (es : List Entity) → EndSpaced (parts_words es)
parts_spaced [] = enclosed_spaced []
parts_spaced (e ∷ []) = entity_spaced e
parts_spaced (d ∷ e ∷ es) = enclosed_spaced (d ∷ e ∷ es)

row_spaced : (i : Instance) → EndSpaced (row_words i)
row_spaced i rest all = (tt, inr tt, (tt, inl tt, joined (parts_words i.parts) (mark Semicolon ∷ []) (parts_spaced i.parts) semicolon_spaced rest all))

opening_spaced : EndSpaced opening_words
opening_spaced rest all = (tt, inr tt, (tt, inl tt, (tt, inr tt, (tt, inl tt, all))))

section_end_spaced : EndSpaced section_end_words
section_end_spaced rest all = (tt, inr tt, (tt, inl tt, all))

file_end_spaced : EndSpaced file_end_words
file_end_spaced rest all = (tt, inr tt, (tt, inl tt, all))

data_spaced : (params : Option (List Param)) → EndSpaced (data_words params)
data_spaced None rest all = (tt, inr tt, (tt, inl tt, all))
data_spaced (Some params) rest all = header_entity_spaced (data_entity params) rest all

section_spaced : (s : Section) (is : List Instance) → EndSpaced (section_words s (rows_words is))
section_spaced s is =
    let begun = joined (data_words s.params) (rows_words is) (data_spaced s.params) (each_spaced row_words row_spaced is) in
    joined (data_words s.params ++ rows_words is) section_end_words begun section_end_spaced

sections_spaced : (ss : List Section) (is : List Instance) → EndSpaced (plainest_sections ss is)
sections_spaced [] is rest all = all
sections_spaced (s ∷ ss) is rest all = joined (section_words s (rows_words (take s.count is))) (plainest_sections ss (drop s.count is)) (section_spaced s (take s.count is)) (sections_spaced ss (drop s.count is)) rest all

pub file_spaced : (f : Content) → AreSpaced (plainest_words f)
file_spaced f =
    let header = flat_map header_words f.header in
    let sections = plainest_sections f.sections f.instances in
    let begun = joined opening_words header opening_spaced (each_spaced header_words header_entity_spaced f.header) in
    let half = joined (opening_words ++ header) section_end_words begun section_end_spaced in
    let most = joined (opening_words ++ header ++ section_end_words) sections half (sections_spaced f.sections f.instances) in
    let all = joined (opening_words ++ header ++ section_end_words ++ sections) file_end_words most file_end_spaced in
    subst AreSpaced (append-nil (plainest_words f)) (all [] tt)
