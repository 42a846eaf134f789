-- Parameters, entities and instances as a file may hold them.
use Rattle.std.proofs.Common.{◌≡◌, ℕ, ◌<◌, ◌≤◌, ◌^◌, true, inl, inr, List, [], ◌∷◌, ◌++◌, length, map, codes, refl, subst, sym, ◌∙◌, lit<, arith}
use Rattle.std.specs.Prelude.{decimal, IsTrue}
use Rattle.std.specs.List.{list_all, AllByRecursion}
use Rattle.std.specs.Char.{is_ascii_digit, digit_value}
use Rattle.std.specs.Str.Parse.{AllDigits}
use Rattle.std.proofs.lemmas.Bool.{and_from}
use Rattle.std.proofs.lemmas.Bool.Decides.{nat_tests}
use Rattle.std.proofs.lemmas.Fmt.{decimal_is_IsNumeral}
use Rattle.sn_lex.specs.Form.{AreDigits, IsName, IsInteger, IsInstanceNumber, doubled}
use Rattle.sn_lex.specs.declared.token.Token.TheVariants.{Number, LeftParen, RightParen, Comma, Semicolon, Equals}
use Rattle.sn_p21.specs.declared.file.Entity.{Entity}
use Rattle.sn_p21.specs.declared.file.Instance.{Instance}
use Rattle.sn_p21.specs.declared.file.Param.{Param}
use Rattle.sn_p21.specs.declared.file.Param.TheVariants as param
use Rattle.sn_p21.specs.declared.limits.TheConstants.{MAX_OPEN_LISTS}
use Rattle.sn_p21.specs.Word.{Word, IsSpelled, mark, keyword}
use Rattle.sn_p21.specs.Grammar.{param_words, list_words, rest_of_list, entity_words, parts_words, instance_words, greatest, nesting, is_whole, IsWhole, IsNestedWithin}
use Rattle.sn_report.specs.Generated.{to, none, whole, below_zero, simple}
use Rattle.sn_report.proofs.Layers.{IsOneWord, int_word, real_word, text_word, enum_word, ref_word, absent_word, list_has_words, list_nests, list_is_whole}

abbrev pub AreSpelled : List Word → Type 0
AreSpelled ws = AllByRecursion IsSpelled ws

pub join_all : {A : Type 0} (P : A → Type 0) (xs ys : List A) → AllByRecursion P xs → AllByRecursion P ys → AllByRecursion P (xs ++ ys)
join_all P [] ys h k = k
join_all P (x ∷ xs) ys h k = (h.0, join_all P xs ys h.1 k)

-- Words.

pub comma_spelled : IsSpelled (mark Comma)
comma_spelled = (codes ",", (refl, refl))

pub semicolon_spelled : IsSpelled (mark Semicolon)
semicolon_spelled = (codes ";", (refl, refl))

pub keyword_spelled : (name : List ℕ) → IsName name → IsSpelled (keyword name)
keyword_spelled name is = (name, (inl is, refl))

opens : IsSpelled (mark LeftParen)
opens = (codes "(", (refl, refl))

closes : IsSpelled (mark RightParen)
closes = (codes ")", (refl, refl))

equals_spelled : IsSpelled (mark Equals)
equals_spelled = (codes "=", (refl, refl))

-- Digits.

digit : (c : ℕ) → digit_value c < 10 → is_ascii_digit c ≡ true
digit c h = grind (arith, nat_tests)

all_digits : (text : List ℕ) → AllDigits 10 text → list_all is_ascii_digit text ≡ true
all_digits [] h = refl
all_digits (c ∷ cs) h = and_from (is_ascii_digit c) (list_all is_ascii_digit cs) (digit c h.0) (all_digits cs h.1)

decimal_digits : (n : ℕ) → n < 2 ^ 32 → AreDigits (decimal n)
decimal_digits n fits = let is = decimal_is_IsNumeral n (omega arith) in (is.0.0, all_digits (decimal n) is.0.1)

number_spelled : (n : ℕ) → IsInstanceNumber n → IsSpelled (mark (Number n))
number_spelled n is = (codes "#" ++ decimal n, ((is, (decimal n, decimal_digits n is.1, (decimal_is_IsNumeral n (let h = is.1 in omega arith)).1, refl)), refl))

-- Parameters.

-- its words have texts, each typed parameter in it has one parameter, and it nests no deeper than this
pub record IsSound (depth : ℕ) (p : Param) : Type 0 where
  pub spelled : AreSpelled (param_words p)
  pub whole : is_whole p ≡ true
  pub nested : nesting p ≤ depth

abbrev pub AreSound : ℕ → List Param → Type 0
AreSound depth ps = AllByRecursion (IsSound depth) ps

one_word : (depth : ℕ) (p : Param) (w : Word) → IsOneWord p w → IsSpelled w → IsSound depth p
one_word depth p w is spelled = record {
  spelled = subst AreSpelled (sym is.words) (spelled, tt);
  whole = is.whole;
  nested = let h = is.nested in omega arith;
}

pub text_sound : (depth : ℕ) (v : List ℕ) → IsSound depth (param.Text v)
text_sound depth v = one_word depth _ _ (text_word v) (39 ∷ (doubled v ++ 39 ∷ []), ((v, refl), refl))

pub none_sound : (depth : ℕ) → IsSound depth none
none_sound depth = one_word depth _ _ absent_word (codes "$", (refl, refl))

pub ref_sound : (depth n : ℕ) → IsInstanceNumber n → IsSound depth (to n)
ref_sound depth n is = one_word depth _ _ (ref_word n) (number_spelled n is)

pub enum_sound : (depth : ℕ) (name : List ℕ) → IsName name → IsSound depth (param.Enum name)
enum_sound depth name is = one_word depth _ _ (enum_word name) (46 ∷ (name ++ 46 ∷ []), ((name, is, refl), refl))

pub int_sound : (depth : ℕ) (digits : List ℕ) → AreDigits digits → IsSound depth (param.Int digits)
int_sound depth digits are = one_word depth _ _ (int_word digits) (digits, (inl are, refl))

integer_real_sound : (depth : ℕ) (integer fraction : List ℕ) → IsInteger integer → IsTrue (list_all is_ascii_digit fraction) → IsSound depth (param.Real (integer ++ (codes "." ++ fraction)))
integer_real_sound depth integer fraction is are =
    one_word depth _ _ (real_word (integer ++ (codes "." ++ fraction))) (integer ++ (codes "." ++ fraction), (inl (integer, fraction, is, are, refl), refl))

-- digits, a point and digits or none
pub real_sound : (depth : ℕ) (integer fraction : List ℕ) → AreDigits integer → IsTrue (list_all is_ascii_digit fraction) → IsSound depth (param.Real (integer ++ (codes "." ++ fraction)))
real_sound depth integer fraction is are = integer_real_sound depth integer fraction (inl is) are

-- a minus sign, digits and a point
pub negative_sound : (depth : ℕ) (digits : List ℕ) → AreDigits digits → IsSound depth (param.Real (codes "-" ++ digits ++ codes "."))
negative_sound depth digits are = integer_real_sound depth (45 ∷ digits) [] (inr (45, digits, refl, are, refl)) refl

pub whole_sound : (depth n : ℕ) → n < 2 ^ 32 → IsSound depth (whole n)
whole_sound depth n fits = real_sound depth (decimal n) [] (decimal_digits n fits) refl

pub below_zero_sound : (depth n : ℕ) → n < 2 ^ 32 → IsSound depth (below_zero n)
below_zero_sound depth n fits = negative_sound depth (decimal n) (decimal_digits n fits)

-- Lists of parameters.

rest_spelled : (depth : ℕ) (ps : List Param) → AreSound depth ps → AreSpelled (rest_of_list (map param_words ps))
rest_spelled depth [] all = (closes, tt)
rest_spelled depth (p ∷ ps) all = (comma_spelled, join_all IsSpelled (param_words p) _ all.0.spelled (rest_spelled depth ps all.1))

pub list_spelled : (depth : ℕ) (ps : List Param) → AreSound depth ps → AreSpelled (list_words (map param_words ps))
list_spelled depth [] all = (opens, (closes, tt))
list_spelled depth (p ∷ ps) all = (opens, join_all IsSpelled (param_words p) _ all.0.spelled (rest_spelled depth ps all.1))

pub all_whole : (depth : ℕ) (ps : List Param) → AreSound depth ps → list_all is_whole ps ≡ true
all_whole depth [] all = refl
all_whole depth (p ∷ ps) all = and_from (is_whole p) (list_all is_whole ps) all.0.whole (all_whole depth ps all.1)

pub nested_within : (depth : ℕ) (ps : List Param) → AreSound depth ps → greatest (map nesting ps) ≤ depth
nested_within depth [] all = omega arith
nested_within depth (p ∷ ps) all = let first = all.0.nested in let rest = nested_within depth ps all.1 in omega arith

pub list_sound : (ps : List Param) → AreSound 0 ps → IsSound 1 (param.List ps)
list_sound ps all = record {
  spelled = subst AreSpelled (sym (list_has_words ps)) (list_spelled 0 ps all);
  whole = list_is_whole ps ∙ all_whole 0 ps all;
  nested = let h = nested_within 0 ps all in omega (arith, list_nests ps);
}

pub numbers_sound : (depth : ℕ) (ns : List ℕ) → AllByRecursion IsInstanceNumber ns → AreSound depth (map to ns)
numbers_sound depth [] all = tt
numbers_sound depth (n ∷ ns) all = (ref_sound depth n all.0, numbers_sound depth ns all.1)

-- Entities and instances.

pub record IsSoundEntity (e : Entity) : Type 0 where
  pub spelled : AreSpelled (entity_words e)
  pub whole : IsWhole e
  pub nested : IsNestedWithin MAX_OPEN_LISTS e

pub entity_sound : (name : List ℕ) (ps : List Param) → IsName name → AreSound 1 ps → IsSoundEntity (record { keyword = name; params = ps })
entity_sound name ps is all = record {
  spelled = (keyword_spelled name is, list_spelled 1 ps all);
  whole = all_whole 1 ps all;
  nested = let h = nested_within 1 ps all in omega arith;
}

pub record IsSoundInstance (i : Instance) : Type 0 where
  pub some : 0 < length i.parts
  pub spelled : AreSpelled (instance_words i.number (parts_words i.parts))
  pub parts : AllByRecursion IsSoundEntity i.parts

abbrev pub AreSoundInstances : List Instance → Type 0
AreSoundInstances is = AllByRecursion IsSoundInstance is

pub simple_sound : (n : ℕ) (name : List ℕ) (ps : List Param) → IsInstanceNumber n → IsName name → AreSound 1 ps → IsSoundInstance (simple n name ps)
simple_sound n name ps number is all =
    let e = entity_sound name ps is all in
    record {
      some = lit< tt;
      spelled = (number_spelled n number, (equals_spelled, join_all IsSpelled (keyword name ∷ list_words (map param_words ps)) _ e.spelled (semicolon_spelled, tt)));
      parts = (e, tt);
    }
