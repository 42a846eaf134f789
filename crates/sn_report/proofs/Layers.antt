-- The words, the nesting and the form of each kind of parameter.
use Rattle.std.proofs.Common.{◌≡◌, ℕ, ◌+◌, Bool, true, ◌&&◌, List, [], ◌∷◌, map, refl, ap, ◌∙◌}
use Rattle.std.specs.List.{list_all}
use denote.Hole.Carrier.{roll}
use Rattle.sn_lex.specs.declared.token.Token.TheVariants.{Number, Integer, Real, Text, Enumeration, Dollar}
use Rattle.sn_p21.specs.declared.file.Param.{Param}
use Rattle.sn_p21.specs.declared.file.Param.TheVariants as param
use Rattle.sn_p21.specs.declared.file.Param.TheOpen.{Param-F}
use Rattle.sn_p21.specs.declared.file.Param.TheViews.{roll-Param}
use Rattle.sn_p21.specs.declared.file.Param.TheFolds.{fold-roll-Param}
use Rattle.sn_p21.specs.Word.{Word, mark}
use Rattle.sn_p21.specs.Grammar.{param_words, layer_words, list_words, nesting, layer_nesting, greatest, is_whole, layer_is_whole}

-- a parameter of one word: its word, its form, and no nesting
pub record IsOneWord (p : Param) (w : Word) : Type 0 where
  pub words : param_words p ≡ w ∷ []
  pub whole : is_whole p ≡ true
  pub nested : nesting p ≡ 0

pub int_word : (v : List ℕ) → IsOneWord (param.Int v) (record { token = Integer; value = v })
unfolding roll-Param roll
int_word v = record {
  words = fold-roll-Param (List Word) layer_words (Param-F.Int v);
  whole = fold-roll-Param Bool layer_is_whole (Param-F.Int v);
  nested = fold-roll-Param ℕ layer_nesting (Param-F.Int v);
}

pub real_word : (v : List ℕ) → IsOneWord (param.Real v) (record { token = Real; value = v })
unfolding roll-Param roll
real_word v = record {
  words = fold-roll-Param (List Word) layer_words (Param-F.Real v);
  whole = fold-roll-Param Bool layer_is_whole (Param-F.Real v);
  nested = fold-roll-Param ℕ layer_nesting (Param-F.Real v);
}

pub text_word : (v : List ℕ) → IsOneWord (param.Text v) (record { token = Text; value = v })
unfolding roll-Param roll
text_word v = record {
  words = fold-roll-Param (List Word) layer_words (Param-F.Text v);
  whole = fold-roll-Param Bool layer_is_whole (Param-F.Text v);
  nested = fold-roll-Param ℕ layer_nesting (Param-F.Text v);
}

pub enum_word : (v : List ℕ) → IsOneWord (param.Enum v) (record { token = Enumeration; value = v })
unfolding roll-Param roll
enum_word v = record {
  words = fold-roll-Param (List Word) layer_words (Param-F.Enum v);
  whole = fold-roll-Param Bool layer_is_whole (Param-F.Enum v);
  nested = fold-roll-Param ℕ layer_nesting (Param-F.Enum v);
}

pub ref_word : (n : ℕ) → IsOneWord (param.Ref n) (mark (Number n))
unfolding roll-Param roll
ref_word n = record {
  words = fold-roll-Param (List Word) layer_words (Param-F.Ref n);
  whole = fold-roll-Param Bool layer_is_whole (Param-F.Ref n);
  nested = fold-roll-Param ℕ layer_nesting (Param-F.Ref n);
}

pub absent_word : IsOneWord param.Absent (mark Dollar)
unfolding roll-Param roll
absent_word = record {
  words = fold-roll-Param (List Word) layer_words Param-F.Absent;
  whole = fold-roll-Param Bool layer_is_whole Param-F.Absent;
  nested = fold-roll-Param ℕ layer_nesting Param-F.Absent;
}

pub list_has_words : (ps : List Param) → param_words (param.List ps) ≡ list_words (map param_words ps)
unfolding roll-Param roll
list_has_words ps = fold-roll-Param (List Word) layer_words (Param-F.List ps)

pub list_nests : (ps : List Param) → nesting (param.List ps) ≡ greatest (map nesting ps) + 1
unfolding roll-Param roll
list_nests ps = fold-roll-Param ℕ layer_nesting (Param-F.List ps)

all_map : (ps : List Param) → list_all (λ b. b) (map is_whole ps) ≡ list_all is_whole ps
all_map [] = refl
all_map (p ∷ ps) = ap (λ b. is_whole p && b) (all_map ps)

pub list_is_whole : (ps : List Param) → is_whole (param.List ps) ≡ list_all is_whole ps
unfolding roll-Param roll
list_is_whole ps = fold-roll-Param Bool layer_is_whole (Param-F.List ps) ∙ all_map ps
